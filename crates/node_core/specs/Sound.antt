-- What holds of the code of every node that isn't spent.
use Rattle.std.specs.Prelude.{◌≡◌, ◌≤◌, Bool, List, []}
use Rattle.std.specs.List.{AllByRecursion}
use Rattle.link_table.specs.Reaching.{IsCall}
use Rattle.node_core.specs.declared.config.NodeConfig.{NodeConfig}
use Rattle.node_core.specs.Bounds.{IsWithin, pairs_of}
use Rattle.node_core.specs.Bridged.{AsksForCall, Input, after_all}
use Rattle.node_core.specs.Configs.{node_of}
use Rattle.node_core.specs.Standing.{Kept, NodeStands, IsDrained}
use Rattle.node_model.specs.States.{NodeState}

-- inputs have led to it, from the start of a node with a call on
pub record IsReached (n : NodeState) : Type 0 where
  pub hosts : Bool
  pub config : NodeConfig
  pub inputs : List Input
  pub call : IsCall config.call
  pub asked : AllByRecursion AsksForCall inputs
  pub is : after_all inputs (node_of hosts config) ≡ n

-- between two inputs a node stands for some state to which inputs have led, nothing of its circuits is untold, and each datagram that
-- came was collected
pub record IsSound (k : Kept) : Type 0 where
  pub state : NodeState
  pub stands : NodeStands k state
  pub drained : IsDrained k.station
  pub collected : state.station.links.pending.waiting ≡ []
  pub reached : IsReached state

-- it keeps no more than its bound where its table has no more pairs, as each table sees to by itself
abbrev pub KeepsItsShare : Type 0
KeepsItsShare = (k : Kept) → IsSound k → pairs_of k ≤ 16384 → IsWithin k
