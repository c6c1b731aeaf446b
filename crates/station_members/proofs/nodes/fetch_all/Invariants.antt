use Rattle.std.proofs.Common.{◌≡◌, ◌++◌}
use Rattle.node_core.specs.Standing.{NodeStands, frames_left}
use Rattle.node_model.specs.States.{NodeState, frames}
use Rattle.station_members.specs.Nodes.{all_fetched}
use Rattle.station_members.proofs.nodes.fetch_all.Given as goal

abbrev pub invariant-loop-frame : goal.invariant-loop-frame
invariant-loop-frame l = (n : NodeState) → NodeStands l.fn.node n
    → (m : NodeState) × NodeStands l.node m
    × ((l.fetched.items ++ frames m.station ≡ frames n.station) × (all_fetched m ≡ all_fetched n))

abbrev pub decreases-loop-frame : goal.decreases-loop-frame
decreases-loop-frame l = frames_left l.node
