use Rattle.std.proofs.Common.{◌≡◌, take}
use Rattle.circuit_table.specs.CircuitSets.{held_ids}
use Rattle.node_core.specs.Standing.{NodeStands}
use Rattle.node_model.specs.States.{NodeState}
use Rattle.station_looks.proofs.nodes.ends_of.Given as goal

abbrev pub invariant-loop-nth : goal.invariant-loop-nth
invariant-loop-nth l = (n : NodeState) → NodeStands l.node n → l.ends.items ≡ take l.nth (held_ids n.station.set.set.ends)
