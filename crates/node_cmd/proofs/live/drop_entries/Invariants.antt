use Rattle.std.proofs.Common.{◌≡◌}
use Rattle.node_core.specs.Fetching.{without_entries}
use Rattle.node_core.specs.Standing.{NodeStands, entries_left}
use Rattle.node_model.specs.States.{NodeState}
use Rattle.node_cmd.proofs.live.drop_entries.Given as goal

abbrev pub invariant-loop-entry : goal.invariant-loop-entry
invariant-loop-entry l = (n : NodeState) → NodeStands l.fn.node n
    → (m : NodeState) × NodeStands l.node m × (record m { station = without_entries m.station } ≡ record n { station = without_entries n.station })

abbrev pub decreases-loop-entry : goal.decreases-loop-entry
decreases-loop-entry l = entries_left l.node
