use Rattle.std.proofs.Common.{◌≡◌, ◌++◌, drop, suc}
use Rattle.node_core.specs.Standing.{NodeStands}
use Rattle.node_model.specs.States.{NodeState}
use Rattle.trace_lines.specs.Left.{ends_text}
use Rattle.trace_lines.proofs.left.write_ends.Given as goal

abbrev pub invariant-loop-place : goal.invariant-loop-place
invariant-loop-place l =
    (n : NodeState) → NodeStands l.node n
    → l.out ++ ends_text l.number (suc l.place) (drop l.place l.ends) n.station.set.set.ends ≡ l.fn.out ++ ends_text l.number 1 l.ends n.station.set.set.ends
