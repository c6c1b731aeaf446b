use Rattle.std.proofs.Common.{◌≡◌, ◌++◌, drop, suc}
use Rattle.node_core.specs.Standing.{NodeStands}
use Rattle.node_model.specs.States.{NodeState}
use Rattle.net_report.specs.ToldLines.{last_texts}
use Rattle.net_report.proofs.reports.write_ends.Given as goal

abbrev pub invariant-loop-place : goal.invariant-loop-place
invariant-loop-place l =
    (n : NodeState) → NodeStands l.node n
    → l.text ++ last_texts l.number (suc l.place) (drop l.place l.ends) n.station.set.set.ends ≡ l.fn.text ++ last_texts l.number 1 l.ends n.station.set.set.ends
