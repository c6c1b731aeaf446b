use Rattle.std.proofs.Common.{◌≡◌, ◌++◌, drop, suc}
use Rattle.node_core.specs.Standing.{NodeStands}
use Rattle.node_model.specs.States.{NodeState}
use Rattle.net_report.specs.Reports.{facts_from}
use Rattle.net_report.proofs.soak.add_ends.Given as goal

abbrev pub invariant-loop-place : goal.invariant-loop-place
invariant-loop-place l =
    (n : NodeState) → NodeStands l.node n
    → l.ends.items ++ facts_from (suc l.place) (drop l.place l.made) n.station.set.set.ends ≡ l.fn.ends.items ++ facts_from 1 l.made n.station.set.set.ends
