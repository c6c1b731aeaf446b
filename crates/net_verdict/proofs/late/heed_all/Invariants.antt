use Rattle.std.proofs.Common.{List, drop, map}
use Rattle.circuit_verdict.specs.declared.verdict.Verdict.{Verdict}
use Rattle.net_model.specs.Circuits.{events_at}
use Rattle.net_model.specs.Events.{numbered_of}
use Rattle.net_verdict.specs.Judging.{Heeds}
use Rattle.net_model.specs.Standing.{AreDeclared}
use Rattle.net_model.specs.Starting.{Placed}
use Rattle.net_verdict.proofs.late.heed_all.Given as goal

abbrev pub invariant-loop-numbered : goal.invariant-loop-numbered
invariant-loop-numbered l =
    (nodes : List Placed) (last : Verdict) → AreDeclared l.members nodes → Heeds l.verdict last (events_at nodes (map numbered_of (drop l.numbered-index l.events)))
    → Heeds l.fn.verdict last (events_at nodes (map numbered_of l.events))
