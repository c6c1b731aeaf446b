use Rattle.std.proofs.Common.{List, [], map, take}
use Rattle.circuit_verdict.specs.declared.allowance.Allowance.{Allowance}
use Rattle.net_verdict.specs.Causes.{HasTaken}
use Rattle.net_model.specs.Circuits.{events_at}
use Rattle.net_model.specs.Events.{numbered_of}
use Rattle.net_model.specs.Standing.{AreDeclared}
use Rattle.net_model.specs.Starting.{Placed}
use Rattle.net_verdict.proofs.causes.first_late.Given as goal

abbrev pub invariant-loop-at : goal.invariant-loop-at
invariant-loop-at l =
    (a : Allowance) (nodes : List Placed) → AreDeclared l.members nodes → HasTaken a l.fn.verdict [] → HasTaken a l.verdict (events_at nodes (map numbered_of (take l.at l.events)))
