use Rattle.station_members.specs.States.{round_at}
use Rattle.station_members.proofs.Loops.{Each}
use Rattle.station_members.proofs.backplane.Backplane.round.Given as goal

abbrev pub invariant-loop-at : goal.invariant-loop-at
invariant-loop-at l = Each (round_at l.now) l.at l.fn.self l.self
