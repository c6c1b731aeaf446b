use Rattle.station_members.specs.States.{hear_at}
use Rattle.station_members.proofs.Loops.{Each}
use Rattle.station_members.proofs.backplane.Backplane.hear_all.Given as goal

abbrev pub invariant-loop-at : goal.invariant-loop-at
invariant-loop-at l = Each (hear_at l.port l.heading l.octets l.now) l.at l.fn.self l.self
