use Rattle.station_members.specs.States.{tick_at}
use Rattle.station_members.proofs.Loops.{Each}
use Rattle.station_members.proofs.backplane.Backplane.tick_all.Given as goal

abbrev pub invariant-loop-at : goal.invariant-loop-at
invariant-loop-at l = Each (tick_at l.now) l.at l.fn.self l.self
