use Rattle.station_members.specs.States.{held_at}
use Rattle.station_members.proofs.Loops.{Each}
use Rattle.station_members.proofs.backplane.Backplane.send_held.Given as goal

abbrev pub invariant-loop-at : goal.invariant-loop-at
invariant-loop-at l = Each (held_at l.now) l.at l.fn.self l.self
