use Rattle.station_members.specs.States.{deliver_to}
use Rattle.station_members.proofs.Loops.{Each}
use Rattle.station_members.proofs.backplane.Backplane.deliver_all.Given as goal

abbrev pub invariant-loop-to : goal.invariant-loop-to
invariant-loop-to l = Each (deliver_to l.now l.from l.octets) l.to l.fn.self l.self
