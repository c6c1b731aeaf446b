use Rattle.std.proofs.Common.{◌≡◌}
use Rattle.station_members.specs.Beacons.{ticked}
use Rattle.station_members.proofs.DeskMoves.{done_for}
use Rattle.station_members.proofs.waiting.tick_all.Given as goal

abbrev pub invariant-loop-at : goal.invariant-loop-at
invariant-loop-at l = l.beacons.items ≡ done_for (ticked l.now.0) l.at l.fn.beacons.items
