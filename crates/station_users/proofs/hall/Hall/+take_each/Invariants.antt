use Rattle.std.proofs.Common.{length}
use Rattle.station_users.proofs.hall.Hall.+take_each.Given as goal

abbrev pub decreases-take_each : goal.decreases-take_each
decreases-take_each l = length l.peers.now
