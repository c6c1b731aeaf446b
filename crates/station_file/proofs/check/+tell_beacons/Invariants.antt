use Rattle.std.proofs.Common.{length}
use Rattle.station_file.proofs.check.+tell_beacons.Given as goal

abbrev pub decreases-tell_beacons : goal.decreases-tell_beacons
decreases-tell_beacons l = length l.beacons.now
