use Rattle.std.proofs.Common.{length}
use Rattle.station_settings.proofs.beacons.+add_beacons.Given as goal

abbrev pub decreases-add_beacons : goal.decreases-add_beacons
decreases-add_beacons l = length l.beacons.now
