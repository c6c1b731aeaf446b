use Rattle.std.proofs.Common.{length}
use Rattle.station_members.proofs.waiting.+put_due.Given as goal

abbrev pub decreases-put_due : goal.decreases-put_due
decreases-put_due l = length l.beacons.now
