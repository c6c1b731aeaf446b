use Rattle.std.proofs.Common.{length}
use Rattle.station_file.proofs.check.+tell_standing.Given as goal

abbrev pub decreases-tell_standing : goal.decreases-tell_standing
decreases-tell_standing l = length l.numbers.now
