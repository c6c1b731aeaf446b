use Rattle.std.proofs.Common.{length}
use Rattle.station_file.proofs.check.+tell_members.Given as goal

abbrev pub decreases-tell_members : goal.decreases-tell_members
decreases-tell_members l = length l.members.now
