use Rattle.std.proofs.Common.{length}
use Rattle.station_members.proofs.nodes.+first_telling.Given as goal

abbrev pub decreases-first_telling : goal.decreases-first_telling
decreases-first_telling l = length l.nodes.now
