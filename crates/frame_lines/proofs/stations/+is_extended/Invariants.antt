use Rattle.std.proofs.Common.{length}
use Rattle.frame_lines.proofs.stations.+is_extended.Given as goal

abbrev pub decreases-is_extended : goal.decreases-is_extended
decreases-is_extended l = length l.pairs.now
