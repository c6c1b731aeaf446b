use Rattle.std.proofs.Common.{length}
use Rattle.station_file.proofs.nodes.+need_few_qualities.Given as goal

abbrev pub decreases-need_few_qualities : goal.decreases-need_few_qualities
decreases-need_few_qualities l = length l.members.now
