use Rattle.std.proofs.Common.{length}
use Rattle.station_file.proofs.items.qualities.+add_qualities.Given as goal

abbrev pub decreases-add_qualities : goal.decreases-add_qualities
decreases-add_qualities l = length l.items.now
