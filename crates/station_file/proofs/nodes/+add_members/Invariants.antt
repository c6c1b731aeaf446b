use Rattle.std.proofs.Common.{length}
use Rattle.station_file.proofs.nodes.+add_members.Given as goal

abbrev pub decreases-add_members : goal.decreases-add_members
decreases-add_members l = length l.items.now
