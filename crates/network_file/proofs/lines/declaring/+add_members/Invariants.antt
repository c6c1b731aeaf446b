use Rattle.std.proofs.Common.{length}
use Rattle.network_file.proofs.lines.declaring.+add_members.Given as goal

abbrev pub decreases-add_members : goal.decreases-add_members
decreases-add_members l = length l.words.now
