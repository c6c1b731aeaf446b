use Rattle.std.proofs.Common.{length}
use Rattle.network_file.proofs.plan.channels.+mark.Given as goal

abbrev pub decreases-mark : goal.decreases-mark
decreases-mark l = length l.nodes.now
