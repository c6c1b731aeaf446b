use Rattle.std.proofs.Common.{length}
use Rattle.network_file.proofs.plan.channels.+mark_near.Given as goal

abbrev pub decreases-mark_near : goal.decreases-mark_near
decreases-mark_near l = length l.channels.now
