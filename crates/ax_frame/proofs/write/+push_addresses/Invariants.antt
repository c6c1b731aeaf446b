use Rattle.std.proofs.Common.{length}
use Rattle.ax_frame.proofs.write.+push_addresses.Given as goal

abbrev pub decreases-push_addresses : goal.decreases-push_addresses
decreases-push_addresses l = length l.more.now
