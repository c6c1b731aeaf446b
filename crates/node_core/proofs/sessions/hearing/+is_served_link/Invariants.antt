use Rattle.std.proofs.Common.{length}
use Rattle.node_core.proofs.sessions.hearing.+is_served_link.Given as goal

abbrev pub decreases-is_served_link : goal.decreases-is_served_link
decreases-is_served_link l = length l.all.now
