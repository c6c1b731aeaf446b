use Rattle.std.proofs.Common.{length}
use Rattle.node_core.proofs.sessions.hearing.+is_served.Given as goal

abbrev pub decreases-is_served : goal.decreases-is_served
decreases-is_served l = length l.all.now
