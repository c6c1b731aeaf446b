use Rattle.std.proofs.Common.{length}
use Rattle.net_report.proofs.soak.+add_nodes.Given as goal

abbrev pub decreases-add_nodes : goal.decreases-add_nodes
decreases-add_nodes l = length l.members.now
