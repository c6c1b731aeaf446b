use Rattle.std.proofs.Common.{length}
use Rattle.net_report.proofs.reports.+write_nodes.Given as goal

abbrev pub decreases-write_nodes : goal.decreases-write_nodes
decreases-write_nodes l = length l.members.now
