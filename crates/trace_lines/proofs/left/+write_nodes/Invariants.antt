use Rattle.std.proofs.Common.{length}
use Rattle.trace_lines.proofs.left.+write_nodes.Given as goal

abbrev pub decreases-write_nodes : goal.decreases-write_nodes
decreases-write_nodes l = length l.members.now
