use Rattle.std.proofs.Common.{length}
use Rattle.node_core.proofs.node.+are_callsigns.Given as goal

abbrev pub decreases-are_callsigns : goal.decreases-are_callsigns
decreases-are_callsigns l = length l.repeaters.now
