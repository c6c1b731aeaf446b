use Rattle.circuit_table.specs.Standing.{SameNode, TicksTo}
use Rattle.circuit_table.proofs.held_ends.HeldEnds.tick.Given as goal

-- the ends before this place have been ticked
abbrev pub invariant-loop-nth : goal.invariant-loop-nth
invariant-loop-nth l = SameNode l.fn.self l.self × TicksTo l.now.0 l.nth l.fn.self.ends.entries l.self.ends.entries
