use Rattle.circuit_table.proofs.Making.{full_else, full_then}
use Rattle.circuit_table.proofs.held_ends.HeldEnds.is_full.Goals as goal

pub returns-then-len-ge-MAX_ENDS-clause-exact : goal.returns-then-len-ge-MAX_ENDS-clause-exact
returns-then-len-ge-MAX_ENDS-clause-exact c = λ s st. full_then c.args.self.now s st c.len.result c.len.ensures.len c.if-len-ge-MAX_ENDS.true

pub returns-else-len-ge-MAX_ENDS-clause-exact : goal.returns-else-len-ge-MAX_ENDS-clause-exact
returns-else-len-ge-MAX_ENDS-clause-exact c = λ s st. full_else c.args.self.now s st c.len.result c.len.ensures.len c.if-len-ge-MAX_ENDS.false
