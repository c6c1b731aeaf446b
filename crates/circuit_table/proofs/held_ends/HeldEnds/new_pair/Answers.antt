use Rattle.std.proofs.Common.{◌∙◌}
use Rattle.circuit_table.proofs.Making.{pair_is}
use Rattle.circuit_table.proofs.held_ends.HeldEnds.new_pair.Goals as goal

pub returns : goal.returns
returns c = λ s st. c.next_free.ensures ∙ pair_is c.args.self.now s st c.as_slice.result c.as_slice.ensures.entries
