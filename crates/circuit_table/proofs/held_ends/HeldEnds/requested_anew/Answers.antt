use Rattle.std.proofs.Common.{Some}
use Rattle.circuit_table.proofs.Making.{answers_anew, refuses}
use Rattle.circuit_table.proofs.held_ends.HeldEnds.requested_anew.Goals as goal

pub returns-then-is_full-clause-gives : goal.returns-then-is_full-clause-gives
returns-then-is_full-clause-gives c = λ s st. refuses c.args.self.now s st c.args.origin c.args.datagram.items c.args.pair c.args.window c.args.now.0 c.is_full.result c.if-is_full.true (c.is_full.ensures.exact s st)

pub returns-clause-gives : goal.returns-clause-gives
returns-clause-gives c = λ s st. answers_anew c.respond.new.self s c.args.origin c.args.datagram.items c.args.pair c.args.window c.args.now.0 (Some c.in_ok-made.made) c.is_full.result c.if-is_full.false (c.is_full.ensures.exact s st) (c.in_ok-made.ensures.gives s st)
