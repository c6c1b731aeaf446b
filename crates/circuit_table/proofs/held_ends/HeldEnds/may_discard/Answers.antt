use Rattle.std.proofs.Common.{sym, subst, ◌∙◌}
use Rattle.circuit_table.specs.Standing.{HasEnded}
use Rattle.circuit_table.proofs.Moving.{discard_ended, discard_open, no_discard}
use Rattle.circuit_table.proofs.held_ends.HeldEnds.may_discard.Goals as goal

pub returns-then-not-has_ended-clause-answer : goal.returns-then-not-has_ended-clause-answer
returns-then-not-has_ended-clause-answer c = λ s st. discard_open c.args.self.now c.args.id s st c.in-Some.holder.now (sym c.in-Some.ensures.value) c.has_ended.result c.if-not-has_ended.true c.has_ended.ensures

pub returns-else-not-has_ended-clause-answer : goal.returns-else-not-has_ended-clause-answer
returns-else-not-has_ended-clause-answer c = λ s st. discard_ended c.args.self.now c.args.id s st c.in-Some.holder.now (sym c.in-Some.ensures.value) c.has_ended.result c.if-not-has_ended.false c.has_ended.ensures

pub returns-else-not-has_ended-clause-ended : goal.returns-else-not-has_ended-clause-ended
returns-else-not-has_ended-clause-ended c = subst HasEnded c.in-Some.ensures.value (λ x y. sym c.if-not-has_ended.false ∙ c.has_ended.ensures x y)

pub returns-in-None-clause-answer : goal.returns-in-None-clause-answer
returns-in-None-clause-answer c = λ s st. no_discard c.args.self.now c.args.id s st (sym c.in-None.ensures.value)
