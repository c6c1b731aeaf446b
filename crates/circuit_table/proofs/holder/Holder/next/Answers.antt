use Rattle.std.proofs.Common.{sym, ◌∙◌}
use Rattle.circuit_table.proofs.Telling.{no_first, out, told_gone, told_notice}
use Rattle.circuit_table.proofs.holder.Holder.next.Goals as goal

pub returns-in-Some-clause-tells : goal.returns-in-Some-clause-tells
returns-in-Some-clause-tells c = λ own ttl h told s some.
    out own ttl c.args.id c.args.self.now h told s c.if-self.false (c.in-Some.transport, c.in-Some.number) c.next_out.new.self (sym c.in-Some.is ∙ c.next_out.ensures.value) c.next_out.ensures.rest

pub returns-in-Some-notice-clause-tells : goal.returns-in-Some-notice-clause-tells
returns-in-Some-notice-clause-tells c = λ own ttl h told s some.
    told_notice own ttl c.args.id c.args.self.now h told s c.if-self.false c.in-Some-notice.notice c.next_out.new.self c.notice.new.self
    (no_first _ c.in_default.not-Some ∙ c.next_out.ensures.value) c.next_out.ensures.rest (sym c.in-Some-notice.is ∙ c.notice.ensures.value) c.notice.ensures.rest

pub returns-clause-tells : goal.returns-clause-tells
returns-clause-tells c = λ own ttl h told s some.
    told_gone own ttl c.args.id c.args.self.now h told s c.if-self.false c.facts-facts.result c.next_out.new.self c.notice.new.self some
    (no_first _ c.in_default.not-Some ∙ c.next_out.ensures.value) c.next_out.ensures.rest c.in_default-notice.ensures.value c.notice.ensures.rest c.facts-facts.ensures
