use Rattle.std.proofs.Common.{◌∙◌, sym, ap, arith}
use Rattle.node_mail.specs.Lists.{is_readable}
use Rattle.std.specs.Map.{values_of}
use Rattle.node_mail.proofs.Mailboxes.{counted_set, fewer, found_mail, killed_values, unkilled}
use Rattle.node_mail.proofs.mailbox.Mailbox.kill.Goals as goal

pub overflow_sub-self : goal.overflow_sub-self
overflow_sub-self c =
    let there = rw (← c.self.view_is) at (sym c.has_text.ensures ∙ c.if-not-has_text.false) in
    let less = fewer (values_of c.self.inside.mails.entries) c.args.origin.now c.args.number there in
    omega (arith, less, c.self.invariant.counted)

pub invariant_of-self : goal.invariant_of-self
invariant_of-self c =
    let there = rw (← c.self.view_is) at (sym c.has_text.ensures ∙ c.if-not-has_text.false) in
    counted_set c.self.inside.mails.entries _ c.self.inside.texts c.args.origin.now c.args.number c.in-Some.mail.now _ c.self.invariant (sym c.in-Some.ensures.value) there
    (ap (λ items. record c.in-Some.mail.now { text = record { items = items } }) c.clear.ensures) (c.get_mut.follows.holds _).0

pub returns-then-not-has_text-clause-killed : goal.returns-then-not-has_text-clause-killed
returns-then-not-has_text-clause-killed c = sym (unkilled c.args.self.now c.args.origin.now c.args.number (sym c.has_text.ensures ∙ c.if-not-has_text.true))

pub returns-in-Some-clause-killed : goal.returns-in-Some-clause-killed
returns-in-Some-clause-killed c =
    let found = sym c.in-Some.ensures.value in
    let gone = ap (λ items. record c.in-Some.mail.now { text = record { items = items } }) c.clear.ensures in
    rw (← c.self.view_is) (ap values_of (c.get_mut.follows.holds _).0 ∙ rw gone (killed_values c.self.inside.mails.entries c.args.origin.now c.args.number c.in-Some.mail.now c.self.invariant.named found))

pub returns-in-None-clause-killed : goal.returns-in-None-clause-killed
returns-in-None-clause-killed c =
    let is = found_mail c.self.inside.mails.entries c.args.origin.now c.args.number c.self.invariant.named in
    rw (← c.self.view_is)
    (ap (λ m. values_of m.entries) c.get_mut.follows.holds-at-none ∙ sym (unkilled (values_of c.self.inside.mails.entries) c.args.origin.now c.args.number (sym (ap is_readable (c.in-None.ensures.value ∙ is)))))

pub returns-in-None-clause-answer : goal.returns-in-None-clause-answer
returns-in-None-clause-answer c =
    let is = found_mail c.self.inside.mails.entries c.args.origin.now c.args.number c.self.invariant.named in
    rw (← c.self.view_is) (ap is_readable (c.in-None.ensures.value ∙ is))
