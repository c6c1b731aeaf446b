use Rattle.std.proofs.Common.{sym, ◌∙◌}
use Rattle.node_mail.proofs.Queues.{found_for, none_for}
use Rattle.node_mail.proofs.queued_mails.place_for.Goals as goal

pub returns-then-eq-clause-answer : goal.returns-then-eq-clause-answer
returns-then-eq-clause-answer c =
    let q = c.index-mails-at.result in
    let f = found_for c.args.number c.args.dest.now c.args.mails.now c.in-Some.at q c.requires c.in-Some.ensures.within (c.in-Some.ensures.found q) in
    sym (f ∙ (sym c.eq.ensures ∙ c.if-eq.true))

pub returns-else-eq-clause-answer : goal.returns-else-eq-clause-answer
returns-else-eq-clause-answer c =
    let q = c.index-mails-at.result in
    let f = found_for c.args.number c.args.dest.now c.args.mails.now c.in-Some.at q c.requires c.in-Some.ensures.within (c.in-Some.ensures.found q) in
    sym (f ∙ (sym c.eq.ensures ∙ c.if-eq.false))

pub returns-in-None-clause-answer : goal.returns-in-None-clause-answer
returns-in-None-clause-answer c = sym (none_for c.args.number c.args.dest.now _ c.in-None.ensures.none)
