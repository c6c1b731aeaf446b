use Rattle.std.proofs.Common.{ap, sym, subst, ◌∙◌, is_some}
use Rattle.node_mail.specs.declared.queued_mails.QueuedMail.{QueuedMail}
use Rattle.node_mail.specs.Wires.{Carries, IsText, Spells, wire_octets}
use Rattle.node_mail.specs.Queues.{IsLetter}
use Rattle.node_mail.specs.Lists.{octets_or}
use Rattle.node_mail.proofs.Queues.{each_get, found_of, none_of}
use Rattle.node_mail.proofs.queue.wire_at.Goals as goal

pub write_mail-requires-clause-is_number : goal.write_mail-requires-clause-is_number
write_mail-requires-clause-is_number c =
    let mail = c.index-mails-at.result in
    let is = each_get IsLetter c.args.mails.now c.in-Some.at mail c.requires.1.each c.in-Some.ensures.within in
    rw c.index-mails-at.is is.0

pub write_mail-requires-clause-is_text : goal.write_mail-requires-clause-is_text
write_mail-requires-clause-is_text c =
    let mail = c.index-mails-at.result in
    let is = each_get IsLetter c.args.mails.now c.in-Some.at mail c.requires.1.each c.in-Some.ensures.within in
    rw c.as_slice.ensures.value (subst (λ (x : QueuedMail). IsText x.text.items) (sym c.index-mails-at.is) is.1)

pub returns-in-Some-clause-answer : goal.returns-in-Some-clause-answer
returns-in-Some-clause-answer c =
    let mail = c.index-mails-at.result in
    sym (ap is_some (found_of c.args.number c.args.mails.now c.in-Some.at mail c.requires.1.rises c.in-Some.ensures.within (c.in-Some.ensures.found mail)))

pub returns-in-Some-clause-message : goal.returns-in-Some-clause-message
returns-in-Some-clause-message c =
    let mail = c.index-mails-at.result in
    let f = found_of c.args.number c.args.mails.now c.in-Some.at mail c.requires.1.rises c.in-Some.ensures.within (c.in-Some.ensures.found mail) in
    rw f (c.write_mail.ensures.exact ∙ (ap (λ t. wire_octets (Carries mail.number mail.to t)) c.as_slice.ensures.value ∙ ap (λ (x : QueuedMail). wire_octets (Carries x.number x.to x.text.items)) c.index-mails-at.is))

pub returns-in-Some-clause-spelled : goal.returns-in-Some-clause-spelled
returns-in-Some-clause-spelled c =
    let mail = c.index-mails-at.result in
    let f = found_of c.args.number c.args.mails.now c.in-Some.at mail c.requires.1.rises c.in-Some.ensures.within (c.in-Some.ensures.found mail) in
    rw f (subst (λ (x : QueuedMail). Spells (Carries x.number x.to x.text.items) c.write_mail.new.out.items) c.index-mails-at.is (rw c.as_slice.ensures.value at c.write_mail.ensures.spelled))

pub returns-in-None-clause-answer : goal.returns-in-None-clause-answer
returns-in-None-clause-answer c = sym (ap is_some (none_of c.args.number _ c.in-None.ensures.none))

pub returns-in-None-clause-message : goal.returns-in-None-clause-message
returns-in-None-clause-message c = sym (ap (octets_or c.args.out.now.items) (none_of c.args.number _ c.in-None.ensures.none))

pub returns-in-None-clause-spelled : goal.returns-in-None-clause-spelled
returns-in-None-clause-spelled c = rw (none_of c.args.number _ c.in-None.ensures.none) tt
