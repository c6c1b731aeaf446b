use Rattle.std.proofs.Common.{◌≡◌, ◌∙◌, List, length, ap, refl, arith}
use Rattle.std.specs.Map.{values_of}
use Rattle.indexmap.proofs.CallerLemmas.{insert_entry-new}
use Rattle.radio_base.proofs.Each.{each_push}
use Rattle.node_mail.specs.Lists.{with_texts}
use Rattle.node_mail.specs.Mailboxes.{name_of}
use Rattle.node_mail.specs.declared.mail.Mail.{Mail}
use Rattle.node_mail.specs.declared.mail.MailName.{MailName}
use Rattle.node_mail.proofs.Mailboxes.{counted_push, same_name, not_found, values_push}
use Rattle.node_mail.proofs.mailbox.Mailbox.push.Goals as goal

pub invariant_of-self-2 : goal.invariant_of-self-2
invariant_of-self-2 c =
    let new = rw (← c.self.view_is) at c.requires.new in
    let none = not_found c.self.inside.mails.entries c.args.mail.origin c.args.mail.number c.self.invariant.named new in
    let is = c.in_ok-insert.ensures.entries ∙ insert_entry-new same_name c.self.inside.mails (name_of c.args.mail) c.args.mail none in
    let more = ap (λ (es : List (MailName × Mail)). length (with_texts (values_of es))) is ∙ counted_push c.self.inside.mails.entries (name_of c.args.mail, c.args.mail) in
    record {
      named = rw is (each_push (λ (e : MailName × Mail). e.0 ≡ name_of e.1) c.self.inside.mails.entries (name_of c.args.mail, c.args.mail) c.self.invariant.named refl);
      counted = omega (arith, c.self.invariant.counted, c.texts_of-more.ensures, more);
    }

pub returns-clause-ok : goal.returns-clause-ok
returns-clause-ok c =
    let new = rw (← c.self.view_is) at c.requires.new in
    let none = not_found c.self.inside.mails.entries c.args.mail.origin c.args.mail.number c.self.invariant.named new in
    rw (← c.self.view_is) (ap values_of (c.in_ok-insert.ensures.entries ∙ insert_entry-new same_name c.self.inside.mails (name_of c.args.mail) c.args.mail none)
    ∙ values_push c.self.inside.mails.entries (name_of c.args.mail, c.args.mail))
