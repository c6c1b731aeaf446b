use Rattle.std.proofs.Common.{◌∙◌, ap}
use Rattle.std.specs.Prelude.{not}
use Rattle.node_mail.specs.Lists.{is_readable}
use Rattle.node_mail.proofs.Mailboxes.{found_mail}
use Rattle.node_mail.proofs.mailbox.Mailbox.has_text.Goals as goal

pub returns-in-Some : goal.returns-in-Some
returns-in-Some c =
    let is = found_mail c.self.inside.mails.entries c.args.origin.now c.args.number c.self.invariant.named in
    rw (← c.self.view_is) (ap not c.is_empty.ensures ∙ ap is_readable (c.in-Some.ensures.value ∙ is))

pub returns-in-None : goal.returns-in-None
returns-in-None c =
    let is = found_mail c.self.inside.mails.entries c.args.origin.now c.args.number c.self.invariant.named in
    rw (← c.self.view_is) (ap is_readable (c.in-None.ensures.value ∙ is))
