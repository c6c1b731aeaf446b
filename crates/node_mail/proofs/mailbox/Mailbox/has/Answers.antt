use Rattle.std.proofs.Common.{◌∙◌}
use Rattle.node_mail.proofs.Mailboxes.{found}
use Rattle.node_mail.proofs.mailbox.Mailbox.has.Goals as goal

pub returns : goal.returns
returns c = rw (← c.self.view_is) (c.contains_key.ensures ∙ found c.self.inside.mails.entries c.args.origin.now c.args.number c.self.invariant.named)
