use Rattle.node_mail.proofs.Killing.{killed_is_stored}
use Rattle.node_mail.proofs.Once.{mail_once_or_killed}
use Rattle.node_mail.proofs.laws.mail_once_or_killed.Goals as goal

pub returns-clause-once : goal.returns-clause-once
returns-clause-once c = mail_once_or_killed c.wire_spelling.ensures.read c.wire_spelling.ensures.written

pub returns-clause-known : goal.returns-clause-known
returns-clause-known c = killed_is_stored
