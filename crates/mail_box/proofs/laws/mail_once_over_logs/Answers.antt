use Rattle.mail_box.proofs.Between.{stored_once_over_logs}
use Rattle.mail_box.proofs.laws.mail_once_over_logs.Goals as goal

pub returns : goal.returns
returns c = stored_once_over_logs c.mail_once_or_killed.ensures.once
