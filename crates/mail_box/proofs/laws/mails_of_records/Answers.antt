use Rattle.mail_box.proofs.Telling.{has_its_mails}
use Rattle.mail_box.proofs.laws.mails_of_records.Goals as goal

pub returns : goal.returns
returns c = has_its_mails
