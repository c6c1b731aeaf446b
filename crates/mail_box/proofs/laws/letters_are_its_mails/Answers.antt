use Rattle.mail_box.proofs.ItsMails.{letters_are_its_mails}
use Rattle.mail_box.proofs.laws.letters_are_its_mails.Goals as goal

pub returns : goal.returns
returns c = letters_are_its_mails
