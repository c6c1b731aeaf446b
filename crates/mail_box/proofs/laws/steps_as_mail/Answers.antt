use Rattle.mail_box.proofs.AsMail.{hears_as_mail, kills_as_mail, posts_as_mail}
use Rattle.mail_box.proofs.laws.steps_as_mail.Goals as goal

pub returns-clause-heard : goal.returns-clause-heard
returns-clause-heard c = hears_as_mail

pub returns-clause-posted : goal.returns-clause-posted
returns-clause-posted c = posts_as_mail

pub returns-clause-killed : goal.returns-clause-killed
returns-clause-killed c = kills_as_mail
