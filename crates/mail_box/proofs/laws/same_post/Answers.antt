use Rattle.mail_box.proofs.Again.{same_mails}
use Rattle.mail_box.proofs.laws.same_post.Goals as goal

pub returns : goal.returns
returns g c kept k j own = same_mails _ _ c.args.before.now c.args.again.now kept k j own
