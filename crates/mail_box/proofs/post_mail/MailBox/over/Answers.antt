use Rattle.std.proofs.Common.{refl}
use Rattle.mail_box.specs.Boxes.{new_box}
use Rattle.mail_box.proofs.Keeping.{over_kept}
use Rattle.mail_box.proofs.post_mail.MailBox.over.Goals as goal

pub returns-in-Ok-clause-kept : goal.returns-in-Ok-clause-kept
returns-in-Ok-clause-kept g c log =
    over_kept g.L.Log.holds c.args.own _ c.args.records.now log refl (c.in-Ok.ensures.follow (new_box c.args.own) c.new-mails.ensures)
