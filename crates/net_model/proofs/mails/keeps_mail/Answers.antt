use Rattle.std.proofs.Common.{◌∙◌, sym}
use Rattle.std.specs.Option.{option_copied}
use Rattle.net_model.specs.Mailing.{mail_in}
use Rattle.net_model.proofs.Stores.{both_keep, copied_some}
use Rattle.net_model.proofs.mails.keeps_mail.Goals as goal

pub returns : goal.returns
returns c = λ ps ls h.
    c.is_some.ensures ∙ (sym (copied_some c.store_at.result) ∙ both_keep (option_copied c.store_at.result) (mail_in c.args.at ls) (c.store_at.ensures ps ls h))
