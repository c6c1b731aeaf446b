use Rattle.mail_box.proofs.Ledgers.{tells_only_what_is_kept}
use Rattle.mail_box.proofs.laws.kept.Goals as goal

pub returns : goal.returns
returns c = tells_only_what_is_kept
