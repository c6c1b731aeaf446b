use Rattle.std.proofs.Common.{◌≡◌, true, sym, ◌∙◌, rules}
use Rattle.mail_box.specs.Inputs.{Kills}
use Rattle.mail_box.proofs.Recording.{kills_is}
use Rattle.mail_box.proofs.post_mail.MailBox.kill.Goals as goal

pub returns-clause-kept : goal.returns-clause-kept
returns-clause-kept g c clean =
    let there : c.has_letter.result ≡ true = search rules in
    c.in_ok-keep.ensures.kept clean (Kills c.args.letter) (λ b stands. kills_is b c.args.letter (sym (c.has_letter.ensures b stands) ∙ there))

pub returns-clause-crash : goal.returns-clause-crash
returns-clause-crash g c clean =
    let there : c.has_letter.result ≡ true = search rules in
    c.keep.ensures.crash clean (Kills c.args.letter) (λ b stands. kills_is b c.args.letter (sym (c.has_letter.ensures b stands) ∙ there))

pub returns-in_err-keep-clause-crash : goal.returns-in_err-keep-clause-crash
returns-in_err-keep-clause-crash g c clean =
    let there : c.has_letter.result ≡ true = search rules in
    c.keep.ensures.crash clean (Kills c.args.letter) (λ b stands. kills_is b c.args.letter (sym (c.has_letter.ensures b stands) ∙ there))
