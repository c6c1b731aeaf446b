use Rattle.std.proofs.Common.{◌≡◌, true, false, sym, ◌∙◌, rules}
use Rattle.mail_box.specs.Inputs.{Reads}
use Rattle.mail_box.proofs.Keeping.{keeps_none}
use Rattle.mail_box.proofs.Recording.{reads_is, reads_none}
use Rattle.mail_box.proofs.post_mail.MailBox.read.Goals as goal

pub returns-then-is_read-clause-kept : goal.returns-then-is_read-clause-kept
returns-then-is_read-clause-kept g c clean =
    let read : c.is_read.result ≡ true = search rules in
    keeps_none g.L.Log.holds c.args.self.now (Reads c.args.letter) (λ b stands. reads_none b c.args.letter (sym (c.is_read.ensures b stands) ∙ read))

pub returns-clause-kept : goal.returns-clause-kept
returns-clause-kept g c clean =
    let there : c.has_letter.result ≡ true = search rules in
    let unread : c.is_read.result ≡ false = search rules in
    c.in_ok-keep.ensures.kept clean (Reads c.args.letter) (λ b stands. reads_is b c.args.letter (sym (c.has_letter.ensures b stands) ∙ there) (sym (c.is_read.ensures b stands) ∙ unread))

pub returns-clause-crash : goal.returns-clause-crash
returns-clause-crash g c clean =
    let there : c.has_letter.result ≡ true = search rules in
    let unread : c.is_read.result ≡ false = search rules in
    c.keep.ensures.crash clean (Reads c.args.letter) (λ b stands. reads_is b c.args.letter (sym (c.has_letter.ensures b stands) ∙ there) (sym (c.is_read.ensures b stands) ∙ unread))

pub returns-in_err-keep-clause-crash : goal.returns-in_err-keep-clause-crash
returns-in_err-keep-clause-crash g c clean =
    let there : c.has_letter.result ≡ true = search rules in
    let unread : c.is_read.result ≡ false = search rules in
    c.keep.ensures.crash clean (Reads c.args.letter) (λ b stands. reads_is b c.args.letter (sym (c.has_letter.ensures b stands) ∙ there) (sym (c.is_read.ensures b stands) ∙ unread))
