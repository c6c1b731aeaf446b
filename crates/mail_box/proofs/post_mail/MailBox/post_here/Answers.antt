use Rattle.std.proofs.Common.{◌≡◌, true, sym, ◌∙◌, rules}
use Rattle.mail_box.specs.Inputs.{PostsHere}
use Rattle.mail_box.proofs.Numbers.{new_letter}
use Rattle.mail_box.proofs.Recording.{posts_here_is}
use Rattle.mail_box.proofs.post_mail.MailBox.post_here.Goals as goal

pub returns-clause-kept : goal.returns-clause-kept
returns-clause-kept g c clean =
    let is_room : c.has_room.result ≡ true = search rules in
    c.in_ok-keep.ensures.kept clean (PostsHere c.args.user.now c.args.text.now)
    (λ b stands. posts_here_is b c.args.user.now c.args.text.now c.in_ok-text.text (sym (c.has_room.ensures.room b stands) ∙ is_room) c.in_ok-text.ensures.copy)

pub returns-clause-number : goal.returns-clause-number
returns-clause-number g c kept k =
    let is_room : c.has_room.result ≡ true = search rules in
    new_letter g.L.Log.holds c.args.self.now c.keep.new.self.mails kept c.args.user.now c.args.text.now c.in_ok-text.text c.last_letter.result k c.in_ok-text.ensures.copy
    (λ b stands. sym (c.has_room.ensures.room b stands) ∙ is_room) c.in_ok-keep.ensures.goes c.last_letter.ensures

pub returns-clause-crash : goal.returns-clause-crash
returns-clause-crash g c clean =
    let is_room : c.has_room.result ≡ true = search rules in
    c.keep.ensures.crash clean (PostsHere c.args.user.now c.args.text.now)
    (λ b stands. posts_here_is b c.args.user.now c.args.text.now c.in_ok-text.text (sym (c.has_room.ensures.room b stands) ∙ is_room) c.in_ok-text.ensures.copy)

pub returns-in_err-keep-clause-crash : goal.returns-in_err-keep-clause-crash
returns-in_err-keep-clause-crash g c clean =
    let is_room : c.has_room.result ≡ true = search rules in
    c.keep.ensures.crash clean (PostsHere c.args.user.now c.args.text.now)
    (λ b stands. posts_here_is b c.args.user.now c.args.text.now c.in_ok-text.text (sym (c.has_room.ensures.room b stands) ∙ is_room) c.in_ok-text.ensures.copy)
