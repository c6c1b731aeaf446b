use Rattle.std.proofs.Common.{◌≡◌, true, false, sym, ◌∙◌, rules}
use Rattle.mail_box.specs.Inputs.{Hears}
use Rattle.mail_box.proofs.Keeping.{keeps_none}
use Rattle.mail_box.proofs.Recording.{stores_is, stores_none}
use Rattle.mail_box.proofs.post_mail.MailBox.take_in.Goals as goal

pub returns-then-not-has_room-clause-kept : goal.returns-then-not-has_room-clause-kept
returns-then-not-has_room-clause-kept g c clean =
    let no_room : c.has_room.result ≡ false = search rules in
    keeps_none g.L.Log.holds c.args.self.now (Hears c.args.from.now c.args.bytes.now)
    (λ b stands. stores_none b c.args.from.now c.args.user.now c.args.number c.args.bytes.now (sym (c.has_room.ensures.room b stands) ∙ no_room) (c.requires.heard b stands))

pub returns-clause-kept : goal.returns-clause-kept
returns-clause-kept g c clean =
    let is_room : c.has_room.result ≡ true = search rules in
    c.in_ok-keep.ensures.kept clean (Hears c.args.from.now c.args.bytes.now) (λ b stands. stores_is b c.args.from.now c.args.user.now c.args.number c.args.bytes.now c.in_ok-text.text (sym (c.has_room.ensures.room b stands) ∙ is_room) (c.requires.heard b stands) (c.in_ok-text.ensures.copy ∙ c.text_behind.ensures))

pub returns-clause-crash : goal.returns-clause-crash
returns-clause-crash g c clean =
    let is_room : c.has_room.result ≡ true = search rules in
    c.keep.ensures.crash clean (Hears c.args.from.now c.args.bytes.now) (λ b stands. stores_is b c.args.from.now c.args.user.now c.args.number c.args.bytes.now c.in_ok-text.text (sym (c.has_room.ensures.room b stands) ∙ is_room) (c.requires.heard b stands) (c.in_ok-text.ensures.copy ∙ c.text_behind.ensures))

pub returns-in_err-keep-clause-crash : goal.returns-in_err-keep-clause-crash
returns-in_err-keep-clause-crash g c clean =
    let is_room : c.has_room.result ≡ true = search rules in
    c.keep.ensures.crash clean (Hears c.args.from.now c.args.bytes.now) (λ b stands. stores_is b c.args.from.now c.args.user.now c.args.number c.args.bytes.now c.in_ok-text.text (sym (c.has_room.ensures.room b stands) ∙ is_room) (c.requires.heard b stands) (c.in_ok-text.ensures.copy ∙ c.text_behind.ensures))
