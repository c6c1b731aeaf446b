use Rattle.std.proofs.Common.{sym, ◌∙◌}
use Rattle.mail_box.specs.Inputs.{Posts}
use Rattle.mail_box.proofs.Recording.{posts_is}
use Rattle.mail_box.proofs.post_mail.MailBox.post.Goals as goal

pub returns-clause-kept : goal.returns-clause-kept
returns-clause-kept g c clean =
    c.in_ok-keep.ensures.kept clean (Posts c.args.user.now c.args.dest.now c.args.text.now)
    (λ b stands. posts_is b c.in-Ok.number c.args.user.now c.args.dest.now c.args.text.now c.in_ok-text.text (sym (c.would_post.ensures.answer b.lists (c.store.ensures b stands)) ∙ c.in-Ok.is) c.in_ok-text.ensures.copy)

pub returns-clause-crash : goal.returns-clause-crash
returns-clause-crash g c clean =
    c.keep.ensures.crash clean (Posts c.args.user.now c.args.dest.now c.args.text.now)
    (λ b stands. posts_is b c.in-Ok.number c.args.user.now c.args.dest.now c.args.text.now c.in_ok-text.text (sym (c.would_post.ensures.answer b.lists (c.store.ensures b stands)) ∙ c.in-Ok.is) c.in_ok-text.ensures.copy)

pub returns-in_err-keep-clause-crash : goal.returns-in_err-keep-clause-crash
returns-in_err-keep-clause-crash g c clean =
    c.keep.ensures.crash clean (Posts c.args.user.now c.args.dest.now c.args.text.now)
    (λ b stands. posts_is b c.in-Ok.number c.args.user.now c.args.dest.now c.args.text.now c.in_ok-text.text (sym (c.would_post.ensures.answer b.lists (c.store.ensures b stands)) ∙ c.in-Ok.is) c.in_ok-text.ensures.copy)
