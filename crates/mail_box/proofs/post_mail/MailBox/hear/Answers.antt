use Rattle.std.proofs.Common.{sym, ◌∙◌, refl}
use Rattle.node_mail.specs.declared.heard.Heard.TheVariants as heard
use Rattle.mail_box.specs.Inputs.{Hears}
use Rattle.mail_box.proofs.Following.{settled_follows}
use Rattle.mail_box.proofs.Keeping.{keeps_none}
use Rattle.mail_box.proofs.Recording.{hears_none, settles_is}
use Rattle.mail_box.proofs.post_mail.MailBox.hear.Goals as goal

pub keep-requires-clause-follows : goal.keep-requires-clause-follows
keep-requires-clause-follows g c b stands =
    settled_follows b c.args.from.now c.in-Settled.number c.args.bytes.now (sym (c.would_hear-heard.ensures.answer b.lists (c.store.ensures b stands)) ∙ c.in-Settled.is)

pub returns-in_ok-keep-in-Settled-clause-kept : goal.returns-in_ok-keep-in-Settled-clause-kept
returns-in_ok-keep-in-Settled-clause-kept g c clean =
    c.in_ok-keep-in-Settled.ensures.kept clean (Hears c.args.from.now c.args.bytes.now) (λ b stands. settles_is b c.args.from.now c.in-Settled.number c.args.bytes.now (sym (c.would_hear-heard.ensures.answer b.lists (c.store.ensures b stands)) ∙ c.in-Settled.is))

pub returns-in_err-keep-in-Settled-clause-crash : goal.returns-in_err-keep-in-Settled-clause-crash
returns-in_err-keep-in-Settled-clause-crash g c clean =
    c.keep.ensures.crash clean (Hears c.args.from.now c.args.bytes.now) (λ b stands. settles_is b c.args.from.now c.in-Settled.number c.args.bytes.now (sym (c.would_hear-heard.ensures.answer b.lists (c.store.ensures b stands)) ∙ c.in-Settled.is))

pub returns-in_ok-keep-in-Settled-clause-crash : goal.returns-in_ok-keep-in-Settled-clause-crash
returns-in_ok-keep-in-Settled-clause-crash g c clean =
    c.keep.ensures.crash clean (Hears c.args.from.now c.args.bytes.now) (λ b stands. settles_is b c.args.from.now c.in-Settled.number c.args.bytes.now (sym (c.would_hear-heard.ensures.answer b.lists (c.store.ensures b stands)) ∙ c.in-Settled.is))

pub returns-in-Again-clause-kept : goal.returns-in-Again-clause-kept
returns-in-Again-clause-kept g c clean =
    keeps_none g.L.Log.holds c.args.self.now (Hears c.args.from.now c.args.bytes.now)
    (λ b stands. hears_none b c.args.from.now c.args.bytes.now (heard.Again c.in-Again.number) (sym (c.would_hear-heard.ensures.answer b.lists (c.store.ensures b stands)) ∙ c.in-Again.is) refl)
