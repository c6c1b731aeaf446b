use Rattle.std.proofs.Common.{[], ◌∷◌, ◌++◌, subst, sym, ◌∙◌}
use Rattle.mail_box.proofs.Keeping.{keeps_on}
use Rattle.mail_box.proofs.post_mail.MailBox.keep.Goals as goal

pub returns-then-follow-clause-kept : goal.returns-then-follow-clause-kept
returns-then-follow-clause-kept g c clean =
    let same = c.follow.ensures.log in
    let early = subst g.L.Log.is_honest same clean in
    keeps_on g.L.Log.holds c.args.self.now c.follow.new.self c.args.entry.now (c.follow.ensures.up c.if-follow.true ∙ c.if-self.false) (c.follow.ensures.goes c.if-follow.true)
    (λ kept held. subst (λ l. g.L.Log.holds l (kept ++ c.args.entry.now ∷ [])) (sym same) (c.in-Ok.ensures.ok early kept held))
