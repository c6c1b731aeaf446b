use Rattle.std.proofs.Common.{◌≡◌, ◌∙◌, ◌∷◌, [], refl, sym, ap, subst}
use Rattle.std.specs.Vec.{with_items}
use Rattle.std.proofs.lemmas.List.{with_items_is}
use Rattle.net_model.specs.declared.posting.Posting.TheVariants as posting
use Rattle.net_model.specs.declared.refusals.LineRefusal.TheVariants.{NoMail}
use Rattle.net_model.specs.Stores.{posted_at}
use Rattle.net_model.specs.Events.{Refused}
use Rattle.net_model.specs.Mailing as mailing
use Rattle.net_model.specs.Mailing.{mail_at, post_by}
use Rattle.net_world.specs.Running.{Stands, course}
use Rattle.net_world.proofs.Placing.{place_is, with_members}
use Rattle.net_world.proofs.Turning.{mailed, mailed_same, post_done, post_none, post_refused, stores_as, told_post}
use Rattle.net_world.proofs.world.World.post.Goals as goal

pub returns-in-NoMail : goal.returns-in-NoMail
returns-in-NoMail c =
    let old = course c.args.self.now in
    let at = c.place_of-at.result in
    let line = c.args.line in
    let stores = (with_items c.args.self.now.members c.post_at.new.members).items in
    let is : stores ≡ c.post_at.new.members = with_items_is c.args.self.now.members c.post_at.new.members (c.post_at.auto.members ∙ c.deref_mut.ensures.len) in
    let was = c.deref_mut.ensures.value in
    told_post old (with_members old stores) (course c.refuse.new.self) line (Refused NoMail ∷ []) (λ w. w) (mailing.post line c.args.node c.args.to.now c.args.dest.now c.args.text.now) c.refuse.result
    (λ w t. mailed_same old w stores t (stores_as w.nodes w.mails is (c.in-NoMail.ensures.goes w.nodes w.mails (stores_as w.nodes w.mails was t.trace.members))))
    (λ w t. post_none line c.args.node at c.args.to.now c.args.dest.now c.args.text.now w (mail_at at w) (c.in-NoMail.ensures.answer w.nodes w.mails (stores_as w.nodes w.mails was t.trace.members))
    ∙ ap (λ k. post_by line c.args.node k c.args.to.now c.args.dest.now c.args.text.now (mail_at k w) w) (place_is old w c.args.node at c.place_of-at.ensures t))
    c.refuse.ensures

pub returns-in_ok-tell-in-Posted : goal.returns-in_ok-tell-in-Posted
returns-in_ok-tell-in-Posted c = λ w t.
    let old = course c.args.self.now in
    let at = c.place_of-at.result in
    let line = c.args.line in
    let mails = posted_at (posting.Posted c.in-Posted.number) at c.args.to.now c.args.dest.now c.args.text.now w.mails in
    let stores = (with_items c.args.self.now.members c.post_at.new.members).items in
    let is : stores ≡ c.post_at.new.members = with_items_is c.args.self.now.members c.post_at.new.members (c.post_at.auto.members ∙ c.deref_mut.ensures.len) in
    let had = stores_as w.nodes w.mails c.deref_mut.ensures.value t.trace.members in
    let mid = mailed old w stores mails t (stores_as w.nodes mails is (c.in-Posted.ensures.goes w.nodes w.mails had)) in
    subst (λ v. Stands (course c.tell.new.self) v)
    (post_done line c.args.node at c.in-Posted.number c.args.to.now c.args.dest.now c.args.text.now w (mail_at at w) refl (c.in-Posted.ensures.answer w.nodes w.mails had)
    ∙ ap (λ k. post_by line c.args.node k c.args.to.now c.args.dest.now c.args.text.now (mail_at k w) w) (place_is old w c.args.node at c.place_of-at.ensures t))
    (c.in_ok-tell-in-Posted.ensures.goes _ mid)

pub returns-in-Some : goal.returns-in-Some
returns-in-Some c =
    let old = course c.args.self.now in
    let at = c.place_of-at.result in
    let line = c.args.line in
    let stores = (with_items c.args.self.now.members c.post_at.new.members).items in
    let is : stores ≡ c.post_at.new.members = with_items_is c.args.self.now.members c.post_at.new.members (c.post_at.auto.members ∙ c.deref_mut.ensures.len) in
    let was = c.deref_mut.ensures.value in
    told_post old (with_members old stores) (course c.refuse-in-Some.new.self) line (Refused c.in-Some.why ∷ []) (λ w. w) (mailing.post line c.args.node c.args.to.now c.args.dest.now c.args.text.now) c.refuse-in-Some.result
    (λ w t. mailed_same old w stores t (stores_as w.nodes w.mails is (c.in-Refused.ensures.goes w.nodes w.mails (stores_as w.nodes w.mails was t.trace.members))))
    (λ w t. post_refused line c.args.node at c.in-Refused.why c.in-Some.why c.args.to.now c.args.dest.now c.args.text.now w (mail_at at w) refl (sym c.in-Some.ensures) (c.in-Refused.ensures.answer w.nodes w.mails (stores_as w.nodes w.mails was t.trace.members))
    ∙ ap (λ k. post_by line c.args.node k c.args.to.now c.args.dest.now c.args.text.now (mail_at k w) w) (place_is old w c.args.node at c.place_of-at.ensures t))
    c.refuse-in-Some.ensures
