use Rattle.std.proofs.Common.{◌≡◌, ◌∙◌, ◌∷◌, suc, sym, ap, subst, add-one, drop, get_or}
use Rattle.std.proofs.Math.Seq.{drop-cons}
use Rattle.std.proofs.lemmas.List.{drop_all}
use Rattle.std.proofs.lemmas.Result.{err_from_is_err_and}
use Rattle.net_model.specs.Mailing.{offer_all, offer_at}
use Rattle.net_world.specs.Running.{Stands, course}
use Rattle.net_model.specs.World.{World}
use Rattle.net_world.proofs.Runs.{refused_same, refused_still}
use Rattle.net_world.proofs.Turning.{offer_at_grows}
use Rattle.net_world.proofs.world.World.offer_at_ends.Goals as goal

pub loop-id-init : goal.loop-id-init
loop-id-init c = λ w t. (w, t, ap (λ ids. offer_at c.args.here.line c.args.here.node c.args.here.at ids w) (c.as_slice-id-items.ensures.value ∙ c.in_ok-ids.ensures w t))

pub returns-in_err-offer_all : goal.returns-in_err-offer_all
returns-in_err-offer_all c =
    let p = err_from_is_err_and c.from_residual-in_err-offer_all.result c.from_residual-in_err-offer_all.ensures.1 in
    rw (p.1, p.2) (λ w t.
    let i = c.loop-id.invariant w t in
    let ids = c.as_slice-id-items.result.now in
    let k = c.loop-id.id-index in
    let id = get_or ids k 0 in
    let once : World = offer_all c.args.here.line c.args.here.node c.args.here.at id i.0 in
    let first : drop k ids ≡ id ∷ drop (suc k) ids = drop-cons ids k 0 c.loop-id-test.true in
    let whole = sym (ap (λ xs. offer_at c.args.here.line c.args.here.node c.args.here.at xs i.0) first) ∙ i.2 in
    refused_same _ _ _ whole
    (refused_still _ _ _ (offer_at_grows c.args.here.line c.args.here.node c.args.here.at (drop (suc k) ids) once) (c.in_err-offer_all.ensures i.0 i.1)))

pub loop-id-preserved : goal.loop-id-preserved
loop-id-preserved c = λ w t.
    let i = c.loop-id.invariant w t in
    let ids = c.as_slice-id-items.result.now in
    let k = c.loop-id.id-index in
    let id = get_or ids k 0 in
    let once : World = offer_all c.args.here.line c.args.here.node c.args.here.at id i.0 in
    let first : drop k ids ≡ id ∷ drop (suc k) ids = drop-cons ids k 0 c.loop-id-test.true in (
      once,
      c.in_ok-offer_all.ensures i.0 i.1,
      ap (λ j. offer_at c.args.here.line c.args.here.node c.args.here.at (drop j ids) once) (add-one k) ∙ (sym (ap (λ xs. offer_at c.args.here.line c.args.here.node c.args.here.at xs i.0) first) ∙ i.2),
    )

pub returns : goal.returns
returns c = λ w t.
    let i = c.loop-id.invariant w t in
    subst (λ v. Stands (course c.loop-id.self) v)
    (sym (ap (λ xs. offer_at c.args.here.line c.args.here.node c.args.here.at xs i.0) (drop_all c.loop-id.id-index c.as_slice-id-items.result.now c.loop-id-test.false)) ∙ i.2) i.1
