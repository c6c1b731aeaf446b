use Rattle.std.proofs.Common.{◌≡◌, ◌∙◌, ◌∷◌, suc, sym, ap, subst, add-one, drop, get_or}
use Rattle.std.proofs.Math.Seq.{drop-cons}
use Rattle.std.proofs.lemmas.List.{drop_all}
use Rattle.std.proofs.lemmas.Result.{err_from_is_err_and}
use Rattle.net_world.specs.Agents.{AgentStands}
use Rattle.net_model.specs.Mailing.{Agent, take_all, take_at}
use Rattle.net_world.specs.Running.{course}
use Rattle.net_world.proofs.Runs.{refused_same, refused_still}
use Rattle.net_world.proofs.Turning.{take_at_grows}
use Rattle.net_world.proofs.world.World.take_at_ends.Goals as goal

pub loop-id-init : goal.loop-id-init
loop-id-init c = λ a t. (a, t, ap (λ ids. take_at c.args.here.line c.args.here.node c.args.here.at ids a) (c.as_slice-id-items.ensures.value ∙ c.in_ok-ids.ensures a.world t.world))

pub returns-in_err-take_all : goal.returns-in_err-take_all
returns-in_err-take_all c =
    let p = err_from_is_err_and c.from_residual-in_err-take_all.result c.from_residual-in_err-take_all.ensures.1 in
    rw (p.1, p.2) (λ a t.
    let i = c.loop-id.invariant a t in
    let ids = c.as_slice-id-items.result.now in
    let k = c.loop-id.id-index in
    let id = get_or ids k 0 in
    let once : Agent = take_all c.args.here.line c.args.here.node c.args.here.at id i.0 in
    let first : drop k ids ≡ id ∷ drop (suc k) ids = drop-cons ids k 0 c.loop-id-test.true in
    let whole = sym (ap (λ xs. take_at c.args.here.line c.args.here.node c.args.here.at xs i.0) first) ∙ i.2 in
    refused_same _ _ _ (ap (λ (b : Agent). b.world) whole)
    (refused_still _ _ _ (take_at_grows c.args.here.line c.args.here.node c.args.here.at (drop (suc k) ids) once) (c.in_err-take_all.ensures i.0 i.1)))

pub loop-id-preserved : goal.loop-id-preserved
loop-id-preserved c = λ a t.
    let i = c.loop-id.invariant a t in
    let ids = c.as_slice-id-items.result.now in
    let k = c.loop-id.id-index in
    let id = get_or ids k 0 in
    let once : Agent = take_all c.args.here.line c.args.here.node c.args.here.at id i.0 in
    let first : drop k ids ≡ id ∷ drop (suc k) ids = drop-cons ids k 0 c.loop-id-test.true in (
      once,
      c.in_ok-take_all.ensures i.0 i.1,
      ap (λ j. take_at c.args.here.line c.args.here.node c.args.here.at (drop j ids) once) (add-one k) ∙ (sym (ap (λ xs. take_at c.args.here.line c.args.here.node c.args.here.at xs i.0) first) ∙ i.2),
    )

pub returns : goal.returns
returns c = λ a t.
    let i = c.loop-id.invariant a t in
    subst (λ (b : Agent). AgentStands (course c.loop-id.self) c.loop-id.answers.items b)
    (sym (ap (λ xs. take_at c.args.here.line c.args.here.node c.args.here.at xs i.0) (drop_all c.loop-id.id-index c.as_slice-id-items.result.now c.loop-id-test.false)) ∙ i.2) i.1
