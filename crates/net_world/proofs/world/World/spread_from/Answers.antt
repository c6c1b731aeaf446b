use Rattle.std.proofs.Common.{◌≡◌, ◌≤◌, ◌+◌, ◌-◌, ◌∷◌, [], ◌∙◌, sym, subst, filter, length}
use Rattle.std.specs.List.{range_with_len}
use Rattle.std.proofs.lemmas.Result.{err_from_is_err_and}
use Rattle.network_file.specs.Plan.{can_hear, hearers}
use Rattle.net_model.specs.Lines.{deliver_all}
use Rattle.net_model.specs.World.{World}
use Rattle.net_world.proofs.Growing.{all_grows, all_next}
use Rattle.net_world.proofs.Runs.{refused_still}
use Rattle.net_world.proofs.world.World.spread_from.Goals as goal

pub returns-in_err-deliver_if_heard : goal.returns-in_err-deliver_if_heard
returns-in_err-deliver_if_heard c =
    let p = err_from_is_err_and c.from_residual.result c.from_residual.ensures.1 in
    rw (p.1, p.2) (λ w t.
    let i = c.loop-number.invariant w t in
    let line = c.args.line in
    let at = c.args.at in
    let n = c.loop-number.number in
    let test = can_hear c.args.self.now.channels.now c.args.sender in
    let rest = filter test (range_with_len (n + 1) (17 - (n + 1))) in
    let once : World = deliver_all line at (filter test (n ∷ [])) i.0 in
    let whole : deliver_all line at rest once ≡ deliver_all line at (hearers c.args.self.now.channels.now c.args.sender) w =
    sym (all_next line at n test i.0 c.loop-number-test.true) ∙ i.2 in
    let more : length once.air ≤ length (deliver_all line at (hearers c.args.self.now.channels.now c.args.sender) w).air =
    subst (λ (v : World). length once.air ≤ length v.air) whole (all_grows line at rest once) in
    refused_still _ _ _ more (c.in_err-deliver_if_heard.ensures test (c.heard_by-heard.ensures n c.loop-number-test.true) i.0 i.1))

pub loop-number-preserved : goal.loop-number-preserved
loop-number-preserved c = λ w t.
    let i = c.loop-number.invariant w t in
    let line = c.args.line in
    let at = c.args.at in
    let n = c.loop-number.number in
    let test = can_hear c.args.self.now.channels.now c.args.sender in (
      deliver_all line at (filter test (n ∷ [])) i.0,
      c.in_ok-deliver_if_heard.ensures test (c.heard_by-heard.ensures n c.loop-number-test.true) i.0 i.1,
      sym (all_next line at n test i.0 c.loop-number-test.true) ∙ i.2,
    )
