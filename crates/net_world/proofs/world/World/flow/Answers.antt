use Rattle.std.proofs.Common.{◌≡◌, ◌≤◌, ◌+◌, ◌-◌, ◌∙◌, suc, sym, ap, subst, length, arith}
use Rattle.std.specs.Prelude.{None, Some}
use Rattle.std.proofs.lemmas.Result.{err_from_is_err_and}
use Rattle.net_model.specs.World.{oldest, World}
use Rattle.net_model.specs.Lines.{flow, settle, spread}
use Rattle.net_world.specs.Running.{Stands, course}
use Rattle.net_world.proofs.Growing.{flow_end, flow_grows, flow_none, flow_one}
use Rattle.net_world.proofs.Runs.{refused_still, same_air, with_air}
use Rattle.net_world.proofs.world.World.flow.Goals as goal

pub returns-in_default : goal.returns-in_default
returns-in_default c = λ w t.
    let i = c.loop.invariant w t in
    let none : oldest i.0.air ≡ None = ap oldest (sym i.1.trace.air) ∙ sym c.in_default.ensures.place in
    let same = sym (flow_none c.args.line (c.args.count - c.loop.counter) i.0 none) ∙ i.2 in
    let here = course c.loop.self in
    subst (λ v. Stands (with_air here c.oldest.new.self) v) same (same_air here c.oldest.new.self i.0 i.1 c.in_default.ensures.same)

pub returns-in_err-flow_once : goal.returns-in_err-flow_once
returns-in_err-flow_once c =
    let p = err_from_is_err_and c.from_residual.result c.from_residual.ensures.1 in
    rw (p.1, p.2) (λ w t.
    let i = c.loop.invariant w t in
    let at = c.in-Some.at in
    let line = c.args.line in
    let later = c.args.count - (c.loop.counter + 1) in
    let next : c.args.count - c.loop.counter ≡ suc later = omega (arith, c.loop-test.true) in
    let found : oldest i.0.air ≡ Some at = ap oldest (sym i.1.trace.air) ∙ sym c.in-Some.ensures.place in
    let same = same_air (course c.loop.self) c.oldest.new.self i.0 i.1 c.in-Some.ensures.same in
    let once : World = spread line at (settle at i.0) in
    let whole : flow line later once ≡ flow line c.args.count w = sym (ap (λ n. flow line n i.0) next ∙ flow_one line later at i.0 found) ∙ i.2 in
    let more : length once.air ≤ length (flow line c.args.count w).air =
    subst (λ (v : World). length once.air ≤ length v.air) whole (flow_grows line later once) in
    refused_still _ _ _ more (c.in_err-flow_once.ensures i.0 same))

pub loop-preserved : goal.loop-preserved
loop-preserved c = λ w t.
    let i = c.loop.invariant w t in
    let at = c.in-Some.at in
    let line = c.args.line in
    let later = c.args.count - (c.loop.counter + 1) in
    let next : c.args.count - c.loop.counter ≡ suc later = omega (arith, c.loop-test.true) in
    let found : oldest i.0.air ≡ Some at = ap oldest (sym i.1.trace.air) ∙ sym c.in-Some.ensures.place in
    let same = same_air (course c.loop.self) c.oldest.new.self i.0 i.1 c.in-Some.ensures.same in (
      spread line at (settle at i.0),
      c.in_ok-flow_once.ensures i.0 same,
      sym (ap (λ n. flow line n i.0) next ∙ flow_one line later at i.0 found) ∙ i.2,
    )

pub returns : goal.returns
returns c = λ w t.
    let i = c.loop.invariant w t in
    let none : c.args.count - c.loop.counter ≡ 0 = omega (arith, c.loop-test.false) in
    subst (λ v. Stands (course c.loop.self) v) (sym (flow_end c.args.line (c.args.count - c.loop.counter) i.0 none) ∙ i.2) i.1
