use Rattle.std.proofs.Common.{◌≡◌, ◌+◌, ◌-◌, ◌∙◌, suc, sym, ap, subst, arith}
use Rattle.std.specs.Prelude.{None, Some}
use Rattle.net_model.specs.World.{oldest}
use Rattle.net_model.specs.Lines.{cut, lose_at, settle}
use Rattle.net_world.specs.Running.{Stands, course}
use Rattle.net_world.proofs.Growing.{cut_end, cut_none, cut_one}
use Rattle.net_world.proofs.Runs.{same_air, settled_air, with_air}
use Rattle.net_world.proofs.world.World.cut.Goals as goal

pub returns-in_default : goal.returns-in_default
returns-in_default c = λ w t.
    let i = c.loop.invariant w t in
    let none : oldest i.0.air ≡ None = ap oldest (sym i.1.trace.air) ∙ sym c.in_default.ensures.place in
    let same = sym (cut_none c.args.line (c.args.count - c.loop.counter) i.0 none) ∙ i.2 in
    let here = course c.loop.self in
    subst (λ v. Stands (with_air here c.oldest.new.self) v) same (same_air here c.oldest.new.self i.0 i.1 c.in_default.ensures.same)

pub loop-preserved : goal.loop-preserved
loop-preserved c = λ w t.
    let i = c.loop.invariant w t in
    let at = c.in-Some.at in
    let later = c.args.count - (c.loop.counter + 1) in
    let next : c.args.count - c.loop.counter ≡ suc later = omega (arith, c.loop-test.true) in
    let found : oldest i.0.air ≡ Some at = ap oldest (sym i.1.trace.air) ∙ sym c.in-Some.ensures.place in
    let here = course c.loop.self in
    let same = same_air here c.oldest.new.self i.0 i.1 c.in-Some.ensures.same in (
      lose_at c.args.line at (at + 1) i.0,
      c.in_ok-tell.ensures.goes (settle at i.0) (settled_air (with_air here c.oldest.new.self) c.settle.new.self at c.settle.ensures i.0 same),
      sym (ap (λ n. cut c.args.line n i.0) next ∙ cut_one c.args.line later at i.0 found) ∙ i.2,
    )

pub returns : goal.returns
returns c = λ w t.
    let i = c.loop.invariant w t in
    let none : c.args.count - c.loop.counter ≡ 0 = omega (arith, c.loop-test.false) in
    subst (λ v. Stands (course c.loop.self) v) (sym (cut_end c.args.line (c.args.count - c.loop.counter) i.0 none) ∙ i.2) i.1
