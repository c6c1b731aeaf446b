use Rattle.std.proofs.Common.{◌≡◌, ◌+◌, ◌-◌, ◌∙◌, suc, sym, ap, subst, arith}
use Rattle.std.proofs.lemmas.Result.{err_from_is_err_and}
use Rattle.net_model.specs.Lines.{burst_from}
use Rattle.net_world.specs.Running.{Stands, course}
use Rattle.net_world.proofs.Growing.{burst_end}
use Rattle.net_world.proofs.Runs.{refused_same}
use Rattle.net_world.proofs.world.World.burst_at.Goals as goal

pub loop-before-init : goal.loop-before-init
loop-before-init c = λ w t.
    let all : c.args.count - 0 ≡ c.args.count = omega arith in
    (w, t, ap (λ k. burst_from c.args.here.line c.args.here.at c.args.here.node c.args.end 1 k w) all)

pub returns-in_err-is_refused : goal.returns-in_err-is_refused
returns-in_err-is_refused c =
    let p = err_from_is_err_and c.from_residual.result c.from_residual.ensures.1 in
    rw (p.1, p.2) (λ w t.
    let i = c.loop-before.invariant w t in
    let next : suc (c.args.count - (c.loop-before.before + 1)) ≡ c.args.count - c.loop-before.before = omega (arith, c.loop-before-test.true) in
    let same = ap (λ k. burst_from c.args.here.line c.args.here.at c.args.here.node c.args.end (c.loop-before.before + 1) k i.0) next ∙ i.2 in
    refused_same _ _ _ same (c.in_err-is_refused.ensures.err i.0 i.1))

pub returns-then-is_refused : goal.returns-then-is_refused
returns-then-is_refused c = λ w t.
    let i = c.loop-before.invariant w t in
    let next : suc (c.args.count - (c.loop-before.before + 1)) ≡ c.args.count - c.loop-before.before = omega (arith, c.loop-before-test.true) in
    let same = ap (λ k. burst_from c.args.here.line c.args.here.at c.args.here.node c.args.end (c.loop-before.before + 1) k i.0) next ∙ i.2 in
    let goes = rw c.if-is_refused.true at c.in_ok-is_refused.ensures.ok in
    subst (λ v. Stands (course c.burst_once.new.self) v) same (goes i.0 i.1)

pub loop-before-preserved : goal.loop-before-preserved
loop-before-preserved c = λ w t.
    let i = c.loop-before.invariant w t in
    let next : suc (c.args.count - (c.loop-before.before + 1)) ≡ c.args.count - c.loop-before.before = omega (arith, c.loop-before-test.true) in
    let same = ap (λ k. burst_from c.args.here.line c.args.here.at c.args.here.node c.args.end (c.loop-before.before + 1) k i.0) next ∙ i.2 in
    let goes = rw c.if-is_refused.false at c.in_ok-is_refused.ensures.ok in
    let x = goes i.0 i.1 in
    (x.0, x.1, sym x.2 ∙ same)

pub returns : goal.returns
returns c = λ w t.
    let i = c.loop-before.invariant w t in
    let none : c.args.count - c.loop-before.before ≡ 0 = omega (arith, c.loop-before-test.false) in
    subst (λ v. Stands (course c.loop-before.self) v)
    (sym (burst_end c.args.here.line c.args.here.at c.args.here.node c.args.end (c.loop-before.before + 1) (c.args.count - c.loop-before.before) i.0 none) ∙ i.2) i.1
