use Rattle.std.proofs.Common.{◌≡◌, ◌-◌, ◌+◌, ◌∙◌, suc, refl, sym, ap, subst, arith}
use Rattle.std.proofs.lemmas.Result.{err_from_is_err_and}
use Rattle.net_world.specs.Agents.{AgentStands}
use Rattle.net_model.specs.Mailing.{Agent, take_from}
use Rattle.net_world.specs.Running.{course}
use Rattle.net_world.proofs.Runs.{refused_same}
use Rattle.net_world.proofs.Turning.{take_end}
use Rattle.net_world.proofs.world.World.take_all.Goals as goal

pub loop-init : goal.loop-init
loop-init c = λ a t. (a, t, refl)

pub returns-in_err-has_taken : goal.returns-in_err-has_taken
returns-in_err-has_taken c =
    let p = err_from_is_err_and c.from_residual.result c.from_residual.ensures.1 in
    rw (p.1, p.2) (λ a t.
    let i = c.loop.invariant a t in
    let next : suc (100000 - (c.loop.counter + 1)) ≡ 100000 - c.loop.counter = omega (arith, c.loop-test.true) in
    let whole = ap (λ n. take_from c.args.here.line c.args.here.node c.args.here.at c.args.id n i.0) next ∙ i.2 in
    refused_same _ _ _ (ap (λ (b : Agent). b.world) whole) (c.in_err-has_taken.ensures.err (100000 - (c.loop.counter + 1)) i.0 i.1))

pub returns-then-not-has_taken : goal.returns-then-not-has_taken
returns-then-not-has_taken c = λ a t.
    let i = c.loop.invariant a t in
    let next : suc (100000 - (c.loop.counter + 1)) ≡ 100000 - c.loop.counter = omega (arith, c.loop-test.true) in
    let whole = ap (λ n. take_from c.args.here.line c.args.here.node c.args.here.at c.args.id n i.0) next ∙ i.2 in
    let goes = rw c.if-not-has_taken.true at c.in_ok-has_taken.ensures.ok in
    subst (λ (b : Agent). AgentStands (course c.take_one.new.self) c.take_one.new.answers.items b) whole (goes (100000 - (c.loop.counter + 1)) i.0 i.1)

pub loop-preserved : goal.loop-preserved
loop-preserved c = λ a t.
    let i = c.loop.invariant a t in
    let next : suc (100000 - (c.loop.counter + 1)) ≡ 100000 - c.loop.counter = omega (arith, c.loop-test.true) in
    let whole = ap (λ n. take_from c.args.here.line c.args.here.node c.args.here.at c.args.id n i.0) next ∙ i.2 in
    let goes = rw c.if-not-has_taken.false at c.in_ok-has_taken.ensures.ok in
    let x = goes (100000 - (c.loop.counter + 1)) i.0 i.1 in
    (x.0, x.1, sym x.2 ∙ whole)

pub returns : goal.returns
returns c = λ a t.
    let i = c.loop.invariant a t in
    let none : 100000 - c.loop.counter ≡ 0 = omega (arith, c.loop-test.false) in
    subst (λ (b : Agent). AgentStands (course c.loop.self) c.loop.answers.items b)
    (sym (take_end c.args.here.line c.args.here.node c.args.here.at c.args.id (100000 - c.loop.counter) i.0 none) ∙ i.2) i.1
