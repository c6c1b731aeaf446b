use Rattle.std.proofs.Common.{◌≤◌, ◌∙◌, refl, sym, ap, subst, arith, length}
use Rattle.std.proofs.lemmas.Result.{err_from_is_err_and}
use Rattle.net_model.specs.Mailing.{mail_in, offer, queued_of}
use Rattle.net_world.specs.Running.{Stands, course}
use Rattle.net_world.proofs.Runs.{refused_same}
use Rattle.net_world.proofs.Turning.{numbers_past, stores_as}
use Rattle.net_world.proofs.world.World.offer_above.Goals as goal

pub loop-nth-init : goal.loop-nth-init
loop-nth-init c = λ w t. (w, t, refl, refl)

pub returns-in_err-is_refused : goal.returns-in_err-is_refused
returns-in_err-is_refused c =
    let p = err_from_is_err_and c.from_residual.result c.from_residual.ensures.1 in
    rw (p.1, p.2) (λ w t.
    let i = c.loop-nth.invariant w t in
    refused_same _ _ _ i.3 (c.in_err-is_refused.ensures.err i.0 i.1))

pub returns-then-is_refused : goal.returns-then-is_refused
returns-then-is_refused c = λ w t.
    let i = c.loop-nth.invariant w t in
    let goes = rw c.if-is_refused.true at c.in_ok-is_refused.ensures.ok in
    subst (λ v. Stands (course c.offer_nth.new.self) v) i.3 (goes i.0 i.1)

pub loop-nth-preserved : goal.loop-nth-preserved
loop-nth-preserved c = λ w t.
    let i = c.loop-nth.invariant w t in
    let goes = rw c.if-is_refused.false at c.in_ok-is_refused.ensures.ok in
    let x = goes i.0 i.1 in
    (x.0, x.1, x.2 ∙ i.2, sym x.3 ∙ i.3)

pub returns : goal.returns
returns c = λ w t.
    let i = c.loop-nth.invariant w t in
    let queued = queued_of (mail_in c.args.here.at i.0.mails) in
    let count = ap (λ ms. length (queued_of (mail_in c.args.here.at ms))) i.2 in
    let past : length queued ≤ c.loop-nth.nth = omega (arith, count, c.loop-nth-test.false, c.queued_count-count.ensures w.nodes w.mails (stores_as w.nodes w.mails c.deref.ensures.value t.trace.members)) in
    let none = ap (λ ns. offer c.args.here.line c.args.here.node c.args.here.at c.args.id ns i.0) (numbers_past c.args.dest.now c.args.last queued c.loop-nth.nth past) in
    subst (λ v. Stands (course c.loop-nth.self) v) (sym none ∙ i.3) i.1
