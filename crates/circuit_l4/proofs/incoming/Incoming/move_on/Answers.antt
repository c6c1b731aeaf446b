use Rattle.std.proofs.Common.{length, ap, refl, sym, ◌∙◌}
use Rattle.circuit_l4.specs.Halves.{Inbox}
use Rattle.circuit_l4.proofs.Bounds.{few_of}
use Rattle.circuit_l4.proofs.Following.{an_error, goes_no_further, resume, goes_wrong, one_left, starts}
use Rattle.circuit_l4.proofs.incoming.Incoming.move_on.Goals as goal

pub returns-in_err-append-in-Some-clause-does : goal.returns-in_err-append-in-Some-clause-does
returns-in_err-append-in-Some-clause-does c r h =
    let left = one_left _ _ _ (c.len-done-end.ensures.len ∙ ap (λ (i : Inbox). length i.early) c.self.view_is) c.loop-done-test.true in
    let ends =
    goes_wrong _ _ _ _ _ c.in_err-append-in-Some.field-0.0 _ left c.in-Some.ensures.exact c.append.ensures.does
    (λ r is. sym c.in_err-append-in-Some.was ∙ c.append.ensures.answer r is) (c.loop-done.invariant.goes r h) in
    ends.half

pub returns-in_err-append-in-Some-clause-answer : goal.returns-in_err-append-in-Some-clause-answer
returns-in_err-append-in-Some-clause-answer c r h =
    let left = one_left _ _ _ (c.len-done-end.ensures.len ∙ ap (λ (i : Inbox). length i.early) c.self.view_is) c.loop-done-test.true in
    let ends =
    goes_wrong _ _ _ _ _ c.in_err-append-in-Some.field-0.0 _ left c.in-Some.ensures.exact c.append.ensures.does
    (λ r is. sym c.in_err-append-in-Some.was ∙ c.append.ensures.answer r is) (c.loop-done.invariant.goes r h) in
    an_error _ _ c.from_residual.ensures.0 ∙ ends.is

pub returns-in-None-clause-does : goal.returns-in-None-clause-does
returns-in-None-clause-does c r h = (goes_no_further _ _ _ c.in-None.ensures.exact (c.loop-done.invariant.goes r h)).half

pub returns-in-None-clause-answer : goal.returns-in-None-clause-answer
returns-in-None-clause-answer c r h = (goes_no_further _ _ _ c.in-None.ensures.exact (c.loop-done.invariant.goes r h)).is

pub loop-done-init : goal.loop-done-init
loop-done-init c = record { goes = λ r h. starts _ r h; places = refl; few = rw (← c.self.view_is) (few_of c.self.inside c.self.invariant) }

pub loop-done-preserved : goal.loop-done-preserved
loop-done-preserved c =
    let kept = c.loop-done.invariant in
    let left = one_left _ _ _ (c.len-done-end.ensures.len ∙ ap (λ (i : Inbox). length i.early) c.self.view_is) c.loop-done-test.true in
    record {
      goes = λ r h. resume _ _ _ _ _ _ left c.in-Some.ensures.exact c.append.ensures.does (λ r is. sym c.in_ok-append-in-Some.was ∙ c.append.ensures.answer r is) (kept.goes r h);
      places = c.append.ensures.places ∙ kept.places;
      few = c.append.ensures.few;
    }
