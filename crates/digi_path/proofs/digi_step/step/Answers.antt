use Rattle.std.proofs.Common.{true, false, ap, sym, ◌∙◌, slice_set}
use Rattle.digi_path.specs.Paths.{Repeat}
use Rattle.digi_path.proofs.Judging.{next_is, none_is}
use Rattle.digi_path.proofs.digi_step.step.Goals as goal

pub returns-in-Some : goal.returns-in-Some
returns-in-Some c =
    let found = c.in-Some.ensures.lookup in
    let sent = c.replaced.ensures ∙ ap (λ a. slice_set c.as_slice-path.result.now c.times_repeated-next.result a) c.with_h_bit.ensures in
    rw (← c.as_slice-path.ensures.value)
    (ap Repeat sent ∙ sym (next_is _ _ _ _ _ true c.times_repeated-next.ensures.value found.3.0 found.1 (sym c.if-eq.ensures)))

pub returns-in-Some-2 : goal.returns-in-Some-2
returns-in-Some-2 c =
    let found = c.in-Some.ensures.lookup in
    rw (← c.as_slice-path.ensures.value)
    (sym (next_is _ _ _ _ _ false c.times_repeated-next.ensures.value found.3.0 found.1 (sym c.if-eq.ensures)))

pub returns-in-None : goal.returns-in-None
returns-in-None c =
    rw (← c.as_slice-path.ensures.value)
    (sym (none_is _ _ _ _ true c.times_repeated-next.ensures.value c.in-None.ensures.lookup.3 (sym c.if-eq-2.ensures)))

pub returns-in-None-2 : goal.returns-in-None-2
returns-in-None-2 c =
    rw (← c.as_slice-path.ensures.value)
    (sym (none_is _ _ _ _ false c.times_repeated-next.ensures.value c.in-None.ensures.lookup.3 (sym c.if-eq-2.ensures)))
