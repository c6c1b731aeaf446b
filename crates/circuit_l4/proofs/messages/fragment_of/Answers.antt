use Rattle.std.proofs.Common.{Some, ap, arith, sym, ◌∙◌}
use Rattle.circuit_l4.proofs.Rings.{fits, resume, is_here}
use Rattle.circuit_l4.proofs.messages.fragment_of.Goals as goal

pub returns-then-left-count : goal.returns-then-left-count
returns-then-left-count c =
    ap Some c.fragment_in_ring.ensures
    ∙ is_here _ _ _ _ _ _ _ c.in-Some.ensures.steps c.fragment_count-count.ensures.value c.if-left-count.true c.loop-len.invariant.left
    ∙ sym c.loop-len.invariant.same

pub overflow_add-start : goal.overflow_add-start
overflow_add-start c = let held = fits _ _ _ _ _ c.in-Some.ensures.steps c.loop-len.invariant.left in omega (arith, held, c.requires.fits, c.requires.small)

pub loop-len-preserved : goal.loop-len-preserved
loop-len-preserved c =
    let on =
    resume _ _ _ _ _ _ _ c.in-Some.ensures.steps c.fragment_count-count.ensures.value (omega (arith, c.if-left-count.false)) c.loop-len.invariant.left in
    record { left = on.others; same = c.loop-len.invariant.same ∙ on.same }
