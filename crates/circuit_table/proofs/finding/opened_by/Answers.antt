use Rattle.std.proofs.Common.{inl, inr, refl, None, Some}
use Rattle.circuit_table.proofs.NoneLeft.{none_left}
use Rattle.circuit_table.proofs.finding.opened_by.Goals as goal

pub returns-then-is_opened_by : goal.returns-then-is_opened_by
returns-then-is_opened_by c =
    c.loop-id.invariant (Some c.in-Some.id.now) (rw c.in-Some.ensures.parts (inl (refl, rw c.if-is_opened_by.true at c.is_opened_by.ensures)))

pub loop-id-preserved : goal.loop-id-preserved
loop-id-preserved c = λ r later. c.loop-id.invariant r (rw c.in-Some.ensures.parts (inr (rw c.if-is_opened_by.false at c.is_opened_by.ensures, later)))

pub returns : goal.returns
returns c = c.loop-id.invariant None (rw (none_left c.loop-id.rest c.in_default.ensures.found.1) refl)
