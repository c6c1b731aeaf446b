use Rattle.std.proofs.Common.{inl, inr, refl, None, Some}
use Rattle.circuit_table.proofs.NoneLeft.{none_left}
use Rattle.circuit_table.proofs.finding.first_untold.Goals as goal

pub returns-then-not-is_quiet-clause-first : goal.returns-then-not-is_quiet-clause-first
returns-then-not-is_quiet-clause-first c =
    c.loop-id.invariant.first (Some c.in-Some.id.now) (rw c.in-Some.ensures.parts (inl (refl, rw c.if-not-is_quiet.true at c.is_quiet.ensures.silent)))

pub loop-id-preserved : goal.loop-id-preserved
loop-id-preserved c = record {
  first = λ r later. c.loop-id.invariant.first r (rw c.in-Some.ensures.parts (inr (rw c.if-not-is_quiet.false at c.is_quiet.ensures.silent, later)));
  rests = λ later. c.loop-id.invariant.rests (rw c.in-Some.ensures.parts (c.is_quiet.ensures.drained c.if-not-is_quiet.false, later));
  still = λ later. c.loop-id.invariant.still (rw c.in-Some.ensures.parts (c.is_quiet.ensures.still c.if-not-is_quiet.false, later));
}

pub returns-clause-first : goal.returns-clause-first
returns-clause-first c = c.loop-id.invariant.first None (rw (none_left c.loop-id.rest c.in_default.ensures.found.1) refl)
