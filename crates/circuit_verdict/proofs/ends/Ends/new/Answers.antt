use Rattle.std.proofs.Common.{refl}
use Rattle.circuit_verdict.proofs.ends.Ends.new.Goals as goal

pub returns : goal.returns
returns c = record {
  notes = λ x. rw c.new.ensures.empty refl;
  partners = λ x. rw c.new-2.ensures.empty refl;
  gone = λ x. rw c.new-3.ensures.empty refl;
  last = λ own p. rw c.new-4.ensures.empty refl;
  given = λ node p. c.new-5.ensures _;
  facing = λ x. c.new-6.ensures _;
}
