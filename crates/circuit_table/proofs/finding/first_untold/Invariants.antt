-- What holds of the ends that are left holds of all, since those before have nothing to tell.
use Rattle.std.proofs.Common.{ℕ, Option, length}
use Rattle.circuit_table.specs.Standing.{FirstLoud, Rests}
use Rattle.circuit_table.specs.Still.{AreStill}
use Rattle.circuit_table.proofs.finding.first_untold.Given as goal

abbrev pub invariant-loop-id : goal.invariant-loop-id
invariant-loop-id l = record {
  first : (r : Option ℕ) → FirstLoud r l.rest → FirstLoud r l.fn.ends;
  rests : Rests l.rest → Rests l.fn.ends;
  still : AreStill l.rest → AreStill l.fn.ends;
}

abbrev pub decreases-loop-id : goal.decreases-loop-id
decreases-loop-id l = length l.rest
