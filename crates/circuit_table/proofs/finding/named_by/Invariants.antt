-- What holds of the ends that are left holds of all, since those before don't fit.
use Rattle.std.proofs.Common.{ℕ, Option, length}
use Rattle.circuit_table.specs.Sets as sets
use Rattle.circuit_table.specs.Standing.{FirstFit}
use Rattle.circuit_table.proofs.finding.named_by.Given as goal

abbrev pub invariant-loop-id : goal.invariant-loop-id
invariant-loop-id l = (r : Option ℕ) → FirstFit (sets.named_by l.origin l.pair) r l.rest → FirstFit (sets.named_by l.origin l.pair) r l.fn.ends

abbrev pub decreases-loop-id : goal.decreases-loop-id
decreases-loop-id l = length l.rest
