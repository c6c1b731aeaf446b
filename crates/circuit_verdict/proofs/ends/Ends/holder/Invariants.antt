use Rattle.std.proofs.Common.{◌≡◌, drop}
use Rattle.std.specs.Prelude.{flat_map, slice_get}
use Rattle.circuit_verdict.specs.Causes.{kept_partners}
use Rattle.circuit_verdict.proofs.ends.Ends.holder.Given as goal

abbrev pub invariant-loop-end : goal.invariant-loop-end
invariant-loop-end l = slice_get (flat_map (kept_partners l.self) (drop l.end-index l.given)) 0 ≡ slice_get (flat_map (kept_partners l.self) l.given) 0
