use Rattle.std.proofs.Common.{◌≡◌, drop}
use Rattle.std.specs.Prelude.{filter}
use Rattle.circuit_verdict.specs.Causes.{kept_partners}
use Rattle.circuit_verdict.specs.Ends.{kept_faces}
use Rattle.circuit_verdict.proofs.ends.Ends.open_partner.Given as goal

abbrev pub invariant-loop-other : goal.invariant-loop-other
invariant-loop-other l = filter (kept_faces l.self l.end) (drop l.other-index l.facing) ≡ kept_partners l.self l.end
