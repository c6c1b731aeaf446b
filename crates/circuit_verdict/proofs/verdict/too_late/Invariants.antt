use Rattle.std.proofs.Common.{◌≡◌, take}
use Rattle.circuit_verdict.specs.Standing.{StandsFor, allowance_in}
use Rattle.circuit_verdict.proofs.verdict.too_late.Given as goal

abbrev pub invariant-loop-numbered : goal.invariant-loop-numbered
invariant-loop-numbered l = StandsFor l.verdict (take l.numbered-index l.events) × (allowance_in l.verdict ≡ l.fn.allowance)
