use Rattle.circuit_set.proofs.Examples.{forged_is_unsafe}
use Rattle.circuit_set.proofs.laws.forged_is_unsafe.Goals as goal

pub returns : goal.returns
returns c = forged_is_unsafe
