use Rattle.circuit_set.proofs.Examples.{restart_is_stale}
use Rattle.circuit_set.proofs.laws.restart_is_stale.Goals as goal

pub returns : goal.returns
returns c = restart_is_stale
