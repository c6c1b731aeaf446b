use Rattle.circuit_set.proofs.Returned.{copy_returns}
use Rattle.circuit_set.proofs.laws.copy_returns.Goals as goal

pub returns : goal.returns
returns c = copy_returns
