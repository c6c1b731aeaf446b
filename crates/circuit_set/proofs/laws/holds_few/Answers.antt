use Rattle.circuit_set.proofs.HoldsFew.{holds_few}
use Rattle.circuit_set.proofs.laws.holds_few.Goals as goal

pub returns : goal.returns
returns c = holds_few
