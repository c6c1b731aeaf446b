use Rattle.circuit_set.proofs.Staying.{ends_stay}
use Rattle.circuit_set.proofs.laws.ends_stay.Goals as goal

pub returns : goal.returns
returns c = ends_stay
