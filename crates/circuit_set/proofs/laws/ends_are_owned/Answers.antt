use Rattle.circuit_set.proofs.Owned.{ends_are_owned}
use Rattle.circuit_set.proofs.laws.ends_are_owned.Goals as goal

pub returns : goal.returns
returns c = ends_are_owned
