use Rattle.circuit_set.proofs.NamesOne.{pair_names_one}
use Rattle.circuit_set.proofs.laws.pair_names_one.Goals as goal

pub returns : goal.returns
returns c = pair_names_one
