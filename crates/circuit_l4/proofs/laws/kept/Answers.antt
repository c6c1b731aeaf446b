use Rattle.circuit_l4.proofs.Bounds.{keeps_its_share}
use Rattle.circuit_l4.proofs.laws.kept.Goals as goal

pub returns : goal.returns
returns c = keeps_its_share
