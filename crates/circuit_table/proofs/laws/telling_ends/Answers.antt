use Rattle.circuit_table.proofs.ByInputs.{tells_less}
use Rattle.circuit_table.proofs.laws.telling_ends.Goals as goal

pub returns : goal.returns
returns c = tells_less
