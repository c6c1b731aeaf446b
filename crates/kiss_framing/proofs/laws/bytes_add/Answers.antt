use Rattle.kiss_framing.proofs.Steps.{bytes_add}
use Rattle.kiss_framing.proofs.laws.bytes_add.Goals as goal

pub returns : goal.returns
returns c = bytes_add
