use Rattle.kiss_framing.proofs.ReadBack.{fend_parts}
use Rattle.kiss_framing.proofs.laws.fend_parts.Goals as goal

pub returns : goal.returns
returns c = fend_parts
