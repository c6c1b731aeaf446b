use Rattle.kiss_framing.proofs.ReadBack.{fend_ends}
use Rattle.kiss_framing.proofs.laws.fend_ends.Goals as goal

pub returns : goal.returns
returns c = fend_ends
