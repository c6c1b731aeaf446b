use Rattle.kiss_framing.proofs.ReadBack.{long_are_too_long}
use Rattle.kiss_framing.proofs.laws.long_frames.Goals as goal

pub returns : goal.returns
returns c = long_are_too_long
