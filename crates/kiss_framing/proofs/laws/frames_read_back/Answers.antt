use Rattle.kiss_framing.proofs.ReadBack.{frames_read_back}
use Rattle.kiss_framing.proofs.laws.frames_read_back.Goals as goal

pub returns : goal.returns
returns c = frames_read_back
