use Rattle.link_life.proofs.Timing.{frames_in_time}
use Rattle.link_life.proofs.laws.frames_in_time.Goals as goal

pub returns : goal.returns
returns c = frames_in_time
