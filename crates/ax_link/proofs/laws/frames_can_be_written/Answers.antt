use Rattle.ax_link.proofs.Written.{frames_can_be_written}
use Rattle.ax_link.proofs.laws.frames_can_be_written.Goals as goal

pub returns : goal.returns
returns c = frames_can_be_written c.steps.ensures.settings
