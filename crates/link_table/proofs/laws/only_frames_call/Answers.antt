use Rattle.link_table.proofs.Called.{only_frames_call}
use Rattle.link_table.proofs.laws.only_frames_call.Goals as goal

pub returns : goal.returns
returns c = only_frames_call
