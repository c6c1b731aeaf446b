use Rattle.node_core.proofs.Fetching.{all_entries, all_frames, frames_in_order}
use Rattle.node_core.proofs.laws.fetching_empties.Goals as goal

pub returns-clause-order : goal.returns-clause-order
returns-clause-order c = frames_in_order

pub returns-clause-frames : goal.returns-clause-frames
returns-clause-frames c = all_frames

pub returns-clause-entries : goal.returns-clause-entries
returns-clause-entries c = all_entries
