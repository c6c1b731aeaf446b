use Rattle.ax_segment.proofs.Cutting.{pieces_are_full}
use Rattle.ax_segment.proofs.laws.pieces_are_full.Goals as goal

pub returns : goal.returns
returns c = pieces_are_full
