use Rattle.ax_segment.proofs.Joins.{segments_join}
use Rattle.ax_segment.proofs.laws.segments_join.Goals as goal

pub returns : goal.returns
returns c = segments_join
