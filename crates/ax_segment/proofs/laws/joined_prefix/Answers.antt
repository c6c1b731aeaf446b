use Rattle.ax_segment.proofs.Prefix.{joined_prefix}
use Rattle.ax_segment.proofs.laws.joined_prefix.Goals as goal

pub returns : goal.returns
returns c = joined_prefix
