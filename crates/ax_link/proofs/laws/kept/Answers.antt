use Rattle.ax_link.proofs.Within.{keeps_its_share}
use Rattle.ax_link.proofs.laws.kept.Goals as goal

pub returns : goal.returns
returns c = keeps_its_share
