use Rattle.ax_segment.proofs.Kept.{keeps_few, stays_within}
use Rattle.ax_segment.proofs.laws.kept_within.Goals as goal

pub returns-clause-stays : goal.returns-clause-stays
returns-clause-stays c = stays_within

pub returns-clause-few : goal.returns-clause-few
returns-clause-few c = keeps_few
