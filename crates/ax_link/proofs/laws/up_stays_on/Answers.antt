use Rattle.ax_link.proofs.Carrying.{opens_so, up_stays_on}
use Rattle.ax_link.proofs.laws.up_stays_on.Goals as goal

pub returns-clause-up : goal.returns-clause-up
returns-clause-up c = up_stays_on

pub returns-clause-opens : goal.returns-clause-opens
returns-clause-opens c = opens_so
