use Rattle.link_table.proofs.Settling.{settled_all}
use Rattle.link_table.proofs.laws.settled_all.Goals as goal

pub returns : goal.returns
returns c = settled_all
