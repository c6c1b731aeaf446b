use Rattle.link_table.proofs.Kept.{keeps_its_share}
use Rattle.link_table.proofs.laws.kept.Goals as goal

pub returns : goal.returns
returns c = keeps_its_share c.kept.ensures c.kept_within.ensures.few
