use Rattle.node_core.proofs.Bounding.{within}
use Rattle.node_core.proofs.laws.kept.Goals as goal

pub returns : goal.returns
returns c = within c.kept.ensures c.kept-2.ensures.share c.users_are_few.ensures
