use Rattle.node_core.proofs.Rested.{inputs_settle, nothing_is_left}
use Rattle.node_core.proofs.laws.settles.Goals as goal

pub returns-clause-settles : goal.returns-clause-settles
returns-clause-settles c = inputs_settle c.parts.ensures.offers c.parts.ensures.takes c.parts.ensures.less

pub returns-clause-nothing : goal.returns-clause-nothing
returns-clause-nothing c = nothing_is_left c.parts.ensures.offers c.parts.ensures.takes c.parts.ensures.less
