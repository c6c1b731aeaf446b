use Rattle.node_core.proofs.Further.{carried_further}
use Rattle.node_core.proofs.laws.carried_further.Goals as goal

pub returns : goal.returns
returns c = carried_further c.carried.ensures c.carried_by_weaker.ensures.weaker c.frames_are_spelled.ensures c.one_hop_on.ensures c.frame_spelling.ensures.read
