use Rattle.node_core.proofs.Peopling.{every}
use Rattle.node_core.proofs.laws.users_are_few.Goals as goal

pub returns : goal.returns
returns c =
    every c.parts.ensures.offers c.parts.ensures.takes c.parts.ensures.less c.carried.ensures c.call_texts.ensures c.ends_are_told.ensures.told
    c.ends_are_told.ensures.texts
