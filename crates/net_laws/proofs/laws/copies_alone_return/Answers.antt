use Rattle.net_laws.proofs.Returned.{copies_alone_return}
use Rattle.net_laws.proofs.laws.copies_alone_return.Goals as goal

pub returns : goal.returns
returns c = copies_alone_return c.networks_are_sound.ensures c.datagrams_sent.ensures c.copies_alone_return.ensures c.networks_fit.ensures.declared c.networks_fit.ensures.differ
