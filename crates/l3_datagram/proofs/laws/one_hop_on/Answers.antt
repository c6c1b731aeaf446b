use Rattle.l3_datagram.proofs.Forwarding.{goes_one_hop_on}
use Rattle.l3_datagram.proofs.laws.one_hop_on.Goals as goal

pub returns : goal.returns
returns c = goes_one_hop_on
