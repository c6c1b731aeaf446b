use Rattle.l3_datagram.proofs.Faults.{fault_is_first}
use Rattle.l3_datagram.proofs.laws.datagram_faults.Goals as goal

pub returns : goal.returns
returns c = fault_is_first c.address_faults.ensures.first c.address_faults.ensures.front
