use Rattle.circuit_l4.proofs.TransportFaults.{fault_is_first}
use Rattle.circuit_l4.proofs.laws.transport_faults.Goals as goal

pub returns : goal.returns
returns c = fault_is_first c.address_faults.ensures.first c.address_faults.ensures.front
