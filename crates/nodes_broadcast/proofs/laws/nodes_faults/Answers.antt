use Rattle.nodes_broadcast.proofs.Faults.{fault_is_first}
use Rattle.nodes_broadcast.proofs.laws.nodes_faults.Goals as goal

pub returns : goal.returns
returns c = fault_is_first c.address_faults.ensures.first c.address_faults.ensures.front
