use Rattle.circuit_set.proofs.SendsTo.{requesters_send}
use Rattle.circuit_set.proofs.laws.requesters_send.Goals as goal

pub returns : goal.returns
returns c = requesters_send
