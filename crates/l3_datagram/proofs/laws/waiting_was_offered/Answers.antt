use Rattle.l3_datagram.proofs.Offers.{waiting_was_offered}
use Rattle.l3_datagram.proofs.laws.waiting_was_offered.Goals as goal

pub returns : goal.returns
returns c = waiting_was_offered
