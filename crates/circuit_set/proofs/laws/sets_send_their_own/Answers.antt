use Rattle.circuit_set.proofs.Sendings.{sets_send_their_own}
use Rattle.circuit_set.proofs.laws.sets_send_their_own.Goals as goal

pub returns : goal.returns
returns c = sets_send_their_own
