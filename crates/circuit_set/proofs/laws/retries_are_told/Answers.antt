use Rattle.circuit_set.proofs.Expiring.{retries_noted}
use Rattle.circuit_set.proofs.SafeEvents.{retries_are_told}
use Rattle.circuit_set.proofs.laws.retries_are_told.Goals as goal

pub returns : goal.returns
returns c = retries_are_told (retries_noted c.endings.ensures.retries)
