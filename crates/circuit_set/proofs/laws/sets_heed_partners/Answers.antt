use Rattle.circuit_set.proofs.Heedings.{sets_heed_partners}
use Rattle.circuit_set.proofs.laws.sets_heed_partners.Goals as goal

pub returns : goal.returns
returns c = sets_heed_partners
