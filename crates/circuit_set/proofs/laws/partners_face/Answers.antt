use Rattle.circuit_set.proofs.Facing.{partners_face}
use Rattle.circuit_set.proofs.laws.partners_face.Goals as goal

pub returns : goal.returns
returns c = partners_face
