use Rattle.std.proofs.Common.{refl}
use Rattle.std.proofs.lemmas.List.{take_min, take_rest}
use Rattle.circuit_reassembly.proofs.fragments.piece_at.Goals as goal

pub returns-clause-exact : goal.returns-clause-exact
returns-clause-exact c = rw (c.min.ensures, take_rest, take_min) refl
