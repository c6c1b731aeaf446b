use Rattle.circuit_set.proofs.Returning.{copies_alone_return}
use Rattle.circuit_set.proofs.laws.copies_alone_return.Goals as goal

pub returns : goal.returns
returns c = copies_alone_return
