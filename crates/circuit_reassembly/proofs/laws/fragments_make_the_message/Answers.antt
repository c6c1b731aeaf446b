use Rattle.circuit_reassembly.proofs.Pieces.{fragments_make_the_message}
use Rattle.circuit_reassembly.proofs.laws.fragments_make_the_message.Goals as goal

pub returns : goal.returns
returns c = fragments_make_the_message
