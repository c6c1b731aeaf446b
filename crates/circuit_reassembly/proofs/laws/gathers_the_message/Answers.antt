use Rattle.circuit_reassembly.proofs.Gathers.{gathers_the_message}
use Rattle.circuit_reassembly.proofs.laws.gathers_the_message.Goals as goal

pub returns : goal.returns
returns c = gathers_the_message
