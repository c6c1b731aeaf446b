use Rattle.circuit_l4.proofs.Wrote.{wrote_by_writes}
use Rattle.circuit_l4.proofs.laws.wrote_by_writes.Goals as goal

pub returns : goal.returns
returns c = wrote_by_writes
