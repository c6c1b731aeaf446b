use Rattle.circuit_set.proofs.Writings.{ends_wrote_by_writes}
use Rattle.circuit_set.proofs.laws.ends_wrote_by_writes.Goals as goal

pub returns : goal.returns
returns c = ends_wrote_by_writes c.wrote_by_writes.ensures
