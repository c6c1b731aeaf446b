use Rattle.circuit_l4.proofs.Bounds.{small_none}
use Rattle.circuit_l4.proofs.incoming.empty_places.Goals as goal

pub returns-clause-small : goal.returns-clause-small
returns-clause-small c = rw (c.loop-done.invariant) (small_none c.loop-done.done)
