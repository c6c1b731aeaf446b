use Rattle.std.proofs.Common.{◌∙◌}
use Rattle.circuit_l4.proofs.Acknowledged.{one_more}
use Rattle.circuit_l4.proofs.outgoing.forget.Goals as goal

pub loop-preserved : goal.loop-preserved
loop-preserved c = (one_more _ _ _ _ _ _ c.loop.invariant.0 c.loop-test.ensures.forgets, c.loop-test.ensures.room ∙ c.loop.invariant.1)
