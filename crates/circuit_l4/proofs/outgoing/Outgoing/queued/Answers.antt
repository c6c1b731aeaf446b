use Rattle.std.proofs.Common.{◌∙◌}
use Rattle.circuit_l4.proofs.Acknowledged.{unacked}
use Rattle.circuit_l4.proofs.outgoing.Outgoing.queued.Goals as goal

pub returns-clause-exact : goal.returns-clause-exact
returns-clause-exact c s h = let held = rw (← c.self.view_is) at h in c.size.ensures ∙ unacked _ s c.self.invariant.outbox held
