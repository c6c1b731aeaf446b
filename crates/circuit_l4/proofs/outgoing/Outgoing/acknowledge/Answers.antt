use Rattle.std.proofs.Common.{◌∙◌}
use Rattle.circuit_l4.proofs.Acknowledged.{still_kept, still_stands}
use Rattle.circuit_l4.proofs.outgoing.Outgoing.acknowledge.Goals as goal

pub invariant_of-self : goal.invariant_of-self
invariant_of-self c =
    let from = rw (← c.self.view_is) at c.requires.from in
    let to = rw (← c.self.view_is) at c.requires.to in
    record { outbox = still_kept _ _ _ _ from to c.forget.ensures.forgets c.self.invariant.outbox; room = c.forget.ensures.room ∙ c.self.invariant.room }

pub returns-clause-does : goal.returns-clause-does
returns-clause-does c s h =
    let from = rw (← c.self.view_is) at c.requires.from in
    let held = rw (← c.self.view_is) at h in
    still_stands _ _ _ _ s from c.forget.ensures.forgets held

pub returns-clause-few : goal.returns-clause-few
returns-clause-few c =
    let from = rw (← c.self.view_is) at c.requires.from in
    let to = rw (← c.self.view_is) at c.requires.to in
    let kept = still_kept _ _ _ _ from to c.forget.ensures.forgets c.self.invariant.outbox in
    kept.most
