use Rattle.std.proofs.Common.{refl, ap, ◌∙◌}
use Rattle.circuit_l4.specs.Queued.{Queue}
use Rattle.circuit_l4.proofs.Acknowledged.{added_kept, added_stands, some_fragments}
use Rattle.circuit_l4.proofs.outgoing.Outgoing.write.Goals as goal

pub invariant_of-self : goal.invariant_of-self
invariant_of-self c =
    let queue = rw (← c.self.view_is) at c.requires.queue in
    let room = rw (← c.self.view_is) at c.requires.room in
    let counted = c.fragment_count.ensures.counted _ refl in
    record {
      outbox = added_kept _ _ _ _ (some_fragments c.args.message.now _ c.requires.some c.fragment_count.ensures.value counted) queue room (ap (λ (q : Queue). q.messages) c.push.ensures) counted c.self.invariant.outbox;
      room = ap (λ (q : Queue). q.room) c.push.ensures ∙ c.self.invariant.room;
    }

pub returns-clause-does : goal.returns-clause-does
returns-clause-does c s h =
    let held = rw (← c.self.view_is) at h in
    added_stands _ _ _ _ s (ap (λ (q : Queue). q.messages) c.push.ensures) (c.fragment_count.ensures.counted _ refl) held

pub returns-clause-few : goal.returns-clause-few
returns-clause-few c =
    let queue = rw (← c.self.view_is) at c.requires.queue in
    let room = rw (← c.self.view_is) at c.requires.room in
    let counted = c.fragment_count.ensures.counted _ refl in
    let kept = added_kept _ _ _ _ (some_fragments c.args.message.now _ c.requires.some c.fragment_count.ensures.value counted) queue room (ap (λ (q : Queue). q.messages) c.push.ensures) counted c.self.invariant.outbox in
    kept.most
