use Rattle.circuit_l4.proofs.Queues.{pushed}
use Rattle.circuit_l4.proofs.messages.Messages.push.Goals as goal

pub invariant_of-self : goal.invariant_of-self
invariant_of-self c =
    let after =
    pushed c.self.inside.bytes c.self.inside.lengths _ _ c.args.message.now _ c.self.invariant c.self.view_is c.requires.some c.requires.most
    c.requires.room c.extend_from_slice.ensures c.push_back.ensures.items in
    after.is_queue

pub returns : goal.returns
returns c =
    let after =
    pushed c.self.inside.bytes c.self.inside.lengths _ _ c.args.message.now _ c.self.invariant c.self.view_is c.requires.some c.requires.most
    c.requires.room c.extend_from_slice.ensures c.push_back.ensures.items in
    after.view
