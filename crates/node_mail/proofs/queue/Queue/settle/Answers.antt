use Rattle.std.proofs.Common.{ap, ◌∙◌}
use Rattle.node_mail.specs.Queues.{letters}
use Rattle.node_mail.proofs.Queues.{found_without, in_order_without}
use Rattle.node_mail.proofs.queue.Queue.settle.Goals as goal

pub invariant_of-self : goal.invariant_of-self
invariant_of-self c =
    let found = rw (c.as_slice.ensures.value) at (c.in-Some.ensures.found c.remove.result) in
    let within = rw (c.as_slice.ensures.value) at c.in-Some.ensures.within in
    in_order_without c.self.inside.last c.args.number (letters c.self.inside.mails.items) _
    (ap letters c.remove.ensures.items ∙ found_without c.args.number c.self.inside.mails.items c.in-Some.at c.remove.result c.self.invariant.rises within found) c.self.invariant

pub returns-in-Some-clause-settled : goal.returns-in-Some-clause-settled
returns-in-Some-clause-settled c = λ _.
    let found = rw (c.as_slice.ensures.value) at (c.in-Some.ensures.found c.remove.result) in
    let within = rw (c.as_slice.ensures.value) at c.in-Some.ensures.within in
    rw (← c.self.view_is)
    (ap letters c.remove.ensures.items ∙ found_without c.args.number c.self.inside.mails.items c.in-Some.at c.remove.result c.self.invariant.rises within found)
