use Rattle.std.proofs.Common.{ap, sym, is_some, ◌∙◌}
use Rattle.node_mail.specs.Queues.{letters}
use Rattle.node_mail.proofs.Queues.{found_of, found_without, in_order_without, none_of}
use Rattle.node_mail.proofs.queue.Queue.take_away.Goals as goal

pub invariant_of-self : goal.invariant_of-self
invariant_of-self c =
    let found = rw (c.as_slice.ensures.value) at (c.in-Some.ensures.found c.remove.result) in
    let within = rw (c.as_slice.ensures.value) at c.in-Some.ensures.within in
    in_order_without c.self.inside.last c.args.number (letters c.self.inside.mails.items) _
    (ap letters c.remove.ensures.items ∙ found_without c.args.number c.self.inside.mails.items c.in-Some.at c.remove.result c.self.invariant.rises within found) c.self.invariant

pub returns-in-Some-clause-settled : goal.returns-in-Some-clause-settled
returns-in-Some-clause-settled c = λ _.
    let found = rw (c.as_slice.ensures.value) at (c.in-Some.ensures.found c.remove.result) in
    let within = rw (c.as_slice.ensures.value) at c.in-Some.ensures.within in
    rw (← c.self.view_is)
    (ap letters c.remove.ensures.items ∙ found_without c.args.number c.self.inside.mails.items c.in-Some.at c.remove.result c.self.invariant.rises within found)

pub returns-in-Some-clause-answer : goal.returns-in-Some-clause-answer
returns-in-Some-clause-answer c =
    let found = rw (c.as_slice.ensures.value) at (c.in-Some.ensures.found c.remove.result) in
    let within = rw (c.as_slice.ensures.value) at c.in-Some.ensures.within in
    rw (← c.self.view_is) (sym (ap is_some (found_of c.args.number c.self.inside.mails.items c.in-Some.at c.remove.result c.self.invariant.rises within found)))

pub returns-in-None-clause-answer : goal.returns-in-None-clause-answer
returns-in-None-clause-answer c =
    let none = rw (c.as_slice.ensures.value) at c.in-None.ensures.none in
    rw (← c.self.view_is) (sym (ap is_some (none_of c.args.number _ none)))
