use Rattle.std.proofs.Common.{sym, ◌∙◌}
use Rattle.circuit_l4.proofs.Queues.{first_length}
use Rattle.circuit_l4.proofs.messages.Messages.front_len.Goals as goal

pub returns-in-Some : goal.returns-in-Some
returns-in-Some c =
    rw (← c.self.view_is) (c.in-Some.ensures ∙ sym (first_length c.self.inside.lengths.items c.self.inside.bytes.items c.self.invariant.cuts))

pub returns-in-None : goal.returns-in-None
returns-in-None c =
    rw (← c.self.view_is) (c.in-None.ensures ∙ sym (first_length c.self.inside.lengths.items c.self.inside.bytes.items c.self.invariant.cuts))
