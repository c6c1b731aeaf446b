use Rattle.std.proofs.Common.{sym, ◌∙◌}
use Rattle.circuit_l4.proofs.Queues.{bytes_of-cut}
use Rattle.circuit_l4.proofs.messages.Messages.size.Goals as goal

pub returns : goal.returns
returns c =
    rw (← c.self.view_is) (c.len.ensures.len ∙ sym (bytes_of-cut c.self.inside.lengths.items c.self.inside.bytes.items c.self.invariant.cuts))
