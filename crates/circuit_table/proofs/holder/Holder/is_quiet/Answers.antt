use Rattle.std.proofs.Common.{◌∙◌}
use Rattle.circuit_table.proofs.Telling.{loud}
use Rattle.circuit_table.proofs.holder.Holder.is_quiet.Goals as goal

pub returns-else-drained-clause-silent : goal.returns-else-drained-clause-silent
returns-else-drained-clause-silent c = λ own ttl id h told s.
    c.if-drained.false ∙ loud own ttl id c.args.self.now h told s c.if-self.false (λ d. absurd (cc (c.if-drained.ensures.1 d)))
