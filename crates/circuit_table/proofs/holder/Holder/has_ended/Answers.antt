use Rattle.std.proofs.Common.{sym, ◌∙◌, ap}
use Rattle.circuit_l4.specs.declared.facts.EndFacts.{EndFacts}
use Rattle.circuit_table.specs.Sets.{has_ended}
use Rattle.circuit_table.proofs.Telling.{others}
use Rattle.circuit_table.proofs.holder.Holder.has_ended.Goals as goal

pub returns-in-Ended : goal.returns-in-Ended
returns-in-Ended c = λ x s. ap has_ended (sym c.in-Ended.is ∙ ap (λ (f : EndFacts). f.phase) (c.facts.ensures x s))

pub returns-in_default : goal.returns-in_default
returns-in_default c = λ x s. others c.facts.result.phase c.in_default.not-Ended ∙ ap (λ (f : EndFacts). has_ended f.phase) (c.facts.ensures x s)
