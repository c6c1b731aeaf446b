use Rattle.circuit_set.proofs.Refusals.{refusals_are_unheeded, sets_refuse_under_0, starts_are_numbered}
use Rattle.circuit_set.proofs.laws.sets_refuse_under_0.Goals as goal

pub returns-clause-starts : goal.returns-clause-starts
returns-clause-starts c = starts_are_numbered

pub returns-clause-steps : goal.returns-clause-steps
returns-clause-steps c = sets_refuse_under_0

pub returns-clause-unheeded : goal.returns-clause-unheeded
returns-clause-unheeded c = refusals_are_unheeded
