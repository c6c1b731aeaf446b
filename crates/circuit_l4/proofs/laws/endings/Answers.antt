use Rattle.circuit_l4.proofs.Retries.{fails_after_retries}
use Rattle.circuit_l4.proofs.Failing.{failing_puts_out_nothing}
use Rattle.circuit_l4.proofs.Disconnects.{disconnects_when_acknowledged}
use Rattle.circuit_l4.proofs.laws.endings.Goals as goal

pub returns-clause-retries : goal.returns-clause-retries
returns-clause-retries c = fails_after_retries

pub returns-clause-silent : goal.returns-clause-silent
returns-clause-silent c = failing_puts_out_nothing

pub returns-clause-acknowledged : goal.returns-clause-acknowledged
returns-clause-acknowledged c = disconnects_when_acknowledged
