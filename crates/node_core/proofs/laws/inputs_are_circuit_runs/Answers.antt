use Rattle.node_core.proofs.Running.{acts_run, bytes_run, ticks_run}
use Rattle.node_core.proofs.laws.inputs_are_circuit_runs.Goals as goal

pub returns-clause-bytes : goal.returns-clause-bytes
returns-clause-bytes c = bytes_run c.settles.ensures.nothing c.call_texts.ensures

pub returns-clause-ticks : goal.returns-clause-ticks
returns-clause-ticks c = ticks_run c.settles.ensures.nothing c.call_texts.ensures

pub returns-clause-acts : goal.returns-clause-acts
returns-clause-acts c = acts_run c.settles.ensures.nothing c.call_texts.ensures
