use Rattle.node_core.proofs.Steps.{inputs_are_steps}
use Rattle.node_core.proofs.laws.inputs_are_steps.Goals as goal

pub returns : goal.returns
returns c = inputs_are_steps
