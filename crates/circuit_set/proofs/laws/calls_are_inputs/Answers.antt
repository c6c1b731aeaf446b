use Rattle.circuit_table.proofs.ByInputs.{acts_go, hears_go, hears_lost_goes, tells_go, ticks_go}
use Rattle.circuit_set.proofs.laws.calls_are_inputs.Goals as goal

pub returns : goal.returns
returns c = record { acts = acts_go; ticks = ticks_go; tells = tells_go; hears = hears_go; lost = hears_lost_goes }
