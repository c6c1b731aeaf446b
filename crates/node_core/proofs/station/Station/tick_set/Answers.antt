use Rattle.circuit_table.specs.Pumps as inputs
use Rattle.node_model.specs.Links.{ticks}
use Rattle.node_core.proofs.Holding.{set_steps}
use Rattle.node_core.proofs.station.Station.tick_set.Goals as goal

pub returns : goal.returns
unfolding ticks
returns c = set_steps (inputs.ticks c.args.now.0) c.args.self.now c.tick.new.self c.in_ok-tick.ensures.goes
