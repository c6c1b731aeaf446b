use Rattle.ax_frame.specs.Frames.{view}
use Rattle.link_table.specs.Calls as calls
use Rattle.node_model.specs.Links.{arrive}
use Rattle.node_core.proofs.Holding.{links_go}
use Rattle.node_core.proofs.station.Station.arrive.Goals as goal

pub returns : goal.returns
unfolding arrive
returns c =
    links_go (calls.arrive (view c.args.frame.now) c.args.now.0) c.args.self.now c.router_mut.result.now c.carrier_mut.result.now c.arrive.new.self
    c.router_mut.ensures.value c.carrier_mut.ensures.value c.in_ok-arrive.ensures.goes
