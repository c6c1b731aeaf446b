use Rattle.link_table.specs.Calls as calls
use Rattle.node_model.specs.Links.{tick_links}
use Rattle.node_core.proofs.Holding.{links_go}
use Rattle.node_core.proofs.station.Station.tick_links.Goals as goal

pub returns-clause-goes : goal.returns-clause-goes
unfolding tick_links
returns-clause-goes c =
    links_go (calls.tick c.args.now.0) c.args.self.now c.router_mut.result.now c.carrier_mut.result.now c.tick.new.self
    c.router_mut.ensures.value c.carrier_mut.ensures.value c.in_ok-tick.ensures.goes
