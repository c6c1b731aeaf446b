use Rattle.link_table.specs.Calls as calls
use Rattle.node_model.specs.Links.{close}
use Rattle.node_core.proofs.Holding.{links_go}
use Rattle.node_core.proofs.station.Station.close_link.Goals as goal

pub returns : goal.returns
unfolding close
returns c = λ n t. (
  links_go (calls.close c.args.peer.now c.args.now.0) c.args.self.now c.router_mut.result.now c.carrier_mut.result.now c.close.new.self
      c.router_mut.ensures.value c.carrier_mut.ensures.value c.in_ok-close.ensures.goes n t.0,
  t.1,
)
