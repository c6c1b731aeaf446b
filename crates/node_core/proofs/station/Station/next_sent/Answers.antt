use Rattle.link_table.specs.Calls as calls
use Rattle.node_core.proofs.Holding.{links_go}
use Rattle.node_core.proofs.station.Station.next_sent.Goals as goal

pub returns-clause-goes : goal.returns-clause-goes
returns-clause-goes c =
    links_go calls.fetch c.args.self.now c.router_mut.result.now c.carrier_mut.result.now c.next_out.new.self
    c.router_mut.ensures.value c.carrier_mut.ensures.value c.next_out.ensures.rest
