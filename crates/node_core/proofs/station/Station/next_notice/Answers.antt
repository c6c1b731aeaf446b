use Rattle.link_table.specs.Calls as calls
use Rattle.node_core.proofs.Holding.{links_go}
use Rattle.node_core.proofs.station.Station.next_notice.Goals as goal

pub returns-clause-goes : goal.returns-clause-goes
returns-clause-goes c =
    links_go calls.notice c.args.self.now c.router_mut.result.now c.carrier_mut.result.now c.notice.new.self
    c.router_mut.ensures.value c.carrier_mut.ensures.value c.notice.ensures.rest
