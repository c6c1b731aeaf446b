use Rattle.std.proofs.Common.{[], ◌∷◌}
use Rattle.link_table.specs.Calls as calls
use Rattle.route_table.specs.Log.{Failure}
use Rattle.node_model.specs.Links.{break_link}
use Rattle.node_model.specs.States.{at_links}
use Rattle.node_core.proofs.Holding.{links_go, table_goes, with_carrier}
use Rattle.node_core.proofs.station.Station.fail_link.Goals as goal

pub returns : goal.returns
unfolding break_link
returns c = λ n h.
    let s = c.args.self.now in
    let step = calls.break_link c.args.peer.now in
    let broken = links_go step s c.router_mut.result.now c.carrier_mut.result.now c.break_link.new.self c.router_mut.ensures.value c.carrier_mut.ensures.value c.in_ok-break_link.ensures.goes n h in
    table_goes (Failure c.args.peer.now ∷ []) (with_carrier s c.router_mut.result.now c.break_link.new.self) c.router_mut-2.result.now c.table_mut.result.now c.link_failed.new.self
    c.router_mut-2.ensures.value c.table_mut.ensures.value c.link_failed.ensures.stands c.link_failed.ensures.node (at_links step n) broken
