use Rattle.std.proofs.Common.{[], ◌∷◌}
use Rattle.route_table.specs.Log.{Round}
use Rattle.node_model.specs.States.{with_items}
use Rattle.node_core.proofs.Holding.{table_goes}
use Rattle.node_core.proofs.station.Station.do_round.Goals as goal

pub returns : goal.returns
returns c = λ n h.
    c.in_ok-broadcast_routes.ensures (with_items (Round ∷ []) n)
    (table_goes (Round ∷ []) c.args.self.now c.router_mut.result.now c.table_mut.result.now c.round.new.self c.router_mut.ensures.value c.table_mut.ensures.value c.round.ensures.stands c.round.ensures.node n h)
