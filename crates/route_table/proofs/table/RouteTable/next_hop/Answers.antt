use Rattle.std.proofs.Common.{◌∙◌, ap}
use Rattle.std.specs.Prelude.{slice_get}
use Rattle.std.specs.Option.{option_map}
use Rattle.route_table.specs.declared.route.Route.{Route}
use Rattle.route_table.specs.Rows.{best_of}
use Rattle.route_table.proofs.Standing.{table_is}
use Rattle.route_table.proofs.table.RouteTable.next_hop.Goals as goal

pub returns : goal.returns
returns c =
    rw (← c.self.view_is)
    (λ log s. c.hop_to.ensures ∙ ap (λ xs. option_map (λ (r : Route). r.neighbour) (slice_get (best_of xs c.args.dest.now) 0)) (c.deref.ensures.value ∙ table_is c.self.inside.own c.self.inside.rules c.self.inside.rows.items log c.self.invariant.1.1 s))
