use Rattle.std.proofs.Common.{◌≡◌, ◌∙◌, ap, List}
use Rattle.std.specs.List.{flat_map}
use Rattle.route_table.specs.Table.{destinations, routes_to}
use Rattle.route_table.specs.declared.route.Route.{Route}
use Rattle.net_model.proofs.stations.shown.Goals as goal

pub returns : goal.returns
returns c = λ n t.
    let log = n.station.log in
    let all = rw c.routes.ensures at c.in_ok-routes.ensures in
    let routes : c.in_ok-routes.routes.items ≡ flat_map (routes_to n.station.settings.rules log) (destinations n.station.settings.rules log) =
    rw t.station.parts.rules at (all log t.station.parts.log) in
    let d = c.args.declared.now in
    c.new.ensures ∙ ap (λ (rs : List Route). record { node = d.node; call = d.call; alias = d.alias; routes = rs }) routes
