use Rattle.station_looks.proofs.nodes.all_routes_of.Goals as goal

pub returns : goal.returns
returns c = λ n t.
    let parts = t.station.parts in
    rw (c.routes.ensures, parts.rules) at (c.in_ok-routes.ensures n.station.log (rw c.routes.ensures parts.log))
