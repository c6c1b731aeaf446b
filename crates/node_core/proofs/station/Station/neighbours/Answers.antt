use Rattle.std.proofs.Common.{◌∙◌, ap, filter, take}
use Rattle.node_model.specs.Asking as views
use Rattle.node_core.proofs.Seeing.{neighbours_seen}
use Rattle.node_core.proofs.station.Station.neighbours.Goals as goal

pub returns : goal.returns
returns c = λ n t.
    let h = t.0 in
    let routes = rw (c.table.ensures, c.router.ensures, h.parts.rules) at (c.in_ok-routes.ensures n.log (rw (c.table.ensures, c.router.ensures) h.parts.log)) in
    neighbours_seen _ _ (c.direct_routes.ensures ∙ ap (λ rs. take 64 (filter views.is_direct rs)) (c.deref.ensures.value ∙ routes))
