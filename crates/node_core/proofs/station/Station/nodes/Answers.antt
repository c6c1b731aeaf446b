use Rattle.std.proofs.Common.{◌≡◌, ◌-◌, ◌∙◌, ap, arith, flat_map, length, take}
use Rattle.node_model.specs.Asking as views
use Rattle.node_core.proofs.Seeing.{nodes_seen}
use Rattle.node_core.proofs.station.Station.nodes.Goals as goal

pub returns : goal.returns
returns c = λ n t.
    let h = t.0 in
    let dests = rw (c.table.ensures, c.router.ensures, h.parts.rules) at (c.in_ok-destinations.ensures n.log (rw (c.table.ensures, c.router.ensures) h.parts.log)) in
    let nodes = c.best_routes.ensures n h ∙ ap (λ ds. flat_map (views.best_route n) (take 64 ds)) (c.deref.ensures.value ∙ dests) in
    let more : c.saturating_sub.result ≡ length (views.destinations n) - 64 = rw (← dests) (let o = c.in_ok-destinations.destinations.ok in let l = c.len.ensures in let s = c.saturating_sub.ensures in omega (arith, o.0, l, s)) in
    nodes_seen _ _ _ _ nodes more
