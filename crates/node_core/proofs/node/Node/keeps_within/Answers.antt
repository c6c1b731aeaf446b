use Rattle.std.proofs.Common.{◌≡◌, ◌∙◌, ◌≤◌, ap, length, subst}
use Rattle.l3_datagram.specs.Routers.{Routing}
use Rattle.link_table.specs.Standing.{TableView as LinkTable}
use Rattle.route_table.specs.Held.{TableRoutes}
use Rattle.node_core.specs.Standing.{view_of}
use Rattle.node_core.proofs.node.Node.keeps_within.Goals as goal

pub returns : goal.returns
returns c =
    let k = view_of c.self.inside.deframer c.self.inside.station c.self.inside.spent in
    let table : c.table.result.now ≡ c.self.inside.station.set.router.table = c.table.ensures ∙ ap (λ (r : Routing LinkTable). r.table) c.router.ensures in
    rw (← c.self.view_is)
    (λ unspent. c.kept.ensures k (c.self.invariant unspent) (subst (λ (t : TableRoutes). length t.rows ≤ 16384) table c.live.ensures.bounded))
