use Rattle.std.proofs.Common.{rules}
use Rattle.l3_datagram.specs.declared.carrier.Offered.TheVariants.{Taken, Dropped}
use Rattle.l3_datagram.proofs.router.Router.route.Goals as goal

-- The next hop is that of whatever log the table stands for.
pub returns-in-None-clause-routes : goal.returns-in-None-clause-routes
returns-in-None-clause-routes g c =
    rw (← c.self.view_is) (Taken, λ log stands. let next = c.next_hop.ensures log stands in search rules)

pub returns-in-Taken-clause-routes : goal.returns-in-Taken-clause-routes
returns-in-Taken-clause-routes g c =
    rw (← c.self.view_is) (Taken, λ log stands. let next = c.next_hop.ensures log stands in search rules)

pub returns-in-Dropped-clause-routes : goal.returns-in-Dropped-clause-routes
returns-in-Dropped-clause-routes g c =
    rw (← c.self.view_is) (Dropped, λ log stands. let next = c.next_hop.ensures log stands in search rules)
