-- The calls of the carrier follow one another, and a datagram that came is routed by whatever log the table stands for.
use Rattle.l3_datagram.specs.declared.carrier.Offered.TheVariants.{Taken}
use Rattle.l3_datagram.proofs.Steps.{idle, lost_one, taken}
use Rattle.l3_datagram.proofs.router.Router.pump.Goals as goal

pub returns-in-None-clause-pumps : goal.returns-in-None-clause-pumps
returns-in-None-clause-pumps g c =
    rw (← c.self.view_is) (
      Taken,
      λ log stands.
          let waiting = rw c.failed.ensures.waiting at c.in-None.ensures.answer in
          idle g.C.Carrier.made g.met.C.Carrier.more_made _ _ _ _ _ _ log _ _ stands c.in_default.ensures.answer waiting c.in_default.ensures.made c.in-None.ensures.made,
    )

pub returns-in_ok-routed-in-Some-collect-clause-pumps : goal.returns-in_ok-routed-in-Some-collect-clause-pumps
returns-in_ok-routed-in-Some-collect-clause-pumps g c =
    rw (← c.self.view_is)
    (let routes = c.in_ok-routed-in-Some-collect.ensures.routes in
    let waiting = rw c.failed.ensures.waiting at c.in-Some-collect.ensures.answer in (
      routes.0,
      λ log stands.
          taken g.C.Carrier.made g.met.C.Carrier.more_made _ _ _ _ _ _ _ _ log _ _ _ (rw c.in_ok-routed-in-Some-collect.ensures.table stands) c.in_default.ensures.answer waiting c.in_default.ensures.made c.in-Some-collect.ensures.made (routes.1 log stands),
    ))

pub returns-in-Some-clause-pumps : goal.returns-in-Some-clause-pumps
returns-in-Some-clause-pumps g c =
    rw (← c.self.view_is)
    (Taken, λ log stands. lost_one g.C.Carrier.made _ _ _ _ c.in-Some.neighbour _ log _ _ (c.link_failed.ensures.stands log stands) c.in-Some.ensures.answer c.in-Some.ensures.made)
