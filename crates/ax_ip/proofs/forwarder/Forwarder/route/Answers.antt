use Rattle.std.proofs.Common.{◌≡◌, ◌++◌, ◌∷◌, [], List, refl, ap}
use Rattle.ax_ip.specs.Machine.{State, state}
use Rattle.ax_ip.specs.Routes.{IpRoute, IsRoute}
use Rattle.ax_ip.proofs.forwarder.Forwarder.route.Goals as goal

entered : (s : State) (new : List IpRoute) (r : IpRoute) → new ≡ s.routes ++ r ∷ [] → (x : IpRoute) × IsRoute r.prefix r.len r.hop x × (record s { routes = new } ≡ record s { routes = s.routes ++ x ∷ [] })
entered s new r e = (r, record { has_prefix = refl; has_len = refl; has_hop = refl }, ap (λ rs. record s { routes = rs }) e)

pub returns-clause-entered : goal.returns-clause-entered
returns-clause-entered c = entered (state c.args.self.now) _ _ c.push.ensures.items
