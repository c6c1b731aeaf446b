use Rattle.std.proofs.Common.{◌≡◌, ◌∙◌, refl, ap, Bool, true, false}
use Rattle.std.specs.Prelude.{is_none, is_some, not, Option, Some, None}
use Rattle.ax_address.specs.Callsign.{Callsign}
use Rattle.station_users.proofs.trying.no_hop.Goals as goal

none_is : (o : Option Callsign) (b : Bool) → is_some o ≡ not b → b ≡ is_none o
none_is (Some x) true e = absurd (cc e)
none_is (Some x) false e = refl
none_is None true e = refl
none_is None false e = absurd (cc e)

pub returns : goal.returns
returns c = λ n t.
    let parts = t.station.parts in
    none_is c.next_hop.result c.is_none.result c.is_none.ensures
    ∙ ap (λ (o : Option Callsign). is_none o)
    (rw (c.routes.ensures, parts.rules) at (c.next_hop.ensures n.station.log (rw c.routes.ensures parts.log)))
