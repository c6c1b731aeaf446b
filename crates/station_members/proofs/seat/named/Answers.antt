use Rattle.std.proofs.Common.{ap, subst, refl}
use Rattle.std.specs.Prelude.{Some}
use Rattle.ax_address.specs.Callsign.{Callsign, IsCallsign}
use Rattle.station_members.proofs.Bynames as names
use Rattle.station_members.proofs.seat.named.Goals as goal

pub returns-in-Some : goal.returns-in-Some
returns-in-Some c =
    let is = c.in-Some.ensures.found in
    let call = subst (λ (k : Callsign). IsCallsign k.letters k.ssid) is c.ssid.ensures.call in
    rw (names.named c.args.alias.now call) (ap Some is)

pub returns-in-None : goal.returns-in-None
returns-in-None c = rw (names.unnamed c.args.alias.now c.in-None.ensures.none) refl
