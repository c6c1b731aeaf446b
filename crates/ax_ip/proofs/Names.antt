-- The call of frames to everyone.
use Rattle.std.proofs.Common.{refl, arith}
use Rattle.ax_address.specs.Callsign.{IsCallsign}
use Rattle.ax_ip.specs.Machine.{everyone}

pub everyone_is_call : IsCallsign everyone.letters everyone.ssid
everyone_is_call = record { some = omega arith; six = omega arith; chars = (refl, (refl, (refl, tt))); spaces = refl; small = omega arith }
