-- The call to which nodes broadcast.
use Rattle.std.proofs.Common.{refl, arith}
use Rattle.ax_address.specs.Callsign.{IsCallsign}
use Rattle.nodes_broadcast.specs.Nodes.{nodes_call}

pub nodes_is_call : IsCallsign nodes_call.letters nodes_call.ssid
nodes_is_call = record { some = omega arith; six = omega arith; chars = (refl, (refl, (refl, (refl, (refl, tt))))); spaces = refl; small = omega arith }
