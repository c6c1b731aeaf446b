-- Laws of the spelling of transports.
use Rattle.std.specs.Prelude.{ℕ, ◌≡◌, ◌+◌, ◌<◌, ◌≤◌, List, [], ◌∷◌, ◌++◌, length, take, drop, slice_index, Ok}
use Rattle.ax_address.specs.Callsign.{IsCallsign}
use Rattle.circuit_l4.specs.declared.transport.Transport.{Transport}
use Rattle.circuit_l4.specs.declared.transport.Transport.TheVariants.{Request, Accept, Refuse, Disconnect, Disconnected, Info, InfoAck}
use Rattle.l3_datagram.specs.Datagrams.{plain_call}
use Rattle.circuit_l4.specs.Transports.{SpellsTransport, transport_octets, transport_at}

-- the calls of a request are calls, and a text has at most 236 bytes
abbrev pub IsTransport : Transport → Type 0
IsTransport (Request pair window user node) = IsCallsign user.letters user.ssid × IsCallsign node.letters node.ssid
IsTransport (Info to tx rx flags text) = length text.items ≤ 236
IsTransport _ = Unit {0}

-- octets that spell a transport are read as it, and so spell no other one
abbrev pub SpelledTransportIsRead : Type 0
SpelledTransportIsRead = (transport : Transport) (octets : List ℕ) → SpellsTransport transport octets → transport_at octets ≡ Ok transport

-- what is written for a transport spells it
abbrev pub WrittenTransportSpellsIt : Type 0
WrittenTransportSpellsIt = (transport : Transport) → IsTransport transport → SpellsTransport transport (transport_octets transport)

-- what is written for a transport is read as it
abbrev pub WrittenTransportIsRead : Type 0
WrittenTransportIsRead = (transport : Transport) → IsTransport transport → transport_at (transport_octets transport) ≡ Ok transport

-- the octets of a transport, of which all that is ignored is as it is written
abbrev pub plain : Transport → List ℕ → List ℕ
plain (Request pair window user node) octets =
    take 2 octets ++ 0 ∷ 0 ∷ 1 ∷ slice_index octets 5 ∷ plain_call (take 7 (drop 6 octets)) ++ plain_call (take 7 (drop 13 octets))
plain (Accept to own window) octets = take 4 octets ++ 2 ∷ slice_index octets 5 ∷ []
plain (Refuse to) octets = take 2 octets ++ 0 ∷ 0 ∷ (2 + 128) ∷ 0 ∷ []
plain (Disconnect to) octets = take 2 octets ++ 0 ∷ 0 ∷ 3 ∷ []
plain (Disconnected to) octets = take 2 octets ++ 0 ∷ 0 ∷ 4 ∷ []
plain (Info to tx rx flags text) octets = octets
plain (InfoAck to rx flags) octets = take 2 octets ++ 0 ∷ take 2 (drop 3 octets)

-- octets that are read and written again are the same, but for what is ignored
abbrev pub WrittenAgainIsTheSame : Type 0
WrittenAgainIsTheSame =
    (transport : Transport) (octets : List ℕ) → slice_index octets 4 < 256 → SpellsTransport transport octets →
    transport_octets transport ≡ plain transport octets
