-- Datagrams, as a carrier brings and takes them, and in octets. (NET/ROM, Appendix B.)
use Rattle.std.specs.Prelude.{ℕ, ◌≡◌, ◌+◌, ◌*◌, ◌/◌, ◌%◌, ◌≤◌, List, [], ◌∷◌, ◌++◌, length, take, drop, slice_index, Result, Ok, Err, nat_lt, if◌then◌else◌, Option}
use Rattle.ax_address.specs.Callsign.{Callsign, IsCallsign}
use Rattle.ax_address.specs.Octets.{refused_octet, SpellsNetCall, net_call_at, net_call_octets}
use Rattle.ax_address.specs.declared.address_refusal.AddressRefusal.{AddressRefusal}
use Rattle.ax_address.specs.Results.{◌>>=◌}
use Rattle.arrayvec.specs.ArrayVec.{ArrayVec}
use Rattle.l3_datagram.specs.declared.datagram.DatagramHead.{DatagramHead}
use Rattle.l3_datagram.specs.declared.datagram.DatagramRefusal.{DatagramRefusal}
use Rattle.l3_datagram.specs.declared.datagram.DatagramRefusal.TheVariants.{Short, TooLong, BadCall}
use Rattle.l3_datagram.specs.declared.carrier.Offered.{Offered}

-- The calls of a carrier, with their arguments and answers.

-- a datagram's octets
abbrev pub Datagram : Type 0
Datagram = ArrayVec ℕ

-- a neighbour, and a datagram that came from it or goes to it
abbrev pub Parcel : Type 0
Parcel = Callsign × Datagram

-- a datagram was offered to a neighbour at a moment; a datagram was collected, or none waited; a lost neighbour was
-- told, or none was lost
pub data CarrierCall : Type 0 where
  Offer : (to : Callsign) (datagram : Datagram) (now : ℕ) (answer : Offered) → CarrierCall
  Collect : (answer : Option Parcel) → CarrierCall
  Fail : (answer : Option Callsign) → CarrierCall

-- Datagrams in octets: the call of the origin, the call of the destination, the time to live, and then the transport.
-- (NET/ROM, Appendix B.)

-- at most 256 octets are the datagram with this head and this transport
pub record SpellsDatagram (head : DatagramHead) (transport octets : List ℕ) : Type 0 where
  pub origin : List ℕ
  pub dest : List ℕ
  pub from : SpellsNetCall head.origin origin
  pub to : SpellsNetCall head.dest dest
  pub spelled : octets ≡ origin ++ dest ++ head.ttl ∷ transport
  pub fits : length octets ≤ 256

-- First the length is judged: the octets end before the transport, or there are too many.
abbrev pub sized : List ℕ → Result (List ℕ) DatagramRefusal
sized octets =
    if nat_lt (length octets) 15
    then Err (Short (length octets))
    else (if nat_lt 256 (length octets) then Err TooLong else Ok octets)

abbrev pub fault_from : ℕ → Result Callsign AddressRefusal → Result Callsign DatagramRefusal
fault_from at (Ok call) = Ok call
fault_from at (Err refusal) = Err (BadCall (at + refused_octet refusal))

-- the call in the seven octets from a place on
abbrev pub call_from : ℕ → List ℕ → Result Callsign DatagramRefusal
call_from at octets = fault_from at (net_call_at (take 7 (drop at octets)))

-- The length, the origin and the destination are judged, in this order. Octets are read as a head exactly where they
-- spell a datagram with it, as the law of `datagram_spelling` says.
unfoldable pub head_at : List ℕ → Result DatagramHead DatagramRefusal
head_at octets = do
  whole ← sized octets
  origin ← call_from 0 whole
  dest ← call_from 7 whole
  Ok (record { origin = origin; dest = dest; ttl = slice_index whole 14 })

-- what is written
abbrev pub octets_with : DatagramHead → List ℕ → List ℕ
octets_with head transport = net_call_octets head.origin ++ net_call_octets head.dest ++ head.ttl ∷ transport

abbrev pub datagram_with : DatagramHead → List ℕ → Datagram
datagram_with head transport = record { items = octets_with head transport }

-- octets that spell a datagram are read as its head, and so spell no other one, and what follows the head is its transport
abbrev pub SpelledDatagramIsRead : Type 0
SpelledDatagramIsRead =
    (head : DatagramHead) (transport octets : List ℕ) → SpellsDatagram head transport octets →
    (head_at octets ≡ Ok head) × (drop 15 octets ≡ transport)

-- what is written for a head and a transport spells the datagram with them
abbrev pub WrittenDatagramSpellsIt : Type 0
WrittenDatagramSpellsIt =
    (head : DatagramHead) (transport : List ℕ) → IsCallsign head.origin.letters head.origin.ssid →
    IsCallsign head.dest.letters head.dest.ssid → length transport ≤ 241 →
    SpellsDatagram head transport (octets_with head transport)

-- the octets of a call, of whose last one bits 4 to 1 alone are kept
abbrev pub plain_call : List ℕ → List ℕ
plain_call octets = take 6 octets ++ (96 + 2 * (slice_index octets 6 / 2 % 16)) ∷ []

-- the octets of a datagram, of which all that is ignored is as it is written: bits 7, 6, 5 and 0 of the last octet of
-- each call
abbrev pub plain : List ℕ → List ℕ
plain octets = plain_call (take 7 octets) ++ plain_call (take 7 (drop 7 octets)) ++ drop 14 octets

-- octets that are read and written again are the same, but for what is ignored
abbrev pub WrittenAgainIsTheSame : Type 0
WrittenAgainIsTheSame =
    (head : DatagramHead) (transport octets : List ℕ) → SpellsDatagram head transport octets →
    octets_with head transport ≡ plain octets
