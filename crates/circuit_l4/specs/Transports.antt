-- Transports in octets, and what octets are read as (NET/ROM, Appendix B). Where this project's profile chooses, it is said.
use Rattle.std.specs.Prelude.{ℕ, ◌≡◌, ◌+◌, ◌/◌, ◌%◌, ◌≤◌, List, [], ◌∷◌, ◌++◌, length, take, drop, slice_index, Bool, true, false, ◌==◌, if◌then◌else◌, nat_le, nat_lt, Option, Some, None, Result, Ok, Err}
use Rattle.ax_address.specs.Callsign.{Callsign}
use Rattle.ax_address.specs.Octets.{SpellsNetCall, net_call_octets, net_call_at, address_fault, refused_octet}
use Rattle.ax_address.specs.declared.address_refusal.AddressRefusal.{AddressRefusal}
use Rattle.ax_address.specs.Results.{◌>>=◌}
use Rattle.circuit_l4.specs.declared.pair.Pair.{Pair}
use Rattle.circuit_l4.specs.declared.transport.Flags.{Flags}
use Rattle.circuit_l4.specs.declared.transport.Transport.{Transport}
use Rattle.circuit_l4.specs.declared.transport.Transport.TheVariants.{Request, Accept, Refuse, Disconnect, Disconnected, Info, InfoAck}
use Rattle.circuit_l4.specs.declared.transport.TransportRefusal.{TransportRefusal}
use Rattle.circuit_l4.specs.declared.transport.TransportRefusal.TheVariants.{Short, BadOpcode, BadCall, TooLong}

-- the pair in two octets from a place on
abbrev pub pair_at : ℕ → List ℕ → Pair
pair_at at octets = record { index = slice_index octets at; ident = slice_index octets (at + 1) }

-- Bits 3 to 0 of octet 4 are the opcode. Bit 4 belongs to it here, so where it is 1 there is none (this project's profile).
abbrev pub opcode : List ℕ → ℕ
opcode octets = slice_index octets 4 % 32

-- the flags in bits 7, 6 and 5 of octet 4
abbrev pub choke : List ℕ → Bool
choke octets = slice_index octets 4 / 128 % 2 == 1

abbrev pub flags_in : List ℕ → Flags
flags_in octets = record { choke = choke octets; nak = slice_index octets 4 / 64 % 2 == 1; more = slice_index octets 4 / 32 % 2 == 1 }

-- what each transport begins with: five octets, of which the first two are a pair and the last one has the opcode
pub record Begins (code : ℕ) (to : Pair) (octets : List ℕ) : Type 0 where
  pub whole : 5 ≤ length octets
  pub fits : length octets ≤ 241
  pub has_code : opcode octets ≡ code
  pub is_for : pair_at 0 octets ≡ to

-- octets 2 and 3 say nothing, and neither do the flags and what stands behind the calls
pub record SpellsRequest (window : ℕ) (user node : Callsign) (octets : List ℕ) : Type 0 where
  pub whole : 20 ≤ length octets
  pub proposed : slice_index octets 5 ≡ window
  pub of_user : SpellsNetCall user (take 7 (drop 6 octets))
  pub at_node : SpellsNetCall node (take 7 (drop 13 octets))

-- what stands behind the window says nothing
pub record SpellsAccept (own : Pair) (window : ℕ) (octets : List ℕ) : Type 0 where
  pub whole : 6 ≤ length octets
  pub on_accept : choke octets ≡ false
  pub by : pair_at 2 octets ≡ own
  pub common_window : slice_index octets 5 ≡ window

pub record SpellsInfo (tx rx : ℕ) (flags : Flags) (text octets : List ℕ) : Type 0 where
  pub number : slice_index octets 2 ≡ tx
  pub expected : slice_index octets 3 ≡ rx
  pub flagged : flags_in octets ≡ flags
  pub told : drop 5 octets ≡ text

-- The octets are the transport, by its kind. Of a refusal nothing counts but the pair, the opcode and choke, so it may end
-- after octet 4, and of opcodes 3 and 4 nothing but the pair (this project's profile). Octet 2 of opcode 6 says nothing.
abbrev pub SpellsTransport : Transport → List ℕ → Type 0
SpellsTransport (Request pair window user node) octets = Begins 1 pair octets × SpellsRequest window user node octets
SpellsTransport (Accept to own window) octets = Begins 2 to octets × SpellsAccept own window octets
SpellsTransport (Refuse to) octets = Begins 2 to octets × (choke octets ≡ true)
SpellsTransport (Disconnect to) octets = Begins 3 to octets
SpellsTransport (Disconnected to) octets = Begins 4 to octets
SpellsTransport (Info to tx rx flags text) octets = Begins 5 to octets × SpellsInfo tx rx flags text.items octets
SpellsTransport (InfoAck to rx flags) octets = Begins 6 to octets × (slice_index octets 3 ≡ rx) × (flags_in octets ≡ flags)

-- what is written

abbrev pub headed : Pair → ℕ → ℕ → ℕ → List ℕ
headed to third fourth code = to.index ∷ to.ident ∷ third ∷ fourth ∷ code ∷ []

abbrev pub flag_bits : Flags → ℕ
flag_bits flags = (if flags.choke then 128 else 0) + (if flags.nak then 64 else 0) + (if flags.more then 32 else 0)

abbrev pub request_octets : Pair → ℕ → Callsign → Callsign → List ℕ
request_octets pair window user node = headed pair 0 0 1 ++ window ∷ net_call_octets user ++ net_call_octets node

-- what is ignored is written 0
abbrev pub transport_octets : Transport → List ℕ
transport_octets (Request pair window user node) = request_octets pair window user node
transport_octets (Accept to own window) = headed to own.index own.ident 2 ++ window ∷ []
transport_octets (Refuse to) = headed to 0 0 (2 + 128) ++ 0 ∷ []
transport_octets (Disconnect to) = headed to 0 0 3
transport_octets (Disconnected to) = headed to 0 0 4
transport_octets (Info to tx rx flags text) = headed to tx rx (5 + flag_bits flags) ++ text.items
transport_octets (InfoAck to rx flags) = headed to 0 rx (6 + flag_bits flags)

-- Octets judged: the transport that they spell, or the first thing that shows that they spell none.

abbrev pub octet_at : ℕ → List ℕ → Result ℕ TransportRefusal
octet_at at octets = if nat_le (length octets) at then Err (Short (length octets)) else Ok (slice_index octets at)

abbrev pub fault_from : ℕ → Result Callsign AddressRefusal → Result Callsign TransportRefusal
fault_from at (Ok call) = Ok call
fault_from at (Err refusal) = Err (BadCall (at + refused_octet refusal))

-- of a call that isn't whole, an octet that can't stand in it comes before the one that is missing
abbrev pub cut_off : ℕ → ℕ → Option AddressRefusal → Result Callsign TransportRefusal
cut_off at len None = Err (Short len)
cut_off at len (Some refusal) = Err (BadCall (at + refused_octet refusal))

-- the call in the seven octets from a place on
abbrev pub call_from : ℕ → List ℕ → Result Callsign TransportRefusal
call_from at octets =
    if nat_lt (length octets) (at + 7) then cut_off at (length octets) (address_fault (drop at octets))
    else fault_from at (net_call_at (take 7 (drop at octets)))

unfoldable pub request_at : List ℕ → Result Transport TransportRefusal
request_at octets = do
  window ← octet_at 5 octets
  user ← call_from 6 octets
  node ← call_from 13 octets
  Ok (Request (pair_at 0 octets) window user node)

unfoldable pub accept_at : List ℕ → Result Transport TransportRefusal
accept_at octets = do
  window ← octet_at 5 octets
  Ok (Accept (pair_at 0 octets) (pair_at 2 octets) window)

abbrev pub info_in : List ℕ → Transport
info_in octets = Info (pair_at 0 octets) (slice_index octets 2) (slice_index octets 3) (flags_in octets) (record { items = drop 5 octets })

-- five octets or more
abbrev pub of_opcode : List ℕ → Result Transport TransportRefusal
of_opcode octets =
    if opcode octets == 1 then request_at octets
    else if opcode octets == 2 then (if choke octets then Ok (Refuse (pair_at 0 octets)) else accept_at octets)
    else if opcode octets == 3 then Ok (Disconnect (pair_at 0 octets))
    else if opcode octets == 4 then Ok (Disconnected (pair_at 0 octets))
    else if opcode octets == 5 then Ok (info_in octets)
    else if opcode octets == 6 then Ok (InfoAck (pair_at 0 octets) (slice_index octets 3) (flags_in octets))
    else Err BadOpcode

-- Octets are read as a transport exactly where they spell it, as the law of `transport_spelling` says.
unfoldable pub transport_at : List ℕ → Result Transport TransportRefusal
transport_at octets =
    if nat_lt 241 (length octets) then Err TooLong
    else if nat_lt (length octets) 5 then Err (Short (length octets))
    else of_opcode octets
