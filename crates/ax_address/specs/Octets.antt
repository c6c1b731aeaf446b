-- Calls in octets: as the addresses of frames (AX.25 2.2, section 3.12), and as they stand inside NET/ROM's broadcasts,
-- datagrams and requests (NET/ROM, Appendix B).
use Rattle.std.specs.Prelude.{ℕ, ◌≡◌, ◌+◌, ◌*◌, ◌/◌, ◌%◌, ◌<◌, ◌≤◌, length, List, [], ◌∷◌, ◌++◌, map, take, drop, slice_get, slice_index, nat_le, Bool, ◌&&◌, ◌==◌, Option, Some, None, if◌then◌else◌, get_or, Result, Ok, Err}
use Rattle.std.specs.List.{prefix_len}
use Rattle.std.proofs.Common.{lit<, lit≤}
use Rattle.std.proofs.Math.Nat.{mod-lt, le-pred_of_lt}
use Rattle.ax_address.specs.declared.address.Address.{Address}
use Rattle.ax_address.specs.declared.address_refusal.AddressRefusal.{AddressRefusal}
use Rattle.ax_address.specs.declared.address_refusal.AddressRefusal.TheVariants.{BadChar, BadPadding}
use Rattle.ax_address.specs.Callsign.{IsCallsign, is_call_char, space, Callsign}

-- Addresses: six characters, each shifted left by one, and an octet with the SSID. (AX.25 2.2, section 3.12.)

-- the address of a call with this C or H bit, as it is written: both reserved bits are 1
abbrev pub address_of : Callsign → Bool → Address
address_of c bit7 = record { call = c; bit7 = bit7; reserved = 3; two_bits = lit≤ tt }

-- the C or H bit, two reserved bits, the SSID, and the extension bit, which the last address has
abbrev pub ssid_octet : Address → Bool → ℕ
ssid_octet a last = (if a.bit7 then 128 else 0) + 32 * a.reserved + 2 * a.call.ssid + (if last then 1 else 0)

abbrev pub address_octets : Address → Bool → List ℕ
address_octets a last = map (λ b. 2 * b) a.call.letters ++ ssid_octet a last ∷ []

-- seven octets are the address, with this extension bit
pub record SpellsAddress (a : Address) (last : Bool) (octets : List ℕ) : Type 0 where
  pub is_call : IsCallsign a.call.letters a.call.ssid
  pub spelled : octets ≡ address_octets a last

-- the address that seven octets hold, where they spell one
abbrev pub address_in : List ℕ → Address
address_in octets =
    let last = slice_index octets 6 in
    record {
      call = record { letters = map (λ o. o / 2) (take 6 octets); ssid = last / 2 % 16 };
      bit7 = nat_le 128 last;
      reserved = last / 32 % 4;
      two_bits = le-pred_of_lt (mod-lt (last / 32) (lit< tt));
    }

abbrev pub is_char_octet : ℕ → Bool
is_char_octet o = (o % 2 == 0) && is_call_char (o / 2)

abbrev pub is_space_octet : ℕ → Bool
is_space_octet o = o == 2 * space

-- how many octets can begin a call: characters, and behind at least one of them spaces
abbrev pub good_behind : ℕ → List ℕ → ℕ
good_behind n octets = if n == 0 then 0 else n + prefix_len is_space_octet (drop n octets)

abbrev pub good_octets : List ℕ → ℕ
good_octets octets = good_behind (prefix_len is_char_octet octets) octets

-- the place of the octet that a refusal names
abbrev pub refused_octet : AddressRefusal → ℕ
refused_octet (BadChar at) = at
refused_octet (BadPadding at) = at

-- a character that can't stand at its place comes after a space
abbrev pub refusal_at : ℕ → Option ℕ → Option AddressRefusal
refusal_at at None = None
refusal_at at (Some o) = Some (if is_char_octet o then BadPadding at else BadChar at)

abbrev pub fault_in : List ℕ → Option AddressRefusal
fault_in octets = refusal_at (good_octets octets) (slice_get octets (good_octets octets))

-- the first of the six octets for characters that can't stand there, also where some of the six are missing
abbrev pub address_fault : List ℕ → Option AddressRefusal
address_fault octets = fault_in (take 6 octets)

-- octets that spell an address have no fault
abbrev pub SpelledWithoutFault : Type 0
SpelledWithoutFault = (a : Address) (last : Bool) (octets : List ℕ) → SpellsAddress a last octets → address_fault octets ≡ None

-- octets that spell an address hold it
abbrev pub SpelledIsHeld : Type 0
SpelledIsHeld = (a : Address) (last : Bool) (octets : List ℕ) → SpellsAddress a last octets → address_in octets ≡ a

-- octets spell one address at most
abbrev pub SpelledOnce : Type 0
SpelledOnce = (a b : Address) (last end : Bool) (octets : List ℕ) → SpellsAddress a last octets → SpellsAddress b end octets → (a ≡ b) × (last ≡ end)

-- the octet that a refusal names is there, and is the first that no call has at its place: whatever stands behind it, it
-- is refused, and what stands before it has no fault
pub record FirstBad (octets : List ℕ) (refusal : AddressRefusal) : Type 0 where
  pub within : refused_octet refusal < length octets
  pub among : refused_octet refusal < 6
  pub stays : (more : List ℕ) → address_fault (take (refused_octet refusal + 1) octets ++ more) ≡ Some refusal
  pub before : address_fault (take (refused_octet refusal) octets) ≡ None

abbrev pub FaultIsFirst : Type 0
FaultIsFirst = (octets : List ℕ) (refusal : AddressRefusal) → address_fault octets ≡ Some refusal → FirstBad octets refusal

-- up to six octets without a fault go on to six without one
abbrev pub FrontGoesOn : Type 0
FrontGoesOn = (front : List ℕ) → length front ≤ 6 → address_fault front ≡ None → (more : List ℕ) × (length (front ++ more) ≡ 6) × (address_fault (front ++ more) ≡ None)

-- Calls inside NET/ROM's broadcasts, datagrams and requests: seven octets as in an address, of whose last
-- one the SSID alone counts. (NET/ROM, Appendix B; what is written in the other bits is this project's profile.)

-- the SSID in bits 4 to 1; bits 6 and 5 are written 1, and bits 7 and 0 are written 0
abbrev pub net_call_octets : Callsign → List ℕ
net_call_octets c = map (λ b. 2 * b) c.letters ++ (96 + 2 * c.ssid) ∷ []

-- seven octets are the call; bits 7, 6, 5 and 0 of the last one say nothing
pub record SpellsNetCall (c : Callsign) (octets : List ℕ) : Type 0 where
  pub is_call : IsCallsign c.letters c.ssid
  pub last : ℕ
  pub spelled : octets ≡ map (λ b. 2 * b) c.letters ++ last ∷ []
  pub ssid : last / 2 % 16 ≡ c.ssid

-- the call of octets without a fault
abbrev pub net_call_in : List ℕ → Callsign
net_call_in octets = record { letters = map (λ o. o / 2) (take 6 octets); ssid = get_or octets 6 0 / 2 % 16 }

abbrev pub unless_at_fault : Option AddressRefusal → Callsign → Result Callsign AddressRefusal
unless_at_fault None c = Ok c
unless_at_fault (Some refusal) c = Err refusal

-- The octets are read as a call exactly where they spell it, as the law of `net_call_spelling` says.
abbrev pub net_call_at : List ℕ → Result Callsign AddressRefusal
net_call_at octets = unless_at_fault (address_fault octets) (net_call_in octets)

-- octets that spell a call are read as it, and so spell no other one
abbrev pub SpelledNetCallIsRead : Type 0
SpelledNetCallIsRead = (c : Callsign) (octets : List ℕ) → SpellsNetCall c octets → net_call_at octets ≡ Ok c

-- what is written for a call spells it
abbrev pub WrittenNetCallSpellsIt : Type 0
WrittenNetCallSpellsIt = (c : Callsign) → IsCallsign c.letters c.ssid → SpellsNetCall c (net_call_octets c)

-- of the last octet of a call bits 4 to 1 alone are heeded
abbrev pub heeded_call : List ℕ → List ℕ
heeded_call octets = take 6 octets ++ map (λ o. o / 2 % 16) (drop 6 octets)

-- octets that are read as a call and written again are the same, but for what isn't heeded
abbrev pub NetCallWrittenAgainIsTheSame : Type 0
NetCallWrittenAgainIsTheSame =
    (c : Callsign) (octets : List ℕ) → SpellsNetCall c octets → heeded_call (net_call_octets c) ≡ heeded_call octets
