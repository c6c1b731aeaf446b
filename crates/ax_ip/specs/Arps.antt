-- Messages of ARP: how they are laid out, what shows that octets are none, and what is written. (RFC 826, Packet format;
-- the types and lengths of AX.25, and that a request has no target, are this project's profile.)
use Rattle.std.specs.Prelude.{ℕ, ◌≡◌, ◌+◌, ◌<◌, ◌≤◌, ◌^◌, List, [], ◌∷◌, ◌++◌, length, take, drop, replicate, Bool, true, false, ◌&&◌, ◌==◌, nat_lt, not, Option, Some, None, is_some, Result, Ok, Err, if◌then◌else◌}
use Rattle.ax_address.specs.Callsign.{Callsign, IsCallsign}
use Rattle.ax_address.specs.Octets.{SpellsNetCall, net_call_at, net_call_octets, refused_octet}
use Rattle.ax_address.specs.declared.address_refusal.AddressRefusal.{AddressRefusal}
use Rattle.ax_address.specs.Results.{◌>>=◌}
pub use Rattle.ax_ip.specs.declared.arp.Arp.{Arp}
use Rattle.ax_ip.specs.declared.arp.ArpRefusal.{ArpRefusal}
use Rattle.ax_ip.specs.declared.arp.ArpRefusal.TheVariants.{Short, NotAx25, BadOp, BadCall}
use Rattle.ax_ip.specs.Packets.{octet, word, long, long_octets}

abbrev pub operation : Bool → ℕ
operation true = 2
operation false = 1

-- a reply has a target, and a request none: there the octets say nothing
abbrev pub SpellsTarget : Bool → Option Callsign → List ℕ → Type 0
SpellsTarget true (Some target) octets = SpellsNetCall target octets
SpellsTarget true None octets = ⊥
SpellsTarget false (Some target) octets = ⊥
SpellsTarget false None octets = Unit {0}

-- hardware type 3 is AX.25, and 0xCC is IP as in a PID; a call has 7 octets and an address 4
pub record HasKind (octets : List ℕ) : Type 0 where
  pub hardware : word octets 0 ≡ 3
  pub protocol : word octets 2 ≡ 0xCC
  pub hardware_len : octet octets 4 ≡ 7
  pub protocol_len : octet octets 5 ≡ 4

-- The first 30 octets are the message.
pub record SpellsArp (a : Arp) (octets : List ℕ) : Type 0 where
  pub enough : 30 ≤ length octets
  pub kind : HasKind octets
  pub operation : word octets 6 ≡ operation a.reply
  pub sender : SpellsNetCall a.sender (take 7 (drop 8 octets))
  pub sender_ip : long octets 15 ≡ a.sender_ip
  pub target : SpellsTarget a.reply a.target (take 7 (drop 19 octets))
  pub target_ip : long octets 26 ≡ a.target_ip

abbrev pub is_ax25 : List ℕ → Bool
is_ax25 octets = (word octets 0 == 3) && (word octets 2 == 0xCC) && (octet octets 4 == 7) && (octet octets 5 == 4)

abbrev pub reply_at : List ℕ → Result Bool ArpRefusal
reply_at octets =
    if word octets 6 == 1 then Ok false
    else if word octets 6 == 2 then Ok true
    else Err BadOp

abbrev pub call_from : ℕ → Result Callsign AddressRefusal → Result Callsign ArpRefusal
call_from at (Ok call) = Ok call
call_from at (Err refusal) = Err (BadCall (at + refused_octet refusal))

-- the call of these seven octets, which stand at that place
abbrev pub call_at : ℕ → List ℕ → Result Callsign ArpRefusal
call_at at octets = call_from at (net_call_at octets)

abbrev pub as_target : Result Callsign ArpRefusal → Result (Option Callsign) ArpRefusal
as_target (Ok call) = Ok (Some call)
as_target (Err refusal) = Err refusal

abbrev pub target_at : Bool → List ℕ → Result (Option Callsign) ArpRefusal
target_at true octets = as_target (call_at 19 octets)
target_at false octets = Ok None

-- the message of octets that are long enough and of AX.25
unfoldable pub message_at : List ℕ → Result Arp ArpRefusal
message_at octets = do
  reply ← reply_at octets
  sender ← call_at 8 (take 7 (drop 8 octets))
  target ← target_at reply (take 7 (drop 19 octets))
  Ok (record { reply = reply; sender = sender; sender_ip = long octets 15; target = target; target_ip = long octets 26 })

-- The message, or the first thing that shows that there is none.
abbrev pub arp_at : List ℕ → Result Arp ArpRefusal
arp_at octets =
    if nat_lt (length octets) 30 then Err Short
    else if not (is_ax25 octets) then Err NotAx25
    else message_at octets

-- the target's seven octets: zeros in a request
abbrev pub target_octets : Bool → Option Callsign → List ℕ
target_octets true (Some target) = net_call_octets target
target_octets _ _ = replicate 7 0

-- what is written for a message
abbrev pub arp_octets : Arp → List ℕ
arp_octets a =
    (0 ∷ 3 ∷ 0 ∷ 0xCC ∷ 7 ∷ 4 ∷ 0 ∷ operation a.reply ∷ []) ++ net_call_octets a.sender ++ long_octets a.sender_ip
    ++ target_octets a.reply a.target ++ long_octets a.target_ip

-- a target that is there is a call
abbrev pub IsTarget : Option Callsign → Type 0
IsTarget (Some target) = IsCallsign target.letters target.ssid
IsTarget None = Unit {0}

-- a message has calls, addresses of 32 bits, and a target exactly where it is a reply
pub record IsArp (a : Arp) : Type 0 where
  pub sender : IsCallsign a.sender.letters a.sender.ssid
  pub sender_ip : a.sender_ip < 2 ^ 32
  pub target : IsTarget a.target
  pub whole : is_some a.target ≡ a.reply
  pub target_ip : a.target_ip < 2 ^ 32
