-- What holds of every message of ARP, of the route that is taken, and of packets that go on.
use Rattle.std.specs.Prelude.{ℕ, ◌≡◌, ◌≢◌, ◌<◌, ◌≤◌, ◌-◌, List, [], ◌∷◌, length, take, Contains, MatchOption, true, false, Some, Ok}
use Rattle.ax_address.specs.Callsign.{Callsign}
use Rattle.ax_frame.specs.Frames.{Frame}
use Rattle.ax_ip.specs.declared.ip_done.IpDone.TheVariants.{Forwarded}
use Rattle.ax_ip.specs.Packets.{octet, PacketHead, SpellsPacket}
use Rattle.ax_ip.specs.Machine.{onward, State, Turn, turn, packet_to}
use Rattle.ax_ip.specs.Routes.{IpRoute, matches, longest}
use Rattle.ax_ip.specs.Arps.{Arp, IsArp, SpellsArp, arp_at, arp_octets}

-- octets that spell a message are read as it, and so spell no other
abbrev pub SpelledArpIsRead : Type 0
SpelledArpIsRead = (a : Arp) (octets : List ℕ) → SpellsArp a octets → arp_at octets ≡ Ok a

-- what is written for a message spells it
abbrev pub WrittenArpSpellsIt : Type 0
WrittenArpSpellsIt = (a : Arp) → IsArp a → SpellsArp a (arp_octets a)

-- what is written for a message is read as it
abbrev pub WrittenArpIsRead : Type 0
WrittenArpIsRead = (a : Arp) → IsArp a → arp_at (arp_octets a) ≡ Ok a

-- it stands among the routes and matches, and none that matches is longer
pub record IsLongest (dest : ℕ) (routes : List IpRoute) (r : IpRoute) : Type 0 where
  pub stands : Contains routes r
  pub fits : matches dest r ≡ true
  pub longest : (other : IpRoute) → Contains routes other → matches dest other ≡ true → other.len ≤ r.len

-- no route is taken where none matches, and else the longest of those that do
abbrev pub LongestIsTaken : Type 0
LongestIsTaken =
    (dest : ℕ) (routes : List IpRoute)
    → MatchOption (longest dest routes) ((other : IpRoute) → Contains routes other → matches dest other ≡ false) (λ r. IsLongest dest routes r)

-- a packet that goes on is laid out as the one that came, with a time to live of one less
abbrev pub OnwardIsPacket : Type 0
OnwardIsPacket =
    (h : PacketHead) (octets : List ℕ) → SpellsPacket h octets → SpellsPacket (record h { ttl = h.ttl - 1 }) (onward h (take h.total octets))

-- it has as many octets, and each but the time to live and the checksum is the same
abbrev pub OnwardIsTheSame : Type 0
OnwardIsTheSame =
    (h : PacketHead) (octets : List ℕ) → SpellsPacket h octets
    → (length (onward h (take h.total octets)) ≡ h.total)
    × ((k : ℕ) → k ≢ 8 → k ≢ 10 → k ≢ 11 → octet (onward h (take h.total octets)) k ≡ octet (take h.total octets) k)

-- the turn sends on the packet that the octets begin with, and its time to live is more than one
pub record SendsOn (octets : List ℕ) (t : Turn) : Type 0 where
  pub head : PacketHead
  pub packet : SpellsPacket head octets
  pub alive : 1 < head.ttl
  pub call : Callsign
  pub sent : t.out ≡ Some (packet_to call (onward head (take head.total octets)))

-- what is forwarded is sent on so
abbrev pub ForwardedIsSentOn : Type 0
ForwardedIsSentOn = (s : State) (f : Frame) → (turn s f).done ≡ Forwarded → SendsOn f.info (turn s f)

-- a forwarder in this state forwards the one packet as the other
pub record Forwards (s : State) (octets onward : List ℕ) : Type 0 where
  pub frame : Frame
  pub brings : frame.info ≡ octets
  pub done : (turn s frame).done ≡ Forwarded
  pub call : Callsign
  pub sent : (turn s frame).out ≡ Some (packet_to call onward)

-- each forwarder of a list gets what the one before it sent
abbrev pub Travels : List State → List ℕ → Type 0
Travels [] octets = Unit {0}
Travels (s ∷ ss) octets = (onward : List ℕ) × Forwards s octets onward × Travels ss onward

-- a packet is forwarded at most as often as its time to live, which is its octet 8
abbrev pub AtMostItsTimeToLive : Type 0
AtMostItsTimeToLive = (ss : List State) (octets : List ℕ) → Travels ss octets → length ss ≤ octet octets 8
