-- What a forwarder does with a frame, case by case in the order in which the cases are tried; and before that what it goes by: echoes,
-- packets that go on, what a frame carries, and the neighbours that are known. (RFC 791, section 2.4; RFC 792, "Echo or Echo Reply
-- Message"; RFC 826, Packet Reception; that a packet is dropped whose next hop is asked for is this project's profile.)
use Rattle.std.specs.Prelude.{ℕ, ◌≡◌, List, take, true, false, ◌==◌, nat_le, Option, Some, None, Result, Ok, Err, if◌then◌else◌, ◌%◌, [], ◌∷◌, ◌++◌, length, drop, Bool, ◌&&◌, ◌+◌, ◌-◌, ◌/◌, slice_range, slice_set, ◌||◌, codes, position}
use Rattle.std.specs.List.{list_all, find}
use Rattle.std.specs.Option.{option_map}
use Rattle.ax_address.specs.Callsign.{Callsign, padded, same_call}
use Rattle.ax_address.specs.declared.address.Address.{Address}
use Rattle.ax_frame.specs.Controls.{is_ui}
use Rattle.ax_frame.specs.Frames.{Frame}
use Rattle.ax_ip.specs.declared.arp.ArpRefusal.{ArpRefusal}
use Rattle.ax_ip.specs.declared.packet.PacketRefusal.{PacketRefusal}
use Rattle.ax_ip.specs.declared.content.Content.{Content}
use Rattle.ax_ip.specs.declared.content.Content.TheVariants as content
use Rattle.ax_ip.specs.declared.ip_done.IpDone.{IpDone}
use Rattle.ax_ip.specs.declared.ip_done.IpDone.TheVariants.{Forwarded, Echoed, Asked, Answered, Learned, Dropped}
use Rattle.ax_ip.specs.declared.ip_done.IpWhy.{IpWhy}
use Rattle.ax_ip.specs.declared.ip_done.IpWhy.TheVariants.{NotMine, Bad, Ours, Expired, NoRoute}
use Rattle.ax_ip.specs.declared.forwarder.Forwarder.{Forwarder}
use Rattle.ax_ip.specs.declared.out.IpOut.{IpOut}
use Rattle.ax_ip.specs.Arps.{Arp, arp_at, arp_octets}
use Rattle.ax_ip.specs.Packets.{PacketHead, packet_at, octet, word, is_right, summed, lacking, word_sum}
use Rattle.ax_ip.specs.Routes.{IpRoute, longest, next_hop}
pub use Rattle.ax_ip.specs.declared.neighbours.Neighbour.{Neighbour}

-- Echo requests and their replies. (RFC 792, "Echo or Echo Reply Message".)

-- a packet of ICMP without options that is no fragment, with an echo request of type 8 and code 0
abbrev pub is_request : PacketHead → List ℕ → Bool
is_request h packet =
    (h.header == 20) && (h.protocol == 1) && (word packet 6 % 0x4000 == 0) && nat_le 28 (length packet)
    && (octet packet 20 == 8) && (octet packet 21 == 0) && is_right (drop 20 packet)

-- type 0, and the addresses exchanged
abbrev pub reply : List ℕ → List ℕ
reply packet =
    summed (69 ∷ octet packet 1 ∷ octet packet 2 ∷ octet packet 3 ∷ octet packet 4 ∷ octet packet 5 ∷ 0 ∷ 0 ∷ 64 ∷ 1 ∷ [])
    (octet packet 16 ∷ octet packet 17 ∷ octet packet 18 ∷ octet packet 19 ∷ octet packet 12 ∷ octet packet 13 ∷ octet packet 14 ∷ octet packet 15 ∷ [])
    ++ summed (0 ∷ 0 ∷ []) (drop 24 packet)

-- Packets that go on. (RFC 791, section 3.2, "Time to Live".)

-- the header's checksum, by its other octets
abbrev pub header_sum : ℕ → List ℕ → ℕ
header_sum header packet = lacking (word_sum (take 10 packet) + word_sum (slice_range packet 12 header))

abbrev pub with_word : ℕ → ℕ → List ℕ → List ℕ
with_word at n packet = slice_set (slice_set packet at (n / 256)) (at + 1) (n % 256)

abbrev pub with_header_sum : ℕ → List ℕ → List ℕ
with_header_sum header packet = with_word 10 (header_sum header packet) packet

-- the packet with a time to live of one less, and its checksum anew
abbrev pub onward : PacketHead → List ℕ → List ℕ
onward h packet = with_header_sum h.header (slice_set packet 8 (h.ttl - 1))

-- What a frame carries for a station. (AX.25 2.2, sections 3.4 and 3.12.)

-- the call to which requests for an address go
abbrev pub everyone : Callsign
everyone = record { letters = padded (codes "QST"); ssid = 0 }

abbrev pub all_repeated : List Address → Bool
all_repeated path = list_all (λ (r : Address). r.bit7) path

-- packets to the own call, and messages of ARP to the own call or to everyone
abbrev pub by_pid : Option ℕ → Callsign → Callsign → Content
by_pid None dest own = content.Nothing
by_pid (Some pid) dest own =
    if (pid == 0xCC) && same_call dest own then content.Packet
    else if (pid == 0xCD) && (same_call dest own || same_call dest everyone) then content.Arp
    else content.Nothing

-- what a UI frame carries that every repeater has repeated
abbrev pub content_of : Callsign → Frame → Content
content_of own f = if is_ui f.control && all_repeated f.head.path.items then by_pid f.pid f.head.dest.call own else content.Nothing

-- The neighbours that a forwarder knows. (RFC 826, Packet Reception; that there are at most 64 is this project's profile.)

abbrev pub call_of : ℕ → List Neighbour → Option Callsign
call_of address cache = option_map (λ (n : Neighbour). n.call) (find (λ (n : Neighbour). n.address == address) cache)

-- a neighbour at the place of its address, or behind the last 63
abbrev pub entered : Option ℕ → List Neighbour → Neighbour → List Neighbour
entered (Some at) cache n = slice_set cache at n
entered None cache n = drop (length cache - 63) cache ++ n ∷ []

abbrev pub learned : List Neighbour → Neighbour → List Neighbour
learned cache n = entered (position (λ m. m.address == n.address) cache) cache n

-- A forwarder, and its turns.

-- its call, its address, its routes, and the neighbours that it knows, at most 64
pub record State : Type 0 where
  pub call : Callsign
  pub address : ℕ
  pub routes : List IpRoute
  pub cache : List Neighbour

abbrev pub state : Forwarder → State
state f = record { call = f.call; address = f.address; routes = f.routes.items; cache = f.cache.items }

-- what the last frame left to send, until it is fetched
abbrev pub waiting : Forwarder → Option IpOut
waiting f = if f.waits then Some f.out else None

-- what it does, what it sends, and the neighbours that it knows then
pub record Turn : Type 0 where
  pub done : IpDone
  pub out : Option IpOut
  pub cache : List Neighbour

-- the state behind a turn
abbrev pub after : State → Turn → State
after s t = record s { cache = t.cache }

abbrev pub out_to : Callsign → ℕ → List ℕ → IpOut
out_to to pid info = record { to = to; pid = pid; info = record { items = info } }

abbrev pub packet_to : Callsign → List ℕ → IpOut
packet_to to info = out_to to 0xCC info

abbrev pub message_to : Callsign → Arp → IpOut
message_to to arp = out_to to 0xCD (arp_octets arp)

abbrev pub dropped : IpWhy → State → Turn
dropped why s = record { done = Dropped why; out = None; cache = s.cache }

abbrev pub sends : IpDone → IpOut → List Neighbour → Turn
sends done out cache = record { done = done; out = Some out; cache = cache }

-- the reply to a request, and the request for an address
abbrev pub reply_to : State → Arp → Arp
reply_to s arp = record { reply = true; sender = s.call; sender_ip = s.address; target = Some arp.sender; target_ip = arp.sender_ip }

abbrev pub request_for : State → ℕ → Arp
request_for s hop = record { reply = false; sender = s.call; sender_ip = s.address; target = None; target_ip = hop }

-- a message to the own address: its sender is known from then on, and a request is answered
abbrev pub heard : State → Arp → List Neighbour → Turn
heard s arp cache =
    if arp.reply
    then record { done = Learned; out = None; cache = cache }
    else sends Answered (message_to arp.sender (reply_to s arp)) cache

abbrev pub message_turn : State → Arp → Turn
message_turn s arp =
    if arp.target_ip == s.address
    then heard s arp (learned s.cache (record { address = arp.sender_ip; call = arp.sender }))
    else dropped NotMine s

abbrev pub arp_turn : State → Result Arp ArpRefusal → Turn
arp_turn s (Err refusal) = dropped Bad s
arp_turn s (Ok arp) = message_turn s arp

-- a packet to the own address
abbrev pub own_turn : State → Callsign → PacketHead → List ℕ → Turn
own_turn s source h packet =
    if is_request h packet
    then sends Echoed (packet_to source (reply packet)) s.cache
    else dropped Ours s

-- a packet by a route: its next hop is known, or asked for
abbrev pub to_call : State → PacketHead → List ℕ → ℕ → Option Callsign → Turn
to_call s h packet hop (Some call) = sends Forwarded (packet_to call (onward h packet)) s.cache
to_call s h packet hop None = sends Asked (message_to everyone (request_for s hop)) s.cache

abbrev pub to_hop : State → PacketHead → List ℕ → ℕ → Turn
to_hop s h packet hop = to_call s h packet hop (call_of hop s.cache)

abbrev pub by_route : State → PacketHead → List ℕ → Option IpRoute → Turn
by_route s h packet (Some route) = to_hop s h packet (next_hop route h.dest)
by_route s h packet None = dropped NoRoute s

-- a packet to another address
abbrev pub onward_turn : State → PacketHead → List ℕ → Turn
onward_turn s h packet = if nat_le h.ttl 1 then dropped Expired s else by_route s h packet (longest h.dest s.routes)

abbrev pub whole_turn : State → Callsign → PacketHead → List ℕ → Turn
whole_turn s source h packet = if h.dest == s.address then own_turn s source h packet else onward_turn s h packet

-- octets behind the packet are not looked at
abbrev pub packet_turn : State → Callsign → List ℕ → Result PacketHead PacketRefusal → Turn
packet_turn s source info (Err refusal) = dropped Bad s
packet_turn s source info (Ok h) = whole_turn s source h (take h.total info)

abbrev pub content_turn : State → Frame → Content → Turn
content_turn s f content.Packet = packet_turn s f.head.source.call f.info (packet_at f.info)
content_turn s f content.Arp = arp_turn s (arp_at f.info)
content_turn s f content.Nothing = dropped NotMine s

-- what a forwarder does with a frame
unfoldable pub turn : State → Frame → Turn
turn s f = content_turn s f (content_of s.call f)

-- what was done is the turn, and nothing else changed
pub record Does (t : Turn) (answer : IpDone) (old new : Forwarder) : Type 0 where
  pub done : answer ≡ t.done
  pub out : waiting new ≡ t.out
  pub cache : new.cache.items ≡ t.cache
  pub call : new.call ≡ old.call
  pub address : new.address ≡ old.address
  pub routes : new.routes ≡ old.routes
