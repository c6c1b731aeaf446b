-- Packets: numbers and checksums in their octets, how a header is laid out, and what shows that octets begin with none. (RFC 791,
-- section 3.1; that a packet has at most 256 octets is this project's profile.)
use Rattle.std.specs.Prelude.{ℕ, ◌≡◌, ◌≤◌, ◌*◌, ◌/◌, ◌%◌, List, length, take, Bool, true, ◌||◌, ◌==◌, nat_lt, not, Result, Ok, Err, if◌then◌else◌, ◌+◌, [], ◌∷◌, get_or, ◌-◌, ◌++◌, ◌&&◌}
pub use Rattle.ax_ip.specs.declared.packet.PacketHead.{PacketHead}
use Rattle.ax_ip.specs.declared.packet.PacketRefusal.{PacketRefusal}
use Rattle.ax_ip.specs.declared.packet.PacketRefusal.TheVariants.{Short, TooLong, BadVersion, BadHeader, BadLength, BadSum}

-- Numbers in octets, the high octet first. (RFC 791, appendix B.)

abbrev pub octet : List ℕ → ℕ → ℕ
octet octets at = get_or octets at 0

abbrev pub word : List ℕ → ℕ → ℕ
word octets at = 256 * octet octets at + octet octets (at + 1)

abbrev pub long : List ℕ → ℕ → ℕ
long octets at = 65536 * word octets at + word octets (at + 2)

abbrev pub word_octets : ℕ → List ℕ
word_octets n = n / 256 ∷ n % 256 ∷ []

abbrev pub long_octets : ℕ → List ℕ
long_octets n = n / 16777216 ∷ n / 65536 % 256 ∷ n / 256 % 256 ∷ n % 256 ∷ []

-- Checksums. In sums of ones' complement a carry out of 16 bits is added at the other end, which takes FFFF away: so
-- octets are right where their words add up to a multiple of FFFF that isn't 0. (RFC 791, section 3.1; RFC 1071.)

-- a last odd octet is followed by an octet of zero
abbrev pub word_sum : List ℕ → ℕ
word_sum [] = 0
word_sum (high ∷ []) = 256 * high
word_sum (high ∷ low ∷ rest) = 256 * high + low + word_sum rest

-- octets that hold their checksum are as they were sent
abbrev pub is_right : List ℕ → Bool
is_right octets = nat_lt 0 (word_sum octets) && (word_sum octets % 65535 == 0)

-- the number below FFFF that a sum lacks to a multiple of FFFF
abbrev pub lacking : ℕ → ℕ
lacking sum = (65535 - sum % 65535) % 65535

-- octets with their checksum between them
abbrev pub summed : List ℕ → List ℕ → List ℕ
summed front back = front ++ word_octets (lacking (word_sum (front ++ back))) ++ back

-- Headers, and octets judged. (RFC 791, section 3.1.)

-- The octets begin with a packet of this header.
pub record SpellsPacket (h : PacketHead) (octets : List ℕ) : Type 0 where
  pub enough : 20 ≤ length octets
  pub few : length octets ≤ 256
  pub version : octet octets 0 / 16 ≡ 4
  pub header : 4 * (octet octets 0 % 16) ≡ h.header
  pub header_whole : 20 ≤ h.header
  pub total : word octets 2 ≡ h.total
  pub holds_header : h.header ≤ h.total
  pub whole : h.total ≤ length octets
  pub ttl : octet octets 8 ≡ h.ttl
  pub protocol : octet octets 9 ≡ h.protocol
  pub right : is_right (take h.header octets) ≡ true
  pub source : long octets 12 ≡ h.source
  pub dest : long octets 16 ≡ h.dest

abbrev pub header_len : List ℕ → ℕ
header_len octets = 4 * (octet octets 0 % 16)

abbrev pub head_in : List ℕ → PacketHead
head_in octets = record {
  source = long octets 12;
  dest = long octets 16;
  ttl = octet octets 8;
  protocol = octet octets 9;
  header = header_len octets;
  total = word octets 2;
}

-- a length of which a part is missing, or more than there is
abbrev pub is_outside : ℕ → ℕ → ℕ → Bool
is_outside least n most = nat_lt n least || nat_lt most n

-- The header, or the first thing that shows that there is none.
abbrev pub packet_at : List ℕ → Result PacketHead PacketRefusal
packet_at octets =
    if nat_lt (length octets) 20 then Err Short
    else if nat_lt 256 (length octets) then Err TooLong
    else if not (octet octets 0 / 16 == 4) then Err BadVersion
    else if is_outside 20 (header_len octets) (length octets) then Err BadHeader
    else if is_outside (header_len octets) (word octets 2) (length octets) then Err BadLength
    else if not (is_right (take (header_len octets) octets)) then Err BadSum
    else Ok (head_in octets)
