-- The lines of a packet of IPv4 and of a message of ARP. (RFC 791, RFC 826; the text is own profile.)
use Rattle.std.specs.Prelude.{ℕ, List, ◌++◌, ◌/◌, ◌%◌, codes, Option, Some, None, Result, Ok, Err}
use Rattle.std.specs.Fmt.{decimal}
use Rattle.ax_address.specs.Callsign as calls
use Rattle.ax_address.specs.Callsign.{Callsign}
use Rattle.ax_ip.specs.declared.arp.Arp.{Arp}
use Rattle.ax_ip.specs.Arps.{arp_at}
use Rattle.ax_ip.specs.declared.packet.PacketHead.{PacketHead}
use Rattle.ax_ip.specs.Packets.{packet_at}
use Rattle.ax_ip.specs.declared.arp.ArpRefusal.{ArpRefusal}
use Rattle.ax_ip.specs.declared.packet.PacketRefusal.{PacketRefusal}
use Rattle.frame_lines.specs.Words.{arp_fault, packet_fault}

-- four numbers, the high octet first
abbrev pub address_text : ℕ → List ℕ
address_text a =
    decimal (a / 16777216) ++ (codes "." ++ (decimal (a / 65536 % 256) ++ (codes "." ++ (decimal (a / 256 % 256) ++ (codes "." ++ decimal (a % 256))))))

-- ip SOURCE>DEST ttl=T protocol=P len=L
abbrev pub packet_line : PacketHead → List ℕ
packet_line h =
    codes "  ip "
    ++ (address_text h.source
    ++ (codes ">" ++ (address_text h.dest ++ (codes " ttl=" ++ (decimal h.ttl ++ (codes " protocol=" ++ (decimal h.protocol ++ (codes " len=" ++ (decimal h.total ++ codes "\n")))))))))

abbrev pub bad_packet : PacketRefusal → List ℕ
bad_packet e = codes "  bad ip " ++ (packet_fault e ++ codes "\n")

abbrev pub packet_read : Result PacketHead PacketRefusal → List ℕ
packet_read (Ok head) = packet_line head
packet_read (Err e) = bad_packet e

-- the packet that the octets begin with, or why they begin with none
abbrev pub packet_text : List ℕ → List ℕ
packet_text octets = packet_read (packet_at octets)

-- arp request CALL ADDRESS for ADDRESS, or arp reply CALL ADDRESS to CALL ADDRESS
abbrev pub target_text : Option Callsign → List ℕ
target_text None = codes " for "
target_text (Some call) = codes " to " ++ (calls.shown call ++ codes " ")

abbrev pub operation_text : Option Callsign → List ℕ
operation_text None = codes "request "
operation_text (Some call) = codes "reply "

abbrev pub arp_line : Arp → List ℕ
arp_line a =
    codes "  arp "
    ++ (operation_text a.target ++ (calls.shown a.sender ++ (codes " " ++ (address_text a.sender_ip ++ (target_text a.target ++ (address_text a.target_ip ++ codes "\n"))))))

abbrev pub bad_arp : ArpRefusal → List ℕ
bad_arp e = codes "  bad arp " ++ (arp_fault e ++ codes "\n")

abbrev pub arp_read : Result Arp ArpRefusal → List ℕ
arp_read (Ok message) = arp_line message
arp_read (Err e) = bad_arp e

-- the message that the octets begin with, or why they begin with none
abbrev pub arp_text : List ℕ → List ℕ
arp_text octets = arp_read (arp_at octets)
