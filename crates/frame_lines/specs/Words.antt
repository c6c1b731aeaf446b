-- The words for why octets are none of what their place says that they are, and the place of the octet that shows it. Own profile.
use Rattle.std.specs.Prelude.{ℕ, List, codes}
use Rattle.ax_frame.specs.FrameText.{number_text}
use Rattle.ax_ip.specs.declared.arp.ArpRefusal.{ArpRefusal}
use Rattle.ax_ip.specs.declared.arp.ArpRefusal.TheVariants as arps
use Rattle.ax_ip.specs.declared.packet.PacketRefusal.{PacketRefusal}
use Rattle.ax_ip.specs.declared.packet.PacketRefusal.TheVariants as packets
use Rattle.circuit_l4.specs.declared.transport.TransportRefusal.{TransportRefusal}
use Rattle.circuit_l4.specs.declared.transport.TransportRefusal.TheVariants as transports
use Rattle.l3_datagram.specs.declared.datagram.DatagramRefusal.{DatagramRefusal}
use Rattle.l3_datagram.specs.declared.datagram.DatagramRefusal.TheVariants as datagrams
use Rattle.nodes_broadcast.specs.declared.nodes.NodesRefusal.{NodesRefusal}
use Rattle.nodes_broadcast.specs.declared.nodes.NodesRefusal.TheVariants as nodes

abbrev pub nodes_fault : NodesRefusal → List ℕ
nodes_fault nodes.NotNodes = codes "signature"
nodes_fault (nodes.BadLength at) = number_text (codes "length ") at
nodes_fault nodes.TooMany = codes "entries"
nodes_fault (nodes.BadCall at) = number_text (codes "call ") at

abbrev pub datagram_fault : DatagramRefusal → List ℕ
datagram_fault (datagrams.Short at) = number_text (codes "short ") at
datagram_fault datagrams.TooLong = codes "long"
datagram_fault (datagrams.BadCall at) = number_text (codes "call ") at

abbrev pub transport_fault : TransportRefusal → List ℕ
transport_fault (transports.Short at) = number_text (codes "short ") at
transport_fault transports.BadOpcode = codes "opcode"
transport_fault (transports.BadCall at) = number_text (codes "call ") at
transport_fault transports.TooLong = codes "long"

abbrev pub packet_fault : PacketRefusal → List ℕ
packet_fault packets.Short = codes "short"
packet_fault packets.TooLong = codes "long"
packet_fault packets.BadVersion = codes "version"
packet_fault packets.BadHeader = codes "header"
packet_fault packets.BadLength = codes "length"
packet_fault packets.BadSum = codes "checksum"

abbrev pub arp_fault : ArpRefusal → List ℕ
arp_fault arps.Short = codes "short"
arp_fault arps.NotAx25 = codes "kind"
arp_fault arps.BadOp = codes "operation"
arp_fault (arps.BadCall at) = number_text (codes "call ") at
