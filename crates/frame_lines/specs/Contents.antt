-- The lines below a frame's: what its information is by its PID (AX.25 2.2, section 3.4). The text is own profile.
use Rattle.std.specs.Prelude.{ℕ, List, [], ◌∷◌, ◌++◌, ◌%◌, length, Bool, ◌&&◌, ◌==◌, nat_le, codes, Option, Some, None, if◌then◌else◌}
use Rattle.std.specs.Fmt.{decimal}
use Rattle.ax_address.specs.Callsign.{Callsign, padded, same_call}
use Rattle.ax_frame.specs.Controls.{is_ui}
use Rattle.ax_frame.specs.Frames.{Frame}
pub use Rattle.nodes_broadcast.specs.Nodes.{nodes_call}
use Rattle.frame_lines.specs.DatagramLines.{datagram_text}
use Rattle.frame_lines.specs.NodesLines.{nodes_text}
use Rattle.frame_lines.specs.PacketLines.{arp_text, packet_text}
use Rattle.frame_lines.specs.TextLines.{text_line}

-- a broadcast of routes is a UI frame to NODES
abbrev pub is_nodes : Frame → Bool
is_nodes f = is_ui f.control && same_call f.head.dest.call nodes_call

abbrev pub net_rom_text : Frame → List ℕ
net_rom_text f = if is_nodes f then nodes_text f.info else datagram_text f.info

-- segment more=N, and first where it begins a message: bits 6 to 0 count the segments still to come
abbrev pub first_text : ℕ → List ℕ
first_text head = if nat_le 128 head then codes "first " else []

abbrev pub segment_line : ℕ → ℕ → List ℕ
segment_line head len = codes "  segment " ++ (first_text head ++ (codes "more=" ++ (decimal (head % 128) ++ (codes " len=" ++ (decimal len ++ codes "\n")))))

abbrev pub segment_text : List ℕ → List ℕ
segment_text [] = codes "  bad segment short\n"
segment_text (head ∷ rest) = segment_line head (length rest)

-- CF is NET/ROM, F0 text, CC IP, CD ARP and 08 a segment; of others nothing is said
abbrev pub by_pid : ℕ → Frame → List ℕ
by_pid pid f =
    if pid == 0xCF then net_rom_text f
    else if pid == 0xF0 then text_line f.info
    else if pid == 0xCC then packet_text f.info
    else if pid == 0xCD then arp_text f.info
    else if pid == 8 then segment_text f.info
    else []

abbrev pub of_pid : Option ℕ → Frame → List ℕ
of_pid None f = []
of_pid (Some pid) f = by_pid pid f

abbrev pub contents : Frame → List ℕ
contents f = of_pid f.pid f
