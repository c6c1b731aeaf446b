-- What fellows are told of a member's broadcast (NET/ROM, Appendix B; what is left out is this project's profile).
use Rattle.std.specs.Prelude.{ℕ, ◌&&◌, ◌==◌, not, is_some, length, Bool, List, filter, Result, Ok, Err, Option, Some, None, if◌then◌else◌}
use Rattle.std.specs.Prelude.{position}
use Rattle.ax_address.specs.Callsign.{Callsign, same_call}
use Rattle.ax_address.specs.declared.entry.Entry.{Entry}
pub use Rattle.ax_frame.specs.Controls.{is_ui}
use Rattle.ax_frame.specs.declared.frame.FrameRefusal.{FrameRefusal}
use Rattle.ax_frame.specs.Frames.{Frame, read_at}
use Rattle.node_core.specs.Broadcasts as broadcasts
use Rattle.nodes_broadcast.specs.Nodes.{Broadcast, nodes_at}
use Rattle.nodes_broadcast.specs.declared.nodes.NodesRefusal.{NodesRefusal}
use Rattle.station_members.specs.declared.seat.Seat.{Seat}

abbrev pub nodes_call : Callsign
nodes_call = broadcasts.nodes_call

-- UI to NODES with the PID of NET/ROM, without repeaters
abbrev pub is_broadcast : Frame → Bool
is_broadcast f =
    is_ui f.control && (broadcasts.has_netrom_pid f.pid && ((length f.head.path.items == 0) && same_call f.head.dest.call nodes_call))

-- the place of the member of a call
abbrev pub place_of : Callsign → List Seat → Option ℕ
place_of call seats = position (λ (s : Seat). same_call s.call call) seats

abbrev pub is_of_member : List Seat → Entry → Bool
is_of_member seats e = is_some (place_of e.best seats)

-- so no route lives on between fellows alone
abbrev pub without_members : List Seat → Broadcast → Broadcast
without_members seats b = record b { entries = filter (λ e. not (is_of_member seats e)) b.entries }

abbrev pub told_as : List Seat → Callsign → Result Broadcast NodesRefusal → Option (List ℕ)
told_as seats source (Ok b) = Some (broadcasts.broadcast_octets source (without_members seats b))
told_as seats source (Err why) = None

abbrev pub told_of : List Seat → Frame → Option (List ℕ)
told_of seats f = if is_broadcast f then told_as seats f.head.source.call (nodes_at f.info) else None

abbrev pub read_told : List Seat → Result Frame FrameRefusal → Option (List ℕ)
read_told seats (Ok f) = told_of seats f
read_told seats (Err why) = None

-- what fellows are told of a frame, where it is a broadcast
abbrev pub told_to_fellows : List Seat → List ℕ → Option (List ℕ)
told_to_fellows seats octets = read_told seats (read_at 8 octets)
