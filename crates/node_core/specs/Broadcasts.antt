-- A node's broadcasts as frames: UI to NODES with the PID of NET/ROM (NET/ROM, Appendix B), eleven entries a frame; and the rounds and
-- ticks in which they are sent.
use Rattle.std.specs.Prelude.{ℕ, ◌+◌, ◌*◌, ◌/◌, Bool, true, false, ◌&&◌, ◌==◌, List, [], ◌∷◌, length, take, drop, map, Option, Some, None, codes, nat_le, if◌then◌else◌}
use Rattle.std.specs.List.{range_with_len}
use Rattle.ax_address.specs.Callsign.{Callsign, padded, same_call}
use Rattle.ax_address.specs.declared.alias.Alias.{Alias}
use Rattle.ax_address.specs.declared.entry.Entry.{Entry}
use Rattle.ax_frame.specs.declared.control.Control.TheVariants.{Ui}
use Rattle.ax_address.specs.Octets.{address_of}
use Rattle.ax_frame.specs.Controls.{is_ui}
use Rattle.ax_frame.specs.Frames.{Frame, frame, frame_octets}
use Rattle.link_table.specs.declared.written.Written.{Written}
use Rattle.radio_base.specs.declared.modulus.LinkModulus.TheVariants.{Modulo8}
use Rattle.nodes_broadcast.specs.Nodes.{Broadcast, nodes_octets}
pub use Rattle.nodes_broadcast.specs.Nodes.{nodes_call}
use Rattle.route_table.specs.Log.{Round}
use Rattle.route_table.specs.Table.{to_broadcast}
use Rattle.node_model.specs.Links as links
use Rattle.node_model.specs.States.{State, at_links, at_set, put, with_items}

-- the PID of NET/ROM
abbrev pub netrom_pid : ℕ
netrom_pid = 0xCF

abbrev pub has_netrom_pid : Option ℕ → Bool
has_netrom_pid (Some pid) = pid == netrom_pid
has_netrom_pid None = false

abbrev pub is_broadcast : Frame → Bool
is_broadcast f = is_ui f.control && (has_netrom_pid f.pid && same_call f.head.dest.call nodes_call)

-- a broadcast of this node: a command without repeaters
abbrev pub broadcast_frame : Callsign → Broadcast → Frame
broadcast_frame c b = frame
    (record { dest = address_of nodes_call true; source = address_of c false; path = record { items = [] } })
    (Ui false) (Some netrom_pid) (nodes_octets b)

abbrev pub broadcast_octets : Callsign → Broadcast → List ℕ
broadcast_octets c b = frame_octets 8 (broadcast_frame c b)

-- eleven entries a frame, and at least one frame
abbrev pub frame_count : List Entry → ℕ
frame_count [] = 1
frame_count (e ∷ es) = 1 + length es / 11

-- the entries of a frame, by its number from 0
abbrev pub entries_of_frame : List Entry → ℕ → List Entry
entries_of_frame es nth = take 11 (drop (11 * nth) es)

abbrev pub round_frame : Callsign → Alias → List Entry → ℕ → Written
round_frame c alias es nth =
    record {
      octets = record { items = broadcast_octets c (record { alias = alias; entries = entries_of_frame es nth }) };
      modulus = Some Modulo8;
    }

-- the frames that broadcast these entries
abbrev pub round_frames : Callsign → Alias → List Entry → List Written
round_frames c alias es = map (round_frame c alias es) (range_with_len 0 (frame_count es))

-- Rounds and ticks of a node, before it settles (NET/ROM, Appendix B; the order and the interval are this project's profile).

-- frames of the node itself, one after another
abbrev pub put_all : List Written → State → State
put_all [] n = n
put_all (f ∷ fs) n = put_all fs (put f n)

-- the routes are broadcast
abbrev pub broadcast_routes : State → State
broadcast_routes n = put_all (round_frames n.settings.call n.settings.alias (to_broadcast n.settings.rules n.log)) n

-- the counts go down, and then the routes are broadcast
abbrev pub do_round : State → State
do_round n = broadcast_routes (with_items (Round ∷ []) n)

abbrev pub next_round_at : ℕ → State → State
next_round_at now n = record n { next_round = Some (now + n.settings.interval) }

abbrev pub round_by : ℕ → Option ℕ → State → State
round_by now None n = next_round_at now n
round_by now (Some due) n = if nat_le due now then next_round_at now (do_round n) else n

-- the first round is due an interval after the first tick
abbrev pub round_if_due : ℕ → State → State
round_if_due now n = if n.settings.interval == 0 then n else round_by now n.next_round n

-- the links, the ends of circuits, and the round of the interval: so of the frames those of the links come first, then the
-- broadcasts, and those of the ends when the circuits are pumped
abbrev pub tick : ℕ → State → State
tick now n = round_if_due now (at_set (links.ticks now) (at_links (links.tick_links now) n))
