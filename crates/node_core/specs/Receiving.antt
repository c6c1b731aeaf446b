-- What a node does with a KISS item, before it settles (AX.25 2.2, section 3.12, and NET/ROM, Appendix B; what is dropped is this
-- project's profile).
use Rattle.std.specs.Prelude.{ℕ, Bool, true, false, ◌&&◌, ◌==◌, nat_le, if◌then◌else◌, List, [], ◌∷◌, ◌++◌, length, unwrap_or, None, Result, Ok, Err}
use Rattle.std.specs.Map.{lookup}
use Rattle.ax_address.specs.Callsign.{Callsign, same_call}
use Rattle.ax_address.specs.declared.address.Address.{Address}
use Rattle.ax_frame.specs.declared.head.Head.{Head}
use Rattle.ax_frame.specs.declared.frame.FrameRefusal.{FrameRefusal}
use Rattle.ax_frame.specs.Frames.{Frame, read_head_at, read_at}
use Rattle.digi_path.specs.Paths.{Action, For_me, Repeat, Not_yet, Heard, action}
pub use Rattle.digi_path.specs.Paths.{h_octet, repeated_octets}
use Rattle.kiss_framing.specs.Stream as kiss
use Rattle.link_table.specs.declared.written.Written.{Written}
use Rattle.radio_base.specs.Modulus.{extended_if, modulus_size}
use Rattle.nodes_broadcast.specs.declared.nodes.NodesRefusal.{NodesRefusal}
use Rattle.nodes_broadcast.specs.Nodes.{Broadcast, nodes_at}
use Rattle.route_table.specs.Log.{Item, broadcast}
use Rattle.route_table.specs.Table.{usable}
use Rattle.node_core.specs.Broadcasts.{is_broadcast}
use Rattle.node_model.specs.Links as links
use Rattle.node_model.specs.States.{Overflow, State, at_links, enter, put, with_items}

abbrev pub repeated_frame : List Address → List ℕ → Written
repeated_frame path octets = record { octets = record { items = repeated_octets path octets }; modulus = None }

-- how many usable routes the node would have with these items
abbrev pub live_with : List Item → State → ℕ
live_with items n = length (usable n.settings.rules (n.log ++ items))

-- a table has room for 16,384 usable routes
abbrev pub has_room : List Item → State → Bool
has_room items n = nat_le (live_with items n) 16384

-- a broadcast is taken in whole, or where there is no room for it told and no part of the log
abbrev pub take_in : List Item → State → State
take_in items n =
    if has_room items n
    then with_items items n
    else enter (Overflow (length (usable n.settings.rules n.log)) (live_with items n) ∷ []) n

-- the quality of the path to a neighbour: its own, or else the node's
abbrev pub quality_to : Callsign → State → ℕ
quality_to neighbour n = unwrap_or (lookup (same_call neighbour) n.settings.qualities) n.settings.path_quality

abbrev pub hear : Callsign → Result Broadcast NodesRefusal → State → State
hear source (Ok b) n = take_in (broadcast n.settings.call source b.alias (quality_to source n) b.entries) n
hear source (Err e) n = n

-- a frame that no repeater has to repeat any more: a broadcast is heard, and another one to this node goes to its links
abbrev pub take_frame : ℕ → Bool → Result Frame FrameRefusal → State → State
take_frame now mine (Err e) n = n
take_frame now mine (Ok f) n =
    if is_broadcast f then hear f.head.source.call (nodes_at f.info) n
    else if mine then at_links (links.arrive f now) n
    else n

-- it is read by the modulus of the link with its source, and where none stands modulo 8
abbrev pub modulus_with : Callsign → State → ℕ
modulus_with peer n = modulus_size (extended_if (links.is_128 peer n.links))

abbrev pub take_by_path : ℕ → List ℕ → Head → Action → State → State
take_by_path now octets h (Repeat path) n = put (repeated_frame h.path.items octets) n
take_by_path now octets h Not_yet n = n
take_by_path now octets h For_me n = take_frame now true (read_at (modulus_with h.source.call n) octets) n
take_by_path now octets h Heard n = take_frame now false (read_at (modulus_with h.source.call n) octets) n

-- a frame of this node itself is dropped
abbrev pub take_from : ℕ → List ℕ → Head → State → State
take_from now octets h n =
    if same_call h.source.call n.settings.call then n
    else take_by_path now octets h (action h.path.items h.dest.call n.settings.call) n

-- the addresses are looked at first: a frame that can't be read is dropped
abbrev pub take_head : ℕ → List ℕ → Result (Head × ℕ) FrameRefusal → State → State
take_head now octets (Err e) n = n
take_head now octets (Ok h) n = take_from now octets h.0 n

abbrev pub take_octets : ℕ → List ℕ → State → State
take_octets now octets n = take_head now octets (read_head_at octets) n

-- data on port 0 is taken
abbrev pub take_item : ℕ → kiss.Item → State → State
take_item now (kiss.Frame port command payload) n = if (port == 0) && (command == 0) then take_octets now payload n else n
take_item now kiss.Too_long n = n
