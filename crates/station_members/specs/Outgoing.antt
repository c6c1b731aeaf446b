-- A frame on its way from a member. Own profile.
use Rattle.std.specs.Prelude.{ℕ, ◌&&◌, not, Bool, true, false, List, Result, Ok, Err, Option, Some, None, is_some, if◌then◌else◌}
use Rattle.std.specs.Option.{option_map}
use Rattle.ax_address.specs.Callsign.{Callsign, same_call}
use Rattle.ax_frame.specs.declared.control.Control.{Control}
use Rattle.ax_frame.specs.declared.control.Control.TheVariants.{Rr}
use Rattle.ax_frame.specs.declared.frame.FrameRefusal.{FrameRefusal}
use Rattle.ax_frame.specs.Frames.{Frame, read_at}
use Rattle.link_table.specs.declared.written.Written.{Written}
use Rattle.radio_base.specs.declared.modulus.LinkModulus.{LinkModulus}
use Rattle.radio_base.specs.declared.modulus.LinkModulus.TheVariants.{Modulo8, Modulo128}
use Rattle.radio_base.specs.Modulus.{modulus_size}
use Rattle.station_ports.specs.declared.heading.Heading.{Heading}
use Rattle.station_ports.specs.Headings.{heading_at}
use Rattle.station_ports.specs.Peers.{is_peer}
use Rattle.station_ports.specs.Readdressed.{with_call_at}
use Rattle.station_members.specs.declared.outgoing.Outgoing.{Outgoing}
use Rattle.station_members.specs.declared.seat.Seat.{Seat}

-- its sequence numbers count modulo 128
abbrev pub is_extended : Option LinkModulus → Bool
is_extended (Some Modulo8) = false
is_extended (Some Modulo128) = true
is_extended None = false

-- to who speaks to the member by its alias a frame from its call goes from the alias
abbrev pub name_to : Seat → Heading → Option Callsign
name_to seat h = if same_call h.source seat.call && is_peer h.dest seat.peers then seat.byname else None

abbrev pub signed_by : Option Callsign → List ℕ → List ℕ
signed_by None octets = octets
signed_by (Some name) octets = with_call_at 7 name octets

-- RR with P/F 0
abbrev pub is_ready : Control → Bool
is_ready (Rr nr pf) = not pf
is_ready _ = false

abbrev pub read_ready : Result Frame FrameRefusal → Bool
read_ready (Ok f) = is_ready f.control
read_ready (Err why) = false

abbrev pub is_ready_at : ℕ → List ℕ → Bool
is_ready_at size octets = read_ready (read_at size octets)

abbrev pub ready_as : Option LinkModulus → List ℕ → Bool
ready_as (Some modulus) octets = is_ready_at (modulus_size modulus) octets
ready_as None octets = false

-- it is an own frame, RR with P/F 0
abbrev pub says_only_ready : Written → Bool
says_only_ready w = ready_as w.modulus w.octets.items

abbrev pub outgoing_as : Seat → Written → Heading → Outgoing
outgoing_as seat w h =
    record {
      heading = h;
      octets = signed_by (name_to seat h) w.octets.items;
      is_extended = is_extended w.modulus;
      is_own = is_some w.modulus;  -- it is none that the member repeats
      may_wait = not h.is_command && says_only_ready w;
    }

-- a frame that its node has put out, where its addresses can be read
abbrev pub outgoing : Seat → Written → Option Outgoing
outgoing seat w = option_map (outgoing_as seat w) (heading_at w.octets.items)
