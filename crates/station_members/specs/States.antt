-- The members of a station: their nodes, the desk, what each node was given, and how each frame went; and the calls, each one step. Own
-- profile.
use Rattle.std.specs.Prelude.{ℕ, zero, suc, ◌==◌, ◌||◌, not, nat_lt, length, Bool, false, List}
use Rattle.std.specs.Prelude.{[], ◌∷◌, ◌++◌, slice_get, Option, Some, None, Result, Ok, Err, if◌then◌else◌}
use Rattle.std.specs.Option.{option_map}
use Rattle.arrayvec.specs.ArrayVec.{ArrayVec}
use Rattle.radio_base.specs.declared.moment.Moment.{Moment}
use Rattle.ax_address.specs.declared.address.Address.{Address}
use Rattle.ax_address.specs.declared.alias.Alias.{Alias}
use Rattle.ax_address.specs.Callsign.{Callsign}
use Rattle.ax_link.specs.declared.notice.LinkNotice.TheVariants as notice
use Rattle.kiss_framing.specs.Stream.{framed}
use Rattle.link_table.specs.declared.written.Written.{Written}
use Rattle.link_table.specs.declared.path_refusal.PathRefusal.{PathRefusal}
use Rattle.node_core.specs.declared.acts.ActDone.{ActDone}
use Rattle.node_core.specs.declared.acts.ActRefusal.{ActRefusal}
use Rattle.node_core.specs.declared.quality_refusal.QualityRefusal.{QualityRefusal}
use Rattle.node_core.specs.declared.config.NodeConfig.{NodeConfig}
use Rattle.node_core.specs.Acts.{UserAct, Lock, Round}
use Rattle.node_core.specs.Bridged.{Input, Acts, Bytes, Fetches_entry, Paths, Qualities, Ticks, after}
use Rattle.node_core.specs.Configs.{hosting_node}
use Rattle.node_model.specs.States.{Entry, NodeState, Of_link}
use Rattle.station_ports.specs.declared.heading.Heading.{Heading}
use Rattle.station_ports.specs.Headings.{heading_at}
use Rattle.station_ports.specs.Readdressed.{with_call_at}
use Rattle.station_members.specs.declared.config.BeaconConfig.{BeaconConfig}
use Rattle.station_members.specs.declared.config.MemberConfig.{MemberConfig}
use Rattle.station_members.specs.declared.hearing.Intake.{Intake}
use Rattle.station_members.specs.declared.hearing.Intake.TheVariants.{No, AsItCame, To}
use Rattle.station_members.specs.declared.routing.Parcel.{Parcel}
use Rattle.station_members.specs.declared.routing.Parcel.TheVariants.{Nothing, For, ForFellows}
use Rattle.station_members.specs.declared.seat.Seat.{Seat}
use Rattle.station_members.specs.Desks as desks
use Rattle.station_members.specs.Desks.{Desk}
use Rattle.station_members.specs.Hearing.{is_set_up}
use Rattle.station_members.specs.Nodes.{answer_of, fetches, first_entry, first_telling}
use Rattle.station_members.specs.Nodes.{frames_of, has_link, path_answer_of, quality_answer_of}
use Rattle.station_members.specs.Places.{at_place}
use Rattle.station_members.specs.Ports.{fetched}
use Rattle.station_members.specs.Routing.{parcel_of, routed}
use Rattle.station_members.specs.Waiting.{beacons_sent, held_sent}

-- from where something comes to a member: from a port, from the fellow at a place, or neither
pub data Source : Type 0 where
  Port : ℕ → Source
  Fellow : ℕ → Source
  Own : Source

pub record Given : Type 0 where
  pub to : ℕ
  pub from : Source
  pub input : Input

-- how a frame went that a member has put out, when, and how many members stood then
pub record Sent : Type 0 where
  pub from : ℕ
  pub frame : Written
  pub parcel : Parcel
  pub now : Moment
  pub members : ℕ

pub record State : Type 0 where
  pub nodes : List NodeState
  pub desk : Desk
  pub made : List NodeConfig  -- with what each node was made
  pub given : List Given  -- all that the nodes were given, in order
  pub sent : List Sent  -- all frames that members have put out, in order

abbrev pub new_state : ℕ → List Callsign → State
new_state ports deny = record { nodes = []; desk = desks.new_desk ports deny; made = []; given = []; sent = [] }

-- ---- of which all is made: a node is given an input, or something is done at the desk

abbrev pub given : ℕ → Source → Input → State → State
given to from input s =
    record s {
      nodes = at_place to (after input) s.nodes;
      given = s.given ++ record { to = to; from = from; input = input } ∷ [];
    }

unfoldable pub give : ℕ → Source → Input → State → State
give to from input s = if nat_lt to (length s.nodes) then given to from input s else s

abbrev pub give_all : ℕ → Source → List Input → State → State
give_all to from [] s = s
give_all to from (input ∷ inputs) s = give_all to from inputs (give to from input s)

abbrev pub at_desk : (Desk → Desk) → State → State
at_desk step s = record s { desk = step s.desk }

-- a step for each member, in their order: so many are left, from a place on
abbrev pub each_from : (ℕ → State → State) → ℕ → ℕ → State → State
each_from step at zero s = s
each_from step at (suc left) s = each_from step (suc at) left (step at s)

abbrev pub each_member : (ℕ → State → State) → State → State
each_member step s = each_from step 0 (length s.nodes) s

-- octets are the input of a node as a whole frame
abbrev pub frame_in : Moment → List ℕ → Input
frame_in now octets = Bytes now.0 (framed 0 0 octets)

-- ---- hearing

abbrev pub take_in : ℕ → ℕ → Intake → List ℕ → Moment → State → State
take_in at port No octets now s = s
take_in at port AsItCame octets now s = give at (Port port) (frame_in now octets) s
take_in at port (To call) octets now s = give at (Port port) (frame_in now (with_call_at 0 call octets)) s

-- the member at a place hears a frame, where it stands on the port
unfoldable pub hear_at : ℕ → Heading → List ℕ → Moment → ℕ → State → State
hear_at port h octets now at s =
    let up : Bool = is_set_up octets in
    take_in at port (desks.intake_at at port h up s.desk) octets now (at_desk (desks.hears_at at port h up) s)

abbrev pub hear_all : ℕ → Heading → List ℕ → Moment → State → State
hear_all port h octets now s = each_member (hear_at port h octets now) s

abbrev pub hear_noted : ℕ → Heading → List ℕ → Moment → State → State
hear_noted port h octets now s = if desks.is_heard h s.desk then hear_all port h octets now s else s

-- it is noted, and heard where it is none of a member or of whom the station doesn't hear
abbrev pub hear_headed : ℕ → Heading → List ℕ → Moment → State → State
hear_headed port h octets now s = hear_noted port h octets now (at_desk (desks.noted_at port h.hop now) s)

abbrev pub hear_if : Option Heading → ℕ → List ℕ → Moment → State → State
hear_if None port octets now s = s
hear_if (Some h) port octets now s = hear_headed port h octets now s

-- a frame comes at a port; where its addresses can't be read nothing is done
abbrev pub hear : ℕ → List ℕ → Moment → State → State
hear port octets now s = if desks.has_port port s.desk then hear_if (heading_at octets) port octets now s else s

-- ---- time

abbrev pub round_at : Moment → ℕ → State → State
round_at now at s = give at Own (Acts now.0 Round) s

-- each member does a round
abbrev pub round : Moment → State → State
round now s = each_member (round_at now) s

abbrev pub round_if : Bool → Moment → ℕ → State → State
round_if due now at s = if due then round_at now at s else s

-- time passes for a member: for its node, and then its first round goes where it is due
unfoldable pub tick_at : Moment → ℕ → State → State
tick_at now at s =
    round_if (desks.first_due_at at now.0 s.desk) now at (at_desk (desks.ticked_at at now.0) (give at Own (Ticks now.0) s))

abbrev pub tick_all : Moment → State → State
tick_all now s = each_member (tick_at now) s

abbrev pub held_at : Moment → ℕ → State → State
held_at now at s = at_desk (held_sent at now) s

abbrev pub send_held : Moment → State → State
send_held now s = each_member (held_at now) s

-- time passes for all members first, then beacons go that are due, and then what was held back long enough
abbrev pub tick : Moment → State → State
tick now s = send_held now (at_desk (beacons_sent now.0) (tick_all now s))

-- ---- frames that members put out

-- from the fellow at a place, to another
abbrev pub deliver_to : Moment → ℕ → List ℕ → ℕ → State → State
deliver_to now from octets to s = if to == from then s else give to (Fellow from) (frame_in now octets) s

abbrev pub deliver_all : Moment → ℕ → List ℕ → State → State
deliver_all now from octets s = each_member (deliver_to now from octets) s

-- what passes in the backplane comes at once to whom it is for
abbrev pub deliver : Moment → ℕ → Parcel → State → State
deliver now from Nothing s = s
deliver now from (For to octets) s = give to (Fellow from) (frame_in now octets) s
deliver now from (ForFellows octets) s = deliver_all now from octets s

abbrev pub note_sent : Moment → ℕ → Written → Parcel → State → State
note_sent now from w parcel s =
    record s { sent = s.sent ++ record { from = from; frame = w; parcel = parcel; now = now; members = length s.nodes } ∷ [] }

-- a frame of the member at a place goes
unfoldable pub send_one : Moment → ℕ → Written → State → State
send_one now from w s =
    deliver now from (parcel_of from w s.desk) (note_sent now from w (parcel_of from w s.desk) (at_desk (routed from w now) s))

abbrev pub send_each : Moment → ℕ → List Written → State → State
send_each now from [] s = s
send_each now from (w ∷ ws) s = send_each now from ws (send_one now from w s)

-- the frames that wait at the member at a place
abbrev pub frames_at : ℕ → State → List Written
frames_at at s = frames_of (slice_get s.nodes at)

-- all that wait when its turn comes are fetched, and go
unfoldable pub send_waiting : Moment → ℕ → State → State
send_waiting now at s = send_each now at (frames_at at s) (give_all at Own (fetches (frames_at at s)) s)

-- each frame that waits at a member is sent, member by member
abbrev pub send_all : Moment → State → State
send_all now s = each_member (send_waiting now) s

abbrev pub has_frames : ℕ → State → Bool
has_frames at s = not (length (frames_at at s) == 0)

abbrev pub sends_from : Moment → ℕ → ℕ → State → Bool
sends_from now at zero s = false
sends_from now at (suc left) s = has_frames at s || sends_from now (suc at) left (send_waiting now at s)

-- whether there is one
abbrev pub sends_any : Moment → State → Bool
sends_any now s = sends_from now 0 (length s.nodes) s

-- ---- entries

abbrev pub ended_peer : Entry → Option Callsign
ended_peer (Of_link peer notice.Closed) = Some peer
ended_peer (Of_link peer notice.Refused) = Some peer
ended_peer (Of_link peer notice.Failed) = Some peer
ended_peer _ = None

abbrev pub note_ended : Option Callsign → ℕ → State → State
note_ended None at s = s
note_ended (Some peer) at s =
    if has_link peer (slice_get s.nodes at) then s else at_desk (desks.unnamed_at at peer) s

-- with whom a member has no link any more, that doesn't speak to it by its alias
abbrev pub note_end : ℕ → Entry → State → State
note_end at entry s = note_ended (ended_peer entry) at s

abbrev pub note_if : Option Entry → ℕ → State → State
note_if None at s = s
note_if (Some entry) at s = note_end at entry s

abbrev pub entry_at : ℕ → State → Option Entry
entry_at at s = first_entry (slice_get s.nodes at)

abbrev pub fetch_told_at : ℕ → State → State
fetch_told_at at s = note_if (entry_at at s) at (give at Own Fetches_entry s)

abbrev pub fetch_told_if : Option ℕ → State → State
fetch_told_if None s = s
fetch_told_if (Some at) s = fetch_told_at at s

-- the first thing is fetched that the first member has to tell that has any
abbrev pub fetch_told : State → State
fetch_told s = fetch_told_if (first_telling s.nodes) s

abbrev pub told_at : ℕ → State → Option (ℕ × Entry)
told_at at s = option_map (λ entry. (at, entry)) (entry_at at s)

abbrev pub told_if : Option ℕ → State → Option (ℕ × Entry)
told_if None s = None
told_if (Some at) s = told_at at s

abbrev pub first_told : State → Option (ℕ × Entry)
first_told s = told_if (first_telling s.nodes) s

-- ---- the calls of whoever holds the members

-- what the member at a place answers an act: no end is held where none stands
abbrev pub act_answer : Moment → ℕ → UserAct → State → Result ActDone ActRefusal
act_answer now at act s = answer_of now.0 act (slice_get s.nodes at)

abbrev pub act : Moment → ℕ → UserAct → State → State
act now at a s = give at Own (Acts now.0 a) s

abbrev pub path_answer : ℕ → Callsign → ArrayVec Address → State → Result (Unit {0}) PathRefusal
path_answer at peer path s = path_answer_of peer path (slice_get s.nodes at)

abbrev pub set_path : ℕ → Callsign → ArrayVec Address → State → State
set_path at peer path s = give at Own (Paths peer path) s

abbrev pub quality_answer : ℕ → Callsign → State → Result (Unit {0}) QualityRefusal
quality_answer at neighbour s = quality_answer_of neighbour (slice_get s.nodes at)

abbrev pub set_quality : ℕ → Callsign → ℕ → State → State
set_quality at neighbour quality s = give at Own (Qualities neighbour quality) s

abbrev pub remember : ℕ → Callsign → ℕ → State → State
remember at call port s = at_desk (desks.remembers_at at call port) s

abbrev pub add_beacon : BeaconConfig → State → State
add_beacon c s = at_desk (desks.with_beacon c) s

-- the frame that has waited longest for a port was fetched
abbrev pub fetch_frame : State → State
fetch_frame s = at_desk (desks.at_air fetched) s

-- ---- one member more

abbrev pub quality_if : Result (Unit {0}) QualityRefusal → ℕ → Callsign → State → State
quality_if (Ok _) at fellow s = set_quality at fellow 255 s
quality_if (Err why) at fellow s = s

abbrev pub meet_quality : Callsign → ℕ → State → State
meet_quality call at s = quality_if (quality_answer at call s) at call s

-- the member at a place has a fellow: a path of quality 255, and a locked route of that quality
unfoldable pub meet : Callsign → Alias → ℕ → State → State
meet call alias at s = give at Own (Acts 0 (Lock call alias call 255)) (meet_quality call at s)

abbrev pub meet_by : Option Seat → ℕ → State → State
meet_by None at s = s
meet_by (Some fellow) at s = meet fellow.call fellow.alias at s

abbrev pub meet_at : ℕ → ℕ → State → State
meet_at fellow at s = meet_by (slice_get s.desk.seats fellow) at s

-- the members at two places are fellows
abbrev pub meet_both : ℕ → ℕ → State → State
meet_both last at s = meet_at at last (meet_at last at s)

abbrev pub made : MemberConfig → State → State
made c s =
    record s {
      nodes = s.nodes ++ hosting_node c.node ∷ [];
      desk = desks.seated c.node c.rules s.desk;
      made = s.made ++ c.node ∷ [];
    }

abbrev pub meet_all : ℕ → State → State
meet_all last s = each_from (meet_both last) 0 last s

abbrev pub has_room : State → Bool
has_room s = nat_lt (length s.nodes) 8

-- one member more, behind the others, where fewer than 8 stand: it and each other is a fellow
abbrev pub add : MemberConfig → State → State
add c s = if has_room s then meet_all (length s.nodes) (made c s) else s
