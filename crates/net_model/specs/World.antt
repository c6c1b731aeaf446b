-- A network as it runs: its channels, its nodes and their mail, the time, the frames in the air and what there was to tell; and the
-- moves of which each line is made. Something reaches a node, which tells its entries; events are told; a node's frames are put in the
-- air. Own profile.
use Rattle.std.specs.Prelude.{ℕ, zero, suc, Bool, true, false, ◌==◌, List, [], ◌∷◌, ◌++◌, length, map, slice_get, slice_set, Option, Some, None, option_map, unwrap_or, Result, Ok, if◌then◌else◌, ◌-◌, nat_le, position, ◌≡◌, not}
use Rattle.std.specs.List.{position_or_len, AllByRecursion}
use Rattle.circuit_verdict.specs.declared.allowance.Allowance.{Allowance}
use Rattle.circuit_verdict.specs.declared.allowance.Allowance.TheVariants.{Fixed, OfWindow}
use Rattle.link_table.specs.declared.written.Written.{Written}
use Rattle.radio_base.specs.declared.modulus.LinkModulus.{LinkModulus}
use Rattle.network_file.specs.declared.plan.channels.Channel.{Channel}
use Rattle.network_file.specs.Plan.{is_on_air, Plan, can_hear, version_of}
use Rattle.node_core.specs.declared.acts.ActDone.{ActDone}
use Rattle.node_core.specs.declared.acts.ActDone.TheVariants.{Done}
use Rattle.node_core.specs.declared.acts.ActRefusal.{ActRefusal}
use Rattle.node_core.specs.Acts.{UserAct}
use Rattle.node_core.specs.Inputs as inputs
use Rattle.node_model.specs.Links.{all_fetched}
use Rattle.node_model.specs.States.{NodeState, frames}
use Rattle.node_mail.specs.Lists.{Lists}
use Rattle.arrayvec.specs.ArrayVec.{ArrayVec}
use Rattle.net_model.specs.declared.air.Aired.{Aired}
use Rattle.net_model.specs.Events.{Event, Entry, InAir, NumberedEvent}
use Rattle.net_model.specs.Starting.{Placed, new_mails, new_nodes}
use Rattle.net_model.specs.declared.refusals.LineRefusal.{LineRefusal}
use Rattle.net_model.specs.declared.refusals.LineRefusal.TheVariants.{NoFrame, Settled, NotSettled, NoChannel}

-- Frames in the air. Own profile.

abbrev pub AllSettled : List Aired → Type 0
AllSettled frames = AllByRecursion (λ (f : Aired). f.settled ≡ true) frames

-- how many frames may be in the air
abbrev pub most_frames : ℕ
most_frames = 100000

-- a frame as it is put in the air, written with sequence numbers of this modulus
abbrev pub in_air : ℕ → ArrayVec ℕ → LinkModulus → Aired
in_air sender octets modulus = record { sender = sender; octets = octets; modulus = modulus; settled = false }

-- Frames are numbered from 1.
abbrev pub frame_of : List Aired → ℕ → Option Aired
frame_of air number = slice_get air (number - 1)

-- the place of the oldest frame that isn't settled
abbrev pub oldest : List Aired → Option ℕ
oldest air = position (λ f. not f.settled) air

abbrev pub settled : Aired → Aired
settled f = record f { settled = true }

-- the frames, where the one at a place is settled
abbrev pub settled_at : ℕ → List Aired → List Aired
settled_at at [] = []
settled_at zero (f ∷ fs) = settled f ∷ fs
settled_at (suc at) (f ∷ fs) = f ∷ settled_at at fs

-- why a frame that has to be settled, or unsettled, isn't
abbrev pub wrong_state : Bool → Aired → Option LineRefusal
wrong_state true f = if f.settled then None else Some NotSettled
wrong_state false f = if f.settled then Some Settled else None

abbrev pub or_else : Option LineRefusal → Option LineRefusal → Option LineRefusal
or_else (Some why) other = Some why
or_else None other = other

-- why such a frame can't be found
abbrev pub lost_fault : Bool → Option Aired → Option LineRefusal
lost_fault settled None = Some NoFrame
lost_fault settled (Some f) = wrong_state settled f

-- why the node can't hear a frame
abbrev pub unheard : List Channel → ℕ → Option Aired → Option LineRefusal
unheard channels node None = Some NoFrame
unheard channels node (Some f) = if can_hear channels f.sender node then None else Some NoChannel

-- why a frame that has to be settled, or unsettled, can't go to a node: it isn't there, isn't so, or the node is its sender or
-- shares no channel with it
abbrev pub delivery_fault : List Channel → ℕ → Bool → Option Aired → Option LineRefusal
delivery_fault channels node settled f = or_else (lost_fault settled f) (unheard channels node f)

-- files of version 3 and later allow as many overtakers as fit a circuit's window; those before fewer than 128
abbrev pub allowance_of : Plan → Allowance
allowance_of plan = if nat_le 3 (version_of plan) then OfWindow else Fixed

-- the channels, and how many overtakers are too many, which stay; the nodes by number, and by the same places the mail that each keeps,
-- if it does; milliseconds since the start; the frames in the order in which they were put in the air; and the events in their order
pub record World : Type 0 where
  pub channels : List Channel
  pub allowance : Allowance
  pub nodes : List Placed
  pub mails : List (Option Lists)
  pub now : ℕ
  pub air : List Aired
  pub told : List NumberedEvent

abbrev pub start : Plan → World
start plan = record { channels = plan.channels; allowance = allowance_of plan; nodes = new_nodes plan; mails = new_mails plan; now = 0; air = []; told = [] }

-- ---- events are told

abbrev pub numbered : ℕ → Event → NumberedEvent
numbered line event = record { line = line; event = event }

abbrev pub tell : ℕ → List Event → World → World
tell line events w = record w { told = w.told ++ map (numbered line) events }

-- ---- the node at a place, and the frame there

-- this is done with what is found, and nothing where nothing is
abbrev pub with_found : {A : Type 0} → Option A → (A → World → World) → World → World
with_found None does w = w
with_found (Some x) does w = does x w

abbrev pub at_node : ℕ → (Placed → World → World) → World → World
at_node at does w = with_found (slice_get w.nodes at) does w

abbrev pub at_frame : ℕ → (Aired → World → World) → World → World
at_frame at does w = with_found (slice_get w.air at) does w

-- the node at a place is in this state
abbrev pub with_state : ℕ → Placed → NodeState → World → World
with_state at p n w = record w { nodes = slice_set w.nodes at (record p { state = n }) }

-- ---- something reaches a node

-- KISS bytes, the time, or what its user does
pub data Input : Type 0 where
  Bytes : List ℕ → Input
  Time : Input
  Act : UserAct → Input

abbrev pub after : ℕ → Input → NodeState → NodeState
after now (Bytes bytes) n = inputs.after_bytes now bytes n
after now Time n = inputs.after_tick now n
after now (Act act) n = inputs.after_act now act n

abbrev pub is_node : ℕ → Placed → Bool
is_node number p = p.declared.node == number

-- the place of the node of a number among the nodes
abbrev pub place_of_node : ℕ → List Placed → ℕ
place_of_node number nodes = position_or_len (is_node number) nodes

-- what it had to tell was told
abbrev pub all_told : NodeState → NodeState
all_told n = record n { station = record n.station { entries = [] } }

-- the entries of the node at a place are told, and its frames stay with it
abbrev pub tells_entries : ℕ → ℕ → Placed → NodeState → World → World
tells_entries line at p n w = tell line (map (Entry p.declared.node) n.station.entries) (with_state at p (all_told n) w)

-- it reaches the node at a place
unfoldable pub reach : ℕ → ℕ → Input → World → World
reach line at input w = at_node at (λ p. tells_entries line at p (after w.now input p.state)) w

-- what the node at a place answers an act
unfoldable pub answer : ℕ → UserAct → World → Result ActDone ActRefusal
answer at act w = unwrap_or (option_map (λ (p : Placed). inputs.act_answer w.now act p.state) (slice_get w.nodes at)) (Ok Done)

-- ---- a node's frames are put in the air

-- a frame of a node as it is put in the air; a repeated one was written as the one that came
abbrev pub aired_as : ℕ → LinkModulus → Written → Aired
aired_as sender came f = in_air sender f.octets (unwrap_or f.modulus came)

-- so many frames more are in the air: they are numbered behind those that are there
abbrev pub air_events : ℕ → ℕ → List Event
air_events count zero = []
air_events count (suc more) = InAir (suc count) ∷ air_events (suc count) more

abbrev pub all_fetched_of : NodeState → NodeState
all_fetched_of n = record n { station = record n.station { own = []; links = all_fetched n.station.links } }

-- the frames of a node that come in the air: none where it is on no channel
abbrev pub aired : List Channel → LinkModulus → Placed → List Aired
aired channels came p =
    if is_on_air channels p.declared.node then map (aired_as p.declared.node came) (frames p.state.station) else []

abbrev pub puts : ℕ → ℕ → Placed → List Aired → World → World
puts line at p new w =
    tell line (air_events (length w.air) (length new)) (record (with_state at p (all_fetched_of p.state) w) { air = w.air ++ new })

-- all frames of the node at a place
unfoldable pub put : ℕ → ℕ → LinkModulus → World → World
put line at came w = at_node at (λ p. puts line at p (aired w.channels came p)) w
