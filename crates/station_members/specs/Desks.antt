-- The desk of a station: all that its members are beside their nodes, and its ports. Own profile.
use Rattle.std.specs.Prelude.{ℕ, ◌&&◌, not, is_some, nat_lt, length, Bool, false, List, [], ◌∷◌, ◌++◌, slice_get, Option, Some, None}
use Rattle.std.specs.List.{list_any}
use Rattle.radio_base.specs.declared.moment.Moment.{Moment}
use Rattle.ax_address.specs.Callsign.{Callsign, same_call}
use Rattle.ax_address.specs.declared.alias.Alias.{Alias}
use Rattle.node_core.specs.declared.config.NodeConfig.{NodeConfig}
use Rattle.station_ports.specs.declared.heading.Heading.{Heading}
use Rattle.station_members.specs.declared.beacons.Beacon.{Beacon}
use Rattle.station_members.specs.declared.config.BeaconConfig.{BeaconConfig}
use Rattle.station_members.specs.declared.config.MemberRules.{MemberRules}
use Rattle.station_members.specs.declared.desk.Desk as code
use Rattle.station_members.specs.declared.hearing.Intake.{Intake}
use Rattle.station_members.specs.declared.hearing.Intake.TheVariants.{No}
use Rattle.station_members.specs.declared.seat.Seat.{Seat}
use Rattle.station_members.specs.Beacons.{new_beacon}
use Rattle.station_members.specs.Hearing.{hears, intake}
use Rattle.station_members.specs.Places.{at_place}
use Rattle.station_members.specs.Ports.{Air, air_of, new_air, noted}
use Rattle.station_members.specs.Seats.{is_first_due, new_seat, remembers, ticked, unnames}
use Rattle.station_members.specs.Telling.{place_of}

pub record Desk : Type 0 where
  pub seats : List Seat  -- of the members, in their order
  pub air : Air
  pub deny : List Callsign  -- whose frames aren't heard
  pub beacons : List Beacon

abbrev pub desk_of : code.Desk → Desk
desk_of d = record { seats = d.seats.items; air = air_of d.ports; deny = d.deny.items; beacons = d.beacons.items }

abbrev pub new_desk : ℕ → List Callsign → Desk
new_desk ports deny = record { seats = []; air = new_air ports; deny = deny; beacons = [] }

abbrev pub seated : NodeConfig → MemberRules → Desk → Desk
seated node rules d = record d { seats = d.seats ++ new_seat node rules ∷ [] }

abbrev pub with_beacon : BeaconConfig → Desk → Desk
with_beacon c d = record d { beacons = d.beacons ++ new_beacon c ∷ [] }

-- this is done at the seat at a place
abbrev pub at_seat : ℕ → (Seat → Seat) → Desk → Desk
at_seat at step d = record d { seats = at_place at step d.seats }

abbrev pub at_air : (Air → Air) → Desk → Desk
at_air step d = record d { air = step d.air }

abbrev pub name_of : Option Seat → Option (Callsign × Alias)
name_of None = None
name_of (Some seat) = Some (seat.call, seat.alias)

-- ---- hearing

-- a frame came at a port, in which this call was heard
abbrev pub noted_at : ℕ → Callsign → Moment → Desk → Desk
noted_at port hop now d = at_air (noted port hop now) d

abbrev pub has_port : ℕ → Desk → Bool
has_port port d = nat_lt port (length d.air.ports)

abbrev pub is_denied : Callsign → Desk → Bool
is_denied call d = list_any (λ one. same_call one call) d.deny

abbrev pub is_member : Callsign → Desk → Bool
is_member call d = is_some (place_of call d.seats)

-- neither its source nor who was heard in it is denied, and its source is no member: else one radio hears the other
abbrev pub is_heard : Heading → Desk → Bool
is_heard h d = not (is_denied h.source d) && (not (is_denied h.hop d) && not (is_member h.source d))

abbrev pub intake_of : ℕ → Heading → Bool → Option Seat → Intake
intake_of port h set_up None = No
intake_of port h set_up (Some seat) = intake port h set_up seat

-- how the member at a place takes a frame in
abbrev pub intake_at : ℕ → ℕ → Heading → Bool → Desk → Intake
intake_at at port h set_up d = intake_of port h set_up (slice_get d.seats at)

abbrev pub hears_at : ℕ → ℕ → Heading → Bool → Desk → Desk
hears_at at port h set_up d = at_seat at (hears port h set_up) d

-- ---- time

abbrev pub first_due_of : ℕ → Option Seat → Bool
first_due_of now None = false
first_due_of now (Some seat) = is_first_due now seat

abbrev pub first_due_at : ℕ → ℕ → Desk → Bool
first_due_at at now d = first_due_of now (slice_get d.seats at)

abbrev pub ticked_at : ℕ → ℕ → Desk → Desk
ticked_at at now d = at_seat at (ticked now) d

-- ---- who is known to a member

abbrev pub remembers_at : ℕ → Callsign → ℕ → Desk → Desk
remembers_at at call port d = at_seat at (remembers call port) d

abbrev pub unnamed_at : ℕ → Callsign → Desk → Desk
unnamed_at at peer d = at_seat at (unnames peer) d
