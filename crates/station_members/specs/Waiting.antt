-- What goes on ports as time passes: beacons, and what members have held back. Own profile.
use Rattle.std.specs.Prelude.{ℕ, not, List, [], ◌∷◌, map, filter, slice_get, Option, Some, None, if◌then◌else◌}
use Rattle.radio_base.specs.declared.moment.Moment.{Moment}
use Rattle.station_ports.specs.Holding as holding
use Rattle.station_ports.specs.declared.held_back.Held.{Held}
use Rattle.station_ports.specs.declared.port_frame.PortFrame.{PortFrame}
use Rattle.station_members.specs.declared.beacons.Beacon.{Beacon}
use Rattle.station_members.specs.declared.seat.Seat.{Seat}
use Rattle.station_members.specs.Beacons.{due_frames, frame_of, is_due, ticked}
use Rattle.station_members.specs.Desks.{Desk, at_air, at_seat}
use Rattle.station_members.specs.Ports.{Air, put}

-- frames go, one after another
abbrev pub put_each : List PortFrame → Air → Air
put_each [] air = air
put_each (f ∷ fs) air = put_each fs (put f air)

abbrev pub put_if_due : ℕ → Beacon → Air → Air
put_if_due now b air = if is_due now b then put (frame_of b) air else air

-- the beacons that are due go, in their order
abbrev pub beacons_sent : ℕ → Desk → Desk
beacons_sent now d = record d { air = put_each (due_frames now d.beacons) d.air; beacons = map (ticked now) d.beacons }

-- ---- what is held back

abbrev pub first_due : Moment → Seat → Option PortFrame
first_due now seat = holding.due_frame seat.rules.t2 now seat.held

abbrev pub without_first : Moment → Seat → Seat
without_first now seat = record seat { held = holding.behind_due seat.rules.t2 now seat.held }

abbrev pub frame_held : Held → PortFrame
frame_held h = h.frame

-- the frames that have waited long enough, in their order
abbrev pub due_of : Moment → Seat → List PortFrame
due_of now seat = map frame_held (filter (holding.is_due seat.rules.t2 now) seat.held)

-- all others wait on
abbrev pub lets_go : Moment → Seat → Seat
lets_go now seat = record seat { held = filter (λ h. not (holding.is_due seat.rules.t2 now h)) seat.held }

abbrev pub held_by : Option Seat → ℕ → Moment → Desk → Desk
held_by None at now d = d
held_by (Some seat) at now d = at_air (put_each (due_of now seat)) (at_seat at (lets_go now) d)

-- what the member at a place has held back long enough goes
abbrev pub held_sent : ℕ → Moment → Desk → Desk
held_sent at now d = held_by (slice_get d.seats at) at now d
