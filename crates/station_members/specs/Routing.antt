-- Where a frame goes that a member puts out. Own profile.
use Rattle.std.specs.Prelude.{ℕ, ◌&&◌, ◌==◌, not, nat_lt, length, Bool, List, [], ◌∷◌, slice_get, Option, Some, None, if◌then◌else◌}
use Rattle.radio_base.specs.declared.moment.Moment.{Moment}
use Rattle.ax_address.specs.Callsign.{Callsign, same_call}
use Rattle.link_table.specs.declared.written.Written.{Written}
use Rattle.station_ports.specs.Holding as holding
use Rattle.station_ports.specs.Known.{port_of}
use Rattle.station_ports.specs.declared.port_frame.PortFrame.{PortFrame}
use Rattle.station_members.specs.declared.outgoing.Outgoing.{Outgoing}
use Rattle.station_members.specs.declared.routing.Parcel.{Parcel}
use Rattle.station_members.specs.declared.routing.Parcel.TheVariants.{Nothing, For, ForFellows}
use Rattle.station_members.specs.declared.seat.Seat.{Seat}
use Rattle.station_members.specs.Desks.{Desk, at_air, at_seat}
use Rattle.station_members.specs.Outgoing.{outgoing}
use Rattle.station_members.specs.Ports.{Air, put}
use Rattle.station_members.specs.Telling.{place_of, told_to_fellows}

-- ---- on a port

abbrev pub on_port : Outgoing → ℕ → PortFrame
on_port out port = record { port = port; octets = out.octets; is_extended = out.is_extended }

-- Where the member holds answers back, an RR that says nothing more waits; but no more than 512 wait.
abbrev pub holds_back : Outgoing → Seat → Bool
holds_back out seat = out.may_wait && (not (seat.rules.t2 == 0) && nat_lt (length seat.held) 512)

-- what waits on a port for the destination of an own frame is let fall
abbrev pub lets_fall : Outgoing → ℕ → Seat → Seat
lets_fall out port seat = if out.is_own then record seat { held = holding.without out.heading.dest port seat.held } else seat

-- what the member holds back, once a frame goes on a port
abbrev pub holds : Outgoing → ℕ → Moment → Seat → Seat
holds out port now seat =
    if holds_back out seat
    then record seat { held = holding.held_with out.heading.dest (on_port out port) now seat.held }
    else lets_fall out port seat

abbrev pub airs : Outgoing → ℕ → Seat → Air → Air
airs out port seat air = if holds_back out seat then air else put (on_port out port) air

abbrev pub put_by : Option Seat → ℕ → Outgoing → ℕ → Moment → Desk → Desk
put_by None from out port now d = d
put_by (Some seat) from out port now d = at_air (airs out port seat) (at_seat from (holds out port now) d)

-- a frame of the member at a place goes on a port, or is held back
abbrev pub put_on : ℕ → Outgoing → ℕ → Moment → Desk → Desk
put_on from out port now d = put_by (slice_get d.seats from) from out port now d

abbrev pub put_on_each : List ℕ → ℕ → Outgoing → Moment → Desk → Desk
put_on_each [] from out now d = d
put_on_each (port ∷ ports) from out now d = put_on_each ports from out now (put_on from out port now d)

abbrev pub seat_ports : Option Seat → List ℕ
seat_ports None = []
seat_ports (Some seat) = seat.rules.ports.items

abbrev pub ports_of : ℕ → Desk → List ℕ
ports_of at d = seat_ports (slice_get d.seats at)

abbrev pub put_on_all : ℕ → Outgoing → Moment → Desk → Desk
put_on_all from out now d = put_on_each (ports_of from d) from out now d

abbrev pub seat_port : Callsign → Option Seat → Option ℕ
seat_port call None = None
seat_port call (Some seat) = port_of call seat.known

-- the port by which the member at a place reaches a call
abbrev pub known_port : ℕ → Callsign → Desk → Option ℕ
known_port at call d = seat_port call (slice_get d.seats at)

abbrev pub put_by_port : Option ℕ → ℕ → Outgoing → Moment → Desk → Desk
put_by_port (Some port) from out now d = put_on from out port now d
put_by_port None from out now d = put_on_all from out now d

-- on the port by which its next hop is reached, where that is remembered, else on all ports of the member
abbrev pub put_on_its : ℕ → Outgoing → Moment → Desk → Desk
put_on_its from out now d = put_by_port (known_port from out.heading.towards d) from out now d

-- ---- to fellows

abbrev pub but : ℕ → Option ℕ → Option ℕ
but from None = None
but from (Some at) = if at == from then None else Some at

-- the place of the fellow of a call
abbrev pub fellow_of : ℕ → Callsign → Desk → Option ℕ
fellow_of from call d = but from (place_of call d.seats)

abbrev pub told_by : Option Seat → Outgoing → Desk → Option (List ℕ)
told_by None out d = None
told_by (Some seat) out d = if same_call out.heading.source seat.call then told_to_fellows d.seats out.octets else None

-- what fellows are told of a frame, where it is an own broadcast
abbrev pub told_at : ℕ → Outgoing → Desk → Option (List ℕ)
told_at from out d = told_by (slice_get d.seats from) out d

abbrev pub parcel_told : Option (List ℕ) → Parcel
parcel_told None = Nothing
parcel_told (Some octets) = ForFellows octets

abbrev pub aired : Option (List ℕ) → ℕ → Outgoing → Moment → Desk → Desk
aired None from out now d = put_on_its from out now d
aired (Some octets) from out now d = put_on_all from out now d

-- ---- the first that fits: to the fellow towards whom it goes; an own broadcast to all fellows and on all ports; else on ports

abbrev pub parcel_by : Option ℕ → ℕ → Outgoing → Desk → Parcel
parcel_by (Some to) from out d = For to out.octets
parcel_by None from out d = parcel_told (told_at from out d)

abbrev pub parcel_out : ℕ → Outgoing → Desk → Parcel
parcel_out from out d = parcel_by (fellow_of from out.heading.towards d) from out d

abbrev pub routed_by : Option ℕ → ℕ → Outgoing → Moment → Desk → Desk
routed_by (Some to) from out now d = d
routed_by None from out now d = aired (told_at from out d) from out now d

abbrev pub routed_out : ℕ → Outgoing → Moment → Desk → Desk
routed_out from out now d = routed_by (fellow_of from out.heading.towards d) from out now d

-- a frame as it goes from the member at a place
abbrev pub outgoing_by : Option Seat → Written → Option Outgoing
outgoing_by None w = None
outgoing_by (Some seat) w = outgoing seat w

abbrev pub outgoing_at : ℕ → Written → Desk → Option Outgoing
outgoing_at from w d = outgoing_by (slice_get d.seats from) w

abbrev pub parcel_if : Option Outgoing → ℕ → Desk → Parcel
parcel_if None from d = Nothing
parcel_if (Some out) from d = parcel_out from out d

-- what of a frame of the member at a place passes in the backplane
abbrev pub parcel_of : ℕ → Written → Desk → Parcel
parcel_of from w d = parcel_if (outgoing_at from w d) from d

abbrev pub routed_if : Option Outgoing → ℕ → Moment → Desk → Desk
routed_if None from now d = d
routed_if (Some out) from now d = routed_out from out now d

-- and the desk, once it has gone
abbrev pub routed : ℕ → Written → Moment → Desk → Desk
routed from w now d = routed_if (outgoing_at from w d) from now d
