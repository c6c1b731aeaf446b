-- What a member does with a frame that it hears on a port (AX.25 2.2, sections 3.12 and 6.3; the alias at layer 2 is this project's
-- profile).
use Rattle.std.specs.Prelude.{ℕ, ◌&&◌, not, Bool, true, false, List, Result, Ok, Err, if◌then◌else◌}
use Rattle.ax_address.specs.Callsign.{same_call}
use Rattle.ax_frame.specs.declared.control.Control.{Control}
use Rattle.ax_frame.specs.declared.control.Control.TheVariants.{Sabm, Sabme}
use Rattle.ax_frame.specs.declared.frame.FrameRefusal.{FrameRefusal}
use Rattle.ax_frame.specs.Frames.{Frame, read_at}
use Rattle.ax_frame.specs.FrameText.{is_command}
use Rattle.station_ports.specs.declared.heading.Heading.{Heading}
use Rattle.station_ports.specs.Known.{remembered}
use Rattle.station_ports.specs.Peers as peers
use Rattle.station_members.specs.declared.hearing.Intake.{Intake}
use Rattle.station_members.specs.declared.hearing.Intake.TheVariants.{No, AsItCame, To}
use Rattle.station_members.specs.declared.seat.Seat.{Seat}
use Rattle.station_members.specs.Seats.{is_byname, is_on}

abbrev pub is_set_up_control : Control → Bool
is_set_up_control (Sabm pf) = true
is_set_up_control (Sabme pf) = true
is_set_up_control _ = false

-- a command that sets a link up
abbrev pub sets_up : Frame → Bool
sets_up f = is_command f.head && is_set_up_control f.control

abbrev pub read_sets_up : Result Frame FrameRefusal → Bool
read_sets_up (Ok f) = sets_up f
read_sets_up (Err why) = false

abbrev pub is_set_up : List ℕ → Bool
is_set_up octets = read_sets_up (read_at 8 octets)

-- ---- what it remembers

abbrev pub with_port : ℕ → Heading → Seat → Seat
with_port port h seat = record seat { known = remembered h.hop port seat.known }

-- who sets a link up with its alias speaks to it by that
abbrev pub named : Heading → Bool → Seat → Seat
named h set_up seat = if set_up then record seat { peers = peers.with_peer h.source seat.peers } else seat

-- and who sets a link up with its call doesn't
abbrev pub unnamed : Heading → Bool → Seat → Seat
unnamed h set_up seat =
    if set_up && same_call h.dest seat.call then record seat { peers = peers.without h.source seat.peers } else seat

-- once all repeaters have repeated it
abbrev pub takes : Heading → Bool → Seat → Seat
takes h set_up seat =
    if not h.has_come then seat
    else (if is_byname h.dest seat then named h set_up seat else unnamed h set_up seat)

abbrev pub hears : ℕ → Heading → Bool → Seat → Seat
hears port h set_up seat = if is_on port seat then takes h set_up (with_port port h seat) else seat

-- ---- how it takes the frame in

-- it doesn't repeat where it isn't to
abbrev pub to_repeat : Heading → Seat → Intake
to_repeat h seat = if same_call h.towards seat.call && not seat.rules.digipeat then No else AsItCame

-- what comes to its alias comes to its call, from those that speak to it by that
abbrev pub by_alias : Heading → Bool → Seat → Intake
by_alias h set_up seat = if peers.is_peer h.source (named h set_up seat).peers then To seat.call else No

abbrev pub taken : Heading → Bool → Seat → Intake
taken h set_up seat =
    if not h.has_come then to_repeat h seat
    else (if is_byname h.dest seat then by_alias h set_up seat else AsItCame)

abbrev pub intake : ℕ → Heading → Bool → Seat → Intake
intake port h set_up seat = if is_on port seat then taken h set_up (with_port port h seat) else No
