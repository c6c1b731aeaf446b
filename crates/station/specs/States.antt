-- A station: its members with their users, what waits to be fetched, and each call, one step. Own profile.
use Rattle.std.specs.Prelude.{ℕ, zero, suc, ◌-◌, Bool, true, false, not, ◌||◌, is_some, List, [], ◌∷◌, ◌++◌, map, drop, length, slice_get, Option, Some, None, if◌then◌else◌}
use Rattle.std.specs.Option.{option_map}
use Rattle.radio_base.specs.declared.moment.Moment.{Moment}
use Rattle.ax_address.specs.Callsign.{Callsign}
use Rattle.node_model.specs.States.{Entry}
use Rattle.station_entries.specs.Entries.{told_of}
use Rattle.station_entries.specs.declared.entry.StationEntry.{StationEntry}
use Rattle.station_members.specs.Looks.{call_at}
use Rattle.station_members.specs.States as members
use Rattle.station_ports.specs.declared.port_frame.PortFrame.{PortFrame}
use Rattle.station_users.specs.Consoles as consoles
use Rattle.station_users.specs.Ending as ending
use Rattle.station_users.specs.Hearing as hearing
use Rattle.station_users.specs.Serving as serving
use Rattle.station_users.specs.States as users
use Rattle.station_users.specs.States.{UsersState}
use Rattle.station_users.specs.Unclaimed as unclaimed
use Rattle.station.specs.declared.outs.Waiting.{Waiting}
use Rattle.station.specs.declared.outs.Waiting.TheVariants as waiting
use Rattle.station.specs.declared.station_out.StationOut.{StationOut}
use Rattle.station.specs.declared.station_out.StationOut.TheVariants as out
use Rattle.station.specs.Outs as lists

pub record StationState : Type 0 where
  pub users : UsersState  -- with the members at which they are
  pub outs : List Waiting  -- what waits to be fetched, the oldest first
  pub entries : List StationEntry  -- what is told of what has happened

abbrev pub new_state : UsersState → StationState
new_state u = record { users = u; outs = []; entries = [] }

abbrev pub at_users : (UsersState → UsersState) → StationState → StationState
at_users step s = record s { users = step s.users }

abbrev pub members_of : StationState → members.State
members_of s = s.users.sides.members

-- ---- frames that go on ports

abbrev pub put_frame : PortFrame → StationState → StationState
put_frame frame s = record s { outs = s.outs ++ waiting.Frame frame ∷ [] }

abbrev pub first_frame : StationState → Option PortFrame
first_frame s = slice_get (members_of s).desk.air.frames 0

abbrev pub frame_fetched : StationState → StationState
frame_fetched s = at_users (users.at_members members.fetch_frame) s

-- they are put out, the oldest first, so many at most: what is left waits for the next time
abbrev pub fetch_frames_by : Option PortFrame → (StationState → StationState) → StationState → StationState
fetch_frames_by None later s = frame_fetched s
fetch_frames_by (Some frame) later s = later (put_frame frame (frame_fetched s))

abbrev pub fetch_frames : ℕ → StationState → StationState
fetch_frames zero s = s
fetch_frames (suc left) s = fetch_frames_by (first_frame s) (fetch_frames left) s

-- at most 1,000,000 of them are
unfoldable pub put_frames : StationState → StationState
put_frames s = fetch_frames 1000000 s

-- ---- the turn: frames

-- each frame that waits at a member is sent, and those that go on ports are put out
unfoldable pub send : Moment → StationState → StationState
send now s = put_frames (at_users (users.at_members (members.send_all now)) s)

unfoldable pub sends : Moment → StationState → Bool
sends now s = members.sends_any now (members_of s)

-- ---- the turn: what members have told

abbrev pub first_told : StationState → Option (ℕ × Entry)
first_told s = members.first_told (members_of s)

abbrev pub told_fetched : StationState → StationState
told_fetched s = at_users (users.at_members members.fetch_told) s

-- what they have told, member by member, the oldest first, so much at most
abbrev pub told_by : Option (ℕ × Entry) → (StationState → List (ℕ × Entry)) → StationState → List (ℕ × Entry)
told_by None later s = []
told_by (Some entry) later s = entry ∷ later (told_fetched s)

abbrev pub told : ℕ → StationState → List (ℕ × Entry)
told zero s = []
told (suc left) s = told_by (first_told s) (told left) s

-- and it is fetched
abbrev pub fetch_told_by : Option (ℕ × Entry) → (StationState → StationState) → StationState → StationState
fetch_told_by None later s = told_fetched s
fetch_told_by (Some entry) later s = later (told_fetched s)

abbrev pub fetch_told : ℕ → StationState → StationState
fetch_told zero s = s
fetch_told (suc left) s = fetch_told_by (first_told s) (fetch_told left) s

-- at most 1,000,000 things: others are read in the next turn
unfoldable pub all_told : StationState → List (ℕ × Entry)
all_told s = told 1000000 s

unfoldable pub without_told : StationState → StationState
without_told s = fetch_told 1000000 s

abbrev pub tell_entry : Option StationEntry → StationState → StationState
tell_entry None s = s
tell_entry (Some entry) s = record s { entries = s.entries ++ entry ∷ [] }

abbrev pub tell_of : Callsign → Entry → StationState → StationState
tell_of member entry s = tell_entry (told_of member entry) s

abbrev pub tell_by : Option Callsign → Entry → StationState → StationState
tell_by None entry s = s
tell_by (Some member) entry s = tell_of member entry s

-- it is told on, where it is of a kind that is
abbrev pub tell : ℕ → Entry → StationState → StationState
tell at entry s = tell_by (call_at at (members_of s)) entry s

-- and the users hear of it
abbrev pub read : ℕ → Entry → Moment → StationState → StationState
read at entry now s = at_users (hearing.hear at entry now) (tell at entry s)

abbrev pub read_each : Moment → List (ℕ × Entry) → StationState → StationState
read_each now [] s = s
read_each now (e ∷ es) s = read_each now es (read e.0 e.1 now s)

-- each thing is read that members have told by now
unfoldable pub read_entries : Moment → StationState → StationState
read_entries now s = read_each now (all_told s) (without_told s)

unfoldable pub reads : StationState → Bool
reads s = is_some (first_told s)

-- ---- the turn: users

unfoldable pub take_unclaimed : Moment → StationState → StationState
take_unclaimed now s = at_users (unclaimed.take_unclaimed now) s

unfoldable pub takes_unclaimed : Moment → StationState → Bool
takes_unclaimed now s = unclaimed.takes_unclaimed now s.users

-- what consoles were given since the last time waits to be fetched, behind what waits
abbrev pub note_consoles : StationState → StationState
note_consoles s =
    record s { outs = s.outs ++ lists.consoles (length s.users.sides.outs - lists.consoles_in s.outs) }

unfoldable pub serve : Moment → StationState → StationState
serve now s = note_consoles (at_users (serving.serve now) s)

unfoldable pub serves : Moment → StationState → Bool
serves now s = serving.serves now s.users

-- ---- settling

-- frames are sent, what was told is read, texts that nobody has are let fall, and each session does at most one thing
unfoldable pub turn : Moment → StationState → StationState
turn now s = serve now (take_unclaimed now (read_entries now (send now s)))

-- whether anything is done
unfoldable pub does : Moment → StationState → Bool
does now s =
    sends now s || reads (send now s) || takes_unclaimed now (read_entries now (send now s))
    || serves now (take_unclaimed now (read_entries now (send now s)))

-- turn after turn, so many at most, while something is done
abbrev pub turns_by : Bool → (StationState → StationState) → Moment → StationState → StationState
turns_by true later now s = later (turn now s)
turns_by false later now s = turn now s

abbrev pub turns : ℕ → Moment → StationState → StationState
turns zero now s = s
turns (suc left) now s = turns_by (does now s) (turns left now) now s

unfoldable pub all_turns : Moment → StationState → StationState
all_turns now s = turns 1000 now s

-- what follows an input; what is left after 1,000 turns waits for the next one
unfoldable pub settle : Moment → StationState → StationState
settle now s = at_users serving.settled (all_turns now s)

-- ---- inputs

-- a frame comes at a port
abbrev pub hear : ℕ → List ℕ → Moment → StationState → StationState
hear port octets now s = settle now (at_users (users.at_members (members.hear port octets now)) s)

-- time has passed: for the members, whose frames are put out, and then for users
abbrev pub tick : Moment → StationState → StationState
tick now s = settle now (at_users (ending.tick now) (put_frames (at_users (users.at_members (members.tick now)) s)))

-- each member does a round
abbrev pub round : Moment → StationState → StationState
round now s = settle now (at_users (users.at_members (members.round now)) s)

abbrev pub open_console : ℕ → Callsign → Moment → StationState → StationState
open_console console call now s = settle now (at_users (consoles.open_console console call now) s)

abbrev pub type_text : ℕ → List ℕ → Moment → StationState → StationState
type_text console text now s = settle now (at_users (consoles.type_text console text) s)

abbrev pub hang_up : ℕ → Moment → StationState → StationState
hang_up console now s = settle now (at_users (consoles.hang_up console) s)

-- the station goes down
abbrev pub stop : Moment → StationState → StationState
stop now s = settle now (at_users (ending.stop now) s)

-- ---- what is fetched

abbrev pub out_by : Option Waiting → UsersState → Option StationOut
out_by None u = None
out_by (Some (waiting.Frame frame)) u = Some (out.Frame frame)
out_by (Some waiting.Console) u = option_map out.Console (slice_get u.sides.outs 0)

-- what it puts out next: the oldest thing
abbrev pub next_out : StationState → Option StationOut
next_out s = out_by (slice_get s.outs 0) s.users

abbrev pub console_fetched : Option Waiting → UsersState → UsersState
console_fetched None u = u
console_fetched (Some (waiting.Frame frame)) u = u
console_fetched (Some waiting.Console) u = consoles.fetch_out u

abbrev pub fetch_out : StationState → StationState
fetch_out s = record s { users = console_fetched (slice_get s.outs 0) s.users; outs = drop 1 s.outs }

abbrev pub fetch_entry : StationState → StationState
fetch_entry s = record s { entries = drop 1 s.entries }
