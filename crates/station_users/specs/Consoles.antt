-- The consoles of a station: users who are there themselves. Own profile.
use Rattle.std.specs.Prelude.{ℕ, Bool, true, false, ◌&&◌, ◌||◌, ◌-◌, is_some, nat_le, List, drop, length, None, if◌then◌else◌}
use Rattle.radio_base.specs.declared.moment.Moment.{Moment}
use Rattle.ax_address.specs.Callsign.{Callsign}
use Rattle.station_members.specs.Looks.{place_of}
use Rattle.station_places.specs.Sides.{SidesState}
use Rattle.station_sessions.specs.declared.place.Place.TheVariants.{Console}
use Rattle.station_sessions.specs.declared.presence.Presence.{Presence}
use Rattle.station_sessions.specs.declared.presence.Presence.TheVariants.{Here, Leaving, LetGo, Gone}
use Rattle.station_sessions.specs.Sessions as sessions
use Rattle.station_sessions.specs.Sessions.{Session, has_some, is_at, new_session, typed_size, with_presence}
use Rattle.station_users.specs.Greeting.{greet}
use Rattle.station_users.specs.States.{UsersState, at_sides, at_user, user_at}
use Rattle.station_users.specs.Steps.{At, at_session}

abbrev pub is_here : Presence → Bool
is_here Here = true
is_here Leaving = false
is_here LetGo = false
is_here Gone = false

abbrev pub hung_up : Session → Session
hung_up x = with_presence Gone x

-- it is hung up, where it is open
abbrev pub hang_up : ℕ → UsersState → UsersState
hang_up console u = at_user (Console console) (at_session hung_up) u

-- there are 8 consoles, and no member has the user's call
abbrev pub is_refused : ℕ → Callsign → UsersState → Bool
is_refused console call u = nat_le 8 console || is_some (place_of call u.sides.members)

-- it is opened under a call: one that is open is hung up first
abbrev pub open_console : ℕ → Callsign → Moment → UsersState → UsersState
open_console console call now u =
    if is_refused console call u then u
    else greet (new_session call 0 None (Console console) now.0) now (hang_up console u)

-- so many octets more may wait
abbrev pub has_room_for : ℕ → Session → Bool
has_room_for size x = nat_le (typed_size x.typed) (65536 - size)

-- of a text of more than 8,192 octets, or where more than 65,536 would wait, nothing is taken
abbrev pub takes : List ℕ → Session → Bool
takes text x = is_here x.presence && (has_some text && (nat_le (length text) 8192 && has_room_for (length text) x))

abbrev pub typed : List ℕ → Session → Session
typed text x = if takes text x then sessions.type_text text x else x

abbrev pub type_at : List ℕ → At → At
type_at text a = at_session (typed text) a

-- a text is typed at it, where it is open
abbrev pub type_text : ℕ → List ℕ → UsersState → UsersState
type_text console text u = at_user (Console console) (type_at text) u

abbrev pub is_open : ℕ → UsersState → Bool
is_open console u = is_some (user_at (Console console) u)

-- what has waited longest for consoles was fetched
abbrev pub fetch_out : UsersState → UsersState
fetch_out u = at_sides (λ (s : SidesState). record s { outs = drop 1 s.outs }) u
