-- Users who come to a station. Own profile.
use Rattle.std.specs.Prelude.{ℕ, Bool, false, not, ◌&&◌, nat_le, nat_lt, List, [], ◌∷◌, ◌++◌, drop, length, codes, Option, Some, None, Result, Ok, Err, if◌then◌else◌}
use Rattle.radio_base.specs.declared.moment.Moment.{Moment}
use Rattle.ax_address.specs.Callsign.{Callsign}
use Rattle.circuit_l4.specs.Transports.{transport_at}
use Rattle.circuit_l4.specs.declared.transport.Transport.{Transport}
use Rattle.circuit_l4.specs.declared.transport.Transport.TheVariants.{Request}
use Rattle.circuit_l4.specs.declared.transport.TransportRefusal.{TransportRefusal}
use Rattle.node_core.specs.Acts.{Close}
use Rattle.station_lists.specs.Telling.{about, told_text}
use Rattle.station_lists.specs.declared.told.Told.TheVariants as told
use Rattle.station_members.specs.declared.config.MemberRules.{MemberRules}
use Rattle.station_members.specs.Looks.{rules_at}
use Rattle.station_places.specs.Sides as places
use Rattle.station_sessions.specs.declared.place.Place.TheVariants.{End}
use Rattle.station_sessions.specs.Sessions.{Session, new_session}
use Rattle.station_users.specs.Connecting.{is_post_at}
use Rattle.station_users.specs.States.{UsersState, at_sides}
use Rattle.station_users.specs.Steps.{At, session_at}
use Rattle.station_users.specs.Telling.{answer, tell}
use Rattle.station_users.specs.Things.{let_go}

-- ---- every user

-- he is told why there is no session for him, and is let go: what of that has no room on his link is lost, as nobody keeps it
unfoldable pub turn_away : List ℕ → Session → Moment → UsersState → UsersState
turn_away why x now u = record u { sides = (let_go now (answer why now (session_at u.sides x))).sides }

unfoldable pub welcome : Session → UsersState → UsersState
welcome x u =
    record u { sessions = u.sessions ++ (tell (about (codes "Welcome to ") u.about.name.items) (session_at u.sides x)).session ∷ [] }

-- there is a session for him, unless 64 stand
unfoldable pub admit : Session → Moment → UsersState → UsersState
admit x now u = if nat_le 64 (length u.sessions) then turn_away (told_text told.NoRoom) x now u else welcome x u

-- and unless the station goes down
unfoldable pub greet : Session → Moment → UsersState → UsersState
greet x now u = if u.stopping then turn_away (told_text told.GoingDown) x now u else admit x now u

-- ---- at ends that requests open

abbrev pub user_in : Transport → Option Callsign
user_in (Request pair window user node) = Some user
user_in other = None

abbrev pub user_by : Result Transport TransportRefusal → Option Callsign
user_by (Ok transport) = user_in transport
user_by (Err why) = None

-- the user whom a request names
abbrev pub user_of : List ℕ → Option Callsign
user_of request = if nat_lt (length request) 15 then None else user_by (transport_at (drop 15 request))

abbrev pub users_by : Option MemberRules → Bool
users_by None = false
users_by (Some rules) = rules.users

abbrev pub has_users : ℕ → UsersState → Bool
has_users member u = users_by (rules_at member u.sides.members)

-- users are served at the member at a place, which isn't the one that keeps mail
abbrev pub serves : ℕ → UsersState → Bool
serves member u = not (is_post_at member u.about.post) && has_users member u

abbrev pub close_end : ℕ → ℕ → Moment → UsersState → UsersState
close_end member id now u = at_sides (places.act now member (Close id)) u

abbrev pub greet_user : Callsign → ℕ → ℕ → Callsign → Moment → UsersState → UsersState
greet_user user member id partner now u =
    if serves member u then greet (new_session user member (Some partner) (End member id) now.0) now u else close_end member id now u

abbrev pub greet_named : Option Callsign → ℕ → ℕ → Callsign → Moment → UsersState → UsersState
greet_named None member id partner now u = close_end member id now u
greet_named (Some user) member id partner now u = greet_user user member id partner now u

-- a user comes there, or it is closed where none is served
unfoldable pub greet_end : ℕ → ℕ → Callsign → List ℕ → Moment → UsersState → UsersState
greet_end member id partner request now u = greet_named (user_of request) member id partner now u
