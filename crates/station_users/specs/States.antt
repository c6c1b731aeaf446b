-- The users of a station: their sessions, and the sides at which they act. Own profile.
use Rattle.std.specs.Prelude.{ℕ, zero, suc, Bool, false, ◌||◌, List, [], set, length, position, slice_get, Option, Some, None}
use Rattle.std.specs.List.{list_any}
use Rattle.station_looks.specs.declared.about.About.{About}
use Rattle.station_members.specs.States.{State}
use Rattle.station_places.specs.Sides as places
use Rattle.station_places.specs.Sides.{SidesState}
use Rattle.station_sessions.specs.Sessions.{Session, is_at, is_far_at}
use Rattle.station_sessions.specs.declared.place.Place.{Place}
use Rattle.station_users.specs.Steps.{At, at_session, session_at}

pub record UsersState : Type 0 where
  pub about : About  -- what the operator says of the station
  pub sides : SidesState
  pub sessions : List Session  -- in the order of their making
  pub stopping : Bool  -- the station goes down
  pub started : Option ℕ  -- the moment of the first tick

abbrev pub new_state : About → State → UsersState
new_state who members =
    record { about = who; sides = record { members = members; outs = [] }; sessions = []; stopping = false; started = None }

abbrev pub at_sides : (SidesState → SidesState) → UsersState → UsersState
at_sides step u = record u { sides = step u.sides }

abbrev pub at_members : (State → State) → UsersState → UsersState
at_members step u = at_sides (places.at_members step) u

-- ---- one session

abbrev pub with_at : ℕ → At → UsersState → UsersState
with_at nth a u = record u { sides = a.sides; sessions = set u.sessions nth a.session }

abbrev pub at_given : Option Session → ℕ → (At → At) → UsersState → UsersState
at_given None nth step u = u
at_given (Some x) nth step u = with_at nth (step (session_at u.sides x)) u

-- the session in a place makes a step
abbrev pub at_nth : ℕ → (At → At) → UsersState → UsersState
at_nth nth step u = at_given (slice_get u.sessions nth) nth step u

abbrev pub at_found : Option ℕ → (At → At) → UsersState → UsersState
at_found None step u = u
at_found (Some nth) step u = at_nth nth step u

abbrev pub has_far_at : Place → Session → Bool
has_far_at place x = is_far_at place x.stage

-- the first session whose far side is at a place, if one is
abbrev pub far_at : Place → UsersState → Option ℕ
far_at place u = position (has_far_at place) u.sessions

abbrev pub at_far : Place → (At → At) → UsersState → UsersState
at_far place step u = at_found (far_at place u) step u

-- the first session whose user is at a place, if one is
abbrev pub user_at : Place → UsersState → Option ℕ
user_at place u = position (is_at place) u.sessions

abbrev pub at_user : Place → (At → At) → UsersState → UsersState
at_user place step u = at_found (user_at place u) step u

-- ---- all of them

-- a step for each, in order: so many are left, from a place on
abbrev pub each_from : (ℕ → UsersState → UsersState) → ℕ → ℕ → UsersState → UsersState
each_from step nth zero u = u
each_from step nth (suc left) u = each_from step (suc nth) left (step nth u)

-- whether one of these steps does something
abbrev pub any_from : (ℕ → UsersState → Bool) → (ℕ → UsersState → UsersState) → ℕ → ℕ → UsersState → Bool
any_from does step nth zero u = false
any_from does step nth (suc left) u = does nth u || any_from does step (suc nth) left (step nth u)

abbrev pub each_session : (At → At) → UsersState → UsersState
each_session step u = each_from (λ nth v. at_nth nth step v) 0 (length u.sessions) u

-- a place is taken: the user of a session is there, or its far side
abbrev pub has_place : Place → Session → Bool
has_place place x = is_at place x || has_far_at place x

abbrev pub is_taken : Place → UsersState → Bool
is_taken place u = list_any (has_place place) u.sessions
