-- What the code of a station's users keeps, and for which states it stands.
use Rattle.std.specs.Prelude.{◌≡◌, ℕ, Bool, false, Option}
use Rattle.std.specs.Option.{option_map}
use Rattle.radio_base.specs.declared.moment.Moment.{Moment}
use Rattle.station_places.specs.Sides.{SidesState, SidesStand}
use Rattle.station_places.specs.declared.sides.Sides.{Sides}
use Rattle.station_sessions.specs.Sessions.{Session}
use Rattle.station_users.specs.declared.hall.Hall.{Hall}
use Rattle.station_users.specs.States.{UsersState}
use Rattle.station_users.specs.Steps.{At, session_at}

-- ---- a session, and the sides at which it acts

pub record AtStands (k : Sides) (x : Session) (a : At) : Type 0 where
  pub sides : SidesStand k a.sides
  pub session : x ≡ a.session

-- whatever the sides stood for, they and the session have made the step now
abbrev pub AtGoes : (At → At) → Sides → Session → Sides → Session → Type 0
AtGoes step old before new after = (s : SidesState) → SidesStand old s → AtStands new after (step (session_at s before))

-- ---- all of them

abbrev pub moment_in : Option Moment → Option ℕ
moment_in moment = option_map (λ (m : Moment). m.0) moment

pub record HallStands (h : Hall) (u : UsersState) : Type 0 where
  pub about : h.about ≡ u.about
  pub sides : SidesStand h.sides u.sides
  pub sessions : h.sessions.items ≡ u.sessions
  pub stopping : h.is_stopping ≡ u.stopping
  pub started : moment_in h.started ≡ u.started

abbrev pub HallGoes : (UsersState → UsersState) → Hall → Hall → Type 0
HallGoes step old new = (u : UsersState) → HallStands old u → HallStands new (step u)

-- ---- what contracts see of the users of a station

pub record Kept : Type 0 where
  pub hall : Hall
  pub spent : Bool  -- memory ran out in an earlier call

abbrev pub view_of : Hall → Bool → Kept
view_of hall spent = record { hall = hall; spent = spent }

-- Users for whom memory hasn't run out stand for a state between two calls.
pub record UsersStand (k : Kept) (u : UsersState) : Type 0 where
  pub unspent : k.spent ≡ false
  pub hall : HallStands k.hall u

abbrev pub UsersGo : (UsersState → UsersState) → Kept → Kept → Type 0
UsersGo step old new = (u : UsersState) → UsersStand old u → UsersStand new (step u)
