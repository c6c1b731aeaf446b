-- A session of a station, and the sides at which it acts. Own profile.
use Rattle.std.specs.Prelude.{Option}
use Rattle.std.specs.Option.{option_map}
use Rattle.station_members.specs.States.{State}
use Rattle.station_places.specs.Sides as places
use Rattle.station_places.specs.Sides.{SidesState}
use Rattle.station_sessions.specs.Sessions.{Session, far_of}
use Rattle.station_sessions.specs.declared.far.Far.{Far}
use Rattle.station_sessions.specs.declared.place.Place.{Place}

pub record At : Type 0 where
  pub sides : SidesState
  pub session : Session

abbrev pub session_at : SidesState → Session → At
session_at sides session = record { sides = sides; session = session }

abbrev pub at_session : (Session → Session) → At → At
at_session step a = record a { session = step a.session }

abbrev pub at_sides : (SidesState → SidesState) → At → At
at_sides step a = record a { sides = step a.sides }

-- something is done at the members
abbrev pub at_members : (State → State) → At → At
at_members step a = at_sides (places.at_members step) a

-- where its far side is
abbrev pub far_place : Session → Option Place
far_place x = option_map (λ (far : Far). far.place) (far_of x.stage)
