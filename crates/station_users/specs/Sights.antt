-- What a session of a station sees of its sides. Own profile.
use Rattle.std.specs.Prelude.{ℕ, Bool, false, List, map, Option, Some, None}
use Rattle.text_lines.specs.Lines.{words_of}
use Rattle.station_places.specs.Looks as seen
use Rattle.station_places.specs.Sides.{SidesState}
use Rattle.station_prompt.specs.Commands.{capital, ends_try}
use Rattle.text_lines.specs.UserLines.{first_line}
use Rattle.station_sessions.specs.declared.far.Stage.{Stage}
use Rattle.station_sessions.specs.declared.far.Stage.TheVariants.{AtPrompt, Trying, With}
use Rattle.station_sessions.specs.declared.place.Place.{Place}
use Rattle.station_sessions.specs.declared.sight.Sight.{Sight}
use Rattle.station_sessions.specs.Sessions.{Session}
use Rattle.station_users.specs.Steps.{At, far_place}

-- the words of a line in capital letters
abbrev pub words : List ℕ → List (List ℕ)
words line = words_of (map capital line)

abbrev pub is_stop : List ℕ → Bool
is_stop line = ends_try (words line)

abbrev pub stops_at : Stage → List ℕ → Bool
stops_at AtPrompt line = false
stops_at (Trying far) line = is_stop line
stops_at (With far) line = false

-- something is tried, and the line that is next ends the try
abbrev pub stops : Session → Bool
stops x = stops_at x.stage (first_line x.rest)

-- a far side that isn't there has nothing to see
abbrev pub far_sees : (Place → SidesState → Bool) → Option Place → SidesState → Bool
far_sees look None s = false
far_sees look (Some place) s = look place s

unfoldable pub sight_of : At → Sight
sight_of a = record {
  user_ended = seen.has_ended a.session.place a.sides;
  user_room = seen.has_room a.session.place a.sides;
  user_goes_on = seen.goes_on a.session.place a.sides;
  user_text = seen.has_text a.session.place a.sides;
  stops = stops a.session;
  far_room = far_sees seen.has_room (far_place a.session) a.sides;
  far_goes_on = far_sees seen.goes_on (far_place a.session) a.sides;
  far_text = far_sees seen.has_text (far_place a.session) a.sides;
}
