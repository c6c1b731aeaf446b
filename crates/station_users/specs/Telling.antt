-- What users of a station are told. Own profile.
use Rattle.std.specs.Prelude.{ℕ, Bool, List, ◌++◌, drop, if◌then◌else◌}
use Rattle.radio_base.specs.declared.moment.Moment.{Moment}
use Rattle.station_looks.specs.Replies.{begun}
use Rattle.station_places.specs.Giving as giving
use Rattle.station_places.specs.Looks as seen
use Rattle.station_sessions.specs.Sessions as sessions
use Rattle.station_users.specs.Steps.{At, at_session}

-- nothing is said to the user any more
abbrev pub is_deaf : At → Bool
is_deaf a = sessions.is_deaf a.session.presence (seen.has_ended a.session.place a.sides)

-- the user's side is given a text: what of it has no room there waits
abbrev pub give_user : List ℕ → Moment → At → At
give_user text now a = record {
  sides = giving.give a.session.place text now a.sides;
  session = sessions.wait_with (drop (giving.given a.session.place text now a.sides) text) a.session;
}

unfoldable pub say : List ℕ → Moment → At → At
say text now a = if is_deaf a then a else give_user text now a

-- ---- replies

-- a line, as a reply at the prompt where the user is
abbrev pub reply : List ℕ → At → List ℕ
reply line a = begun a.session.member a.sides.members ++ line

-- he is told it in answer to his line
unfoldable pub answer : List ℕ → Moment → At → At
answer line now a = say (reply line a) now a

-- he is told it as soon as there is room
unfoldable pub tell : List ℕ → At → At
tell line a = at_session (sessions.tell (reply line a)) a
