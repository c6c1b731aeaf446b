-- The things that a session of a station does, but for lines at the prompt. Own profile.
use Rattle.std.specs.Prelude.{ℕ, Bool, List, drop, Option, Some, None, if◌then◌else◌}
use Rattle.radio_base.specs.declared.moment.Moment.{Moment}
use Rattle.station_lists.specs.Telling.{told_text}
use Rattle.station_lists.specs.declared.told.Told.TheVariants as told
use Rattle.station_places.specs.Giving as giving
use Rattle.station_places.specs.Taking as taking
use Rattle.station_places.specs.Sides.{SidesState}
use Rattle.station_sessions.specs.declared.far.Far.{Far}
use Rattle.station_sessions.specs.declared.place.Place.{Place}
use Rattle.station_sessions.specs.declared.place.Place.TheVariants.{End, Link, Console}
use Rattle.station_sessions.specs.declared.presence.Presence.{Presence}
use Rattle.station_sessions.specs.declared.presence.Presence.TheVariants.{Leaving, LetGo, Gone}
use Rattle.station_sessions.specs.declared.thing.Thing.{Thing}
use Rattle.station_sessions.specs.declared.thing.Thing.TheVariants as thing
use Rattle.station_sessions.specs.Noting as noting
use Rattle.station_sessions.specs.Sessions as sessions
use Rattle.station_sessions.specs.Sessions.{far_of, first, has_some}
use Rattle.station_users.specs.Steps.{At, at_session, at_sides, far_place}
use Rattle.station_users.specs.Telling.{answer, say}
use Rattle.station_users.specs.Texts.{cut_line, drop_text, need_text}

-- ---- pieces that waited for room

-- so many of them go as have room: to the user, and to the far side
unfoldable pub go_on : Moment → At → At
go_on now a = record {
  sides = giving.give a.session.place a.session.unsent now a.sides;
  session = sessions.went (giving.given a.session.place a.session.unsent now a.sides) a.session;
}

abbrev pub far_goes_on : Option Far → Moment → At → At
far_goes_on None now a = a
far_goes_on (Some far) now a = record {
  sides = giving.give far.place far.unsent now a.sides;
  session = noting.far_went (giving.given far.place far.unsent now a.sides) a.session;
}

unfoldable pub go_on_far : Moment → At → At
go_on_far now a = far_goes_on (far_of a.session.stage) now a

-- ---- what the user is given

abbrev pub say_if : Option (List ℕ) → Moment → At → At
say_if None now a = a
say_if (Some text) now a = say text now a

-- the first reply that waits
unfoldable pub give_reply : Moment → At → At
give_reply now a = say_if (first a.session.replies) now (at_session sessions.drop_reply a)

abbrev pub give_text_from : Place → Moment → At → At
give_text_from place now a = say_if (taking.taken place now a.sides) now (at_sides (taking.take_from place now) a)

abbrev pub give_text_of : Option Place → Moment → At → At
give_text_of None now a = a
give_text_of (Some place) now a = give_text_from place now a

-- the first text that waits at the far side, which is taken
unfoldable pub give_text : Moment → At → At
give_text now a = give_text_of (far_place a.session) now a

-- ---- what the far side is given

abbrev pub pass_to : Option Place → List ℕ → Moment → At → At
pass_to None text now a = a
pass_to (Some place) text now a = record {
  sides = giving.give place text now a.sides;
  session = noting.far_waits_with (drop (giving.given place text now a.sides) text) a.session;
}

-- what is left of the user's text
unfoldable pub pass_rest : Moment → At → At
pass_rest now a = pass_to (far_place a.session) a.session.rest now (at_session sessions.drop_rest a)

-- the user's next text, whole
unfoldable pub pass_on : Moment → At → At
pass_on now a = pass_rest now (need_text now a)

-- ---- ends

-- a console has ended at once, once it is closed from here
abbrev pub presence_after : Place → Presence
presence_after (End member id) = LetGo
presence_after (Link member peer) = LetGo
presence_after (Console console) = Gone

-- the user's side is closed
unfoldable pub let_go : Moment → At → At
let_go now a =
    at_session (λ x. sessions.with_presence (presence_after x.place) (sessions.forget_typed x)) (at_sides (taking.close_at a.session.place now) a)

abbrev pub close_where : Option Place → Moment → SidesState → SidesState
close_where None now s = s
close_where (Some place) now s = taking.close_at place now s

-- the far side is closed
unfoldable pub close_far : Moment → At → At
close_far now a = at_session noting.closed (at_sides (close_where (far_place a.session) now) a)

-- the user has ended the try
unfoldable pub stop_try : Moment → At → At
stop_try now a = answer (told_text told.Stopped) now (at_session (sessions.come_back now.0) (close_far now (at_session cut_line a)))

abbrev pub let_go_if : Bool → Moment → At → At
let_go_if waits now a = if waits then a else let_go now a

-- the user is let go, once what he is told has gone
abbrev pub leave : Moment → At → At
leave now a = let_go_if (has_some a.session.unsent) now a

-- the user is told the last
unfoldable pub say_bye : Moment → At → At
say_bye now a =
    leave now (at_session (λ x. sessions.drop_rest (sessions.with_presence Leaving x)) (answer (told_text told.Bye) now a))

-- ---- each thing but that of a line

abbrev pub do_thing : Thing → Moment → At → At
do_thing thing.GoOn now a = go_on now a
do_thing thing.GoOnFar now a = go_on_far now a
do_thing thing.GiveReply now a = give_reply now a
do_thing thing.LetGo now a = let_go now a
do_thing thing.GiveText now a = give_text now a
do_thing thing.DropText now a = drop_text now a
do_thing thing.DoLine now a = a
do_thing thing.PassOn now a = pass_on now a
do_thing thing.Stop now a = stop_try now a
do_thing thing.CloseFar now a = close_far now a
