-- What a session does before its next thing, while a far side is tried. Own profile.
use Rattle.std.specs.Prelude.{ℕ, Bool, true, false, is_none, Option, Some, None, slice_get, if◌then◌else◌}
use Rattle.radio_base.specs.declared.moment.Moment.{Moment}
use Rattle.ax_address.specs.Callsign.{Callsign}
use Rattle.node_model.specs.States as nodes
use Rattle.node_model.specs.States.{NodeState}
use Rattle.station_lists.specs.Telling.{told_text}
use Rattle.station_lists.specs.declared.told.Told.TheVariants as told
use Rattle.station_places.specs.Looks as seen
use Rattle.station_places.specs.Taking as taking
use Rattle.station_places.specs.Sides.{SidesState}
use Rattle.station_sessions.specs.declared.far.Stage.{Stage}
use Rattle.station_sessions.specs.declared.far.Stage.TheVariants.{AtPrompt, Trying, With}
use Rattle.station_sessions.specs.declared.place.Place.{Place}
use Rattle.station_sessions.specs.declared.place.Place.TheVariants.{End, Link, Console}
use Rattle.station_sessions.specs.Sessions as sessions
use Rattle.station_users.specs.declared.trying.Tried.{Tried}
use Rattle.station_users.specs.Steps.{At, at_session, at_sides}
use Rattle.station_users.specs.Telling.{tell}
use Rattle.station_users.specs.Texts.{need_text}

abbrev pub has_no_route : Callsign → Option NodeState → Bool
has_no_route dest None = true
has_no_route dest (Some n) = is_none (nodes.next_hop n.station dest)

-- a circuit is tried, and the member that has asked for it has no route any more
abbrev pub is_lost_at : Place → Callsign → SidesState → Bool
is_lost_at (End member id) dest s = has_no_route dest (slice_get s.members.nodes member)
is_lost_at (Link member peer) dest s = false
is_lost_at (Console console) dest s = false

abbrev pub is_lost : Tried → SidesState → Bool
is_lost far s = is_lost_at far.place far.name.call s

-- such a try has failed
unfoldable pub fail_try : Tried → Moment → At → At
fail_try far now a =
    tell (told_text (told.Failure far.name)) (at_session (sessions.come_back now.0) (at_sides (taking.close_at far.place now) a))

-- while it is tried the user's next text is taken, so that its first line can be looked at
abbrev pub look_at_text : Moment → At → At
look_at_text now a =
    if sessions.has_next_text a.session (seen.has_text a.session.place a.sides) then need_text now a else a

abbrev pub prepare_try : Tried → Moment → At → At
prepare_try far now a = if is_lost far a.sides then fail_try far now a else look_at_text now a

-- where a far side is that is tried, and how the user is told of it
abbrev pub what_is_tried : Stage → Option Tried
what_is_tried AtPrompt = None
what_is_tried (Trying far) = Some (record { place = far.place; name = far.name })
what_is_tried (With far) = None

abbrev pub prepare_where : Option Tried → Moment → At → At
prepare_where None now a = a
prepare_where (Some far) now a = prepare_try far now a

unfoldable pub prepare : Moment → At → At
prepare now a = prepare_where (what_is_tried a.session.stage) now a
