-- Users of a station who are let go: all of them, and those from whom nothing came for too long. Own profile.
use Rattle.std.specs.Prelude.{ℕ, Bool, true, false, not, ◌&&◌, ◌-◌, ◌==◌, nat_le, length, Option, Some, None, if◌then◌else◌}
use Rattle.radio_base.specs.declared.moment.Moment.{Moment}
use Rattle.station_lists.specs.Telling.{told_text}
use Rattle.station_lists.specs.declared.told.Told.TheVariants as told
use Rattle.station_sessions.specs.declared.far.Stage.{Stage}
use Rattle.station_sessions.specs.declared.far.Stage.TheVariants.{AtPrompt, Trying, With}
use Rattle.station_sessions.specs.declared.presence.Presence.TheVariants.{Leaving}
use Rattle.station_sessions.specs.Sessions as sessions
use Rattle.station_sessions.specs.Sessions.{Session}
use Rattle.station_users.specs.Consoles.{is_here}
use Rattle.station_users.specs.States.{UsersState, at_nth, each_from, each_session}
use Rattle.station_users.specs.Steps.{At, at_session}
use Rattle.station_users.specs.Telling.{tell}
use Rattle.station_users.specs.Things.{close_far}

-- ---- time

abbrev pub is_at_prompt : Stage → Bool
is_at_prompt AtPrompt = true
is_at_prompt (Trying far) = false
is_at_prompt (With far) = false

-- nothing has come from a user at the prompt for so many milliseconds, where there is such a limit
abbrev pub is_idle : ℕ → Moment → Session → Bool
is_idle limit now x = not (limit == 0) && (is_here x.presence && (is_at_prompt x.stage && nat_le limit (now.0 - x.since)))

abbrev pub idle_told : At → At
idle_told a = at_session (sessions.with_presence Leaving) (tell (told_text told.Idle) a)

unfoldable pub idle_where : ℕ → Moment → At → At
idle_where limit now a = if is_idle limit now a.session then idle_told a else a

abbrev pub first_moment : Option ℕ → Moment → Option ℕ
first_moment None now = Some now.0
first_moment (Some started) now = Some started

abbrev pub started : Moment → UsersState → UsersState
started now u = record u { started = first_moment u.started now }

abbrev pub end_idle_nth : Moment → ℕ → UsersState → UsersState
end_idle_nth now nth u = at_nth nth (idle_where u.about.idle now) u

abbrev pub end_idle : Moment → UsersState → UsersState
end_idle now u = each_from (end_idle_nth now) 0 (length u.sessions) u

-- time has passed
unfoldable pub tick : Moment → UsersState → UsersState
tick now u = end_idle now (started now u)

-- ---- the end

abbrev pub told_down : At → At
told_down a =
    if is_here a.session.presence
    then at_session (sessions.with_presence Leaving) (tell (told_text told.GoingDown) a) else a

-- its far side is closed, and its user is let go
unfoldable pub stop_session : Moment → At → At
stop_session now a = told_down (at_session (sessions.with_stage AtPrompt) (close_far now a))

-- the station goes down
unfoldable pub stop : Moment → UsersState → UsersState
stop now u = each_session (stop_session now) (record u { stopping = true })
