-- The turns of the sessions of a station. Own profile.
use Rattle.std.specs.Prelude.{ℕ, Bool, true, false, not, is_some, List, map, filter, length, slice_get, Option, Some, None, if◌then◌else◌}
use Rattle.radio_base.specs.declared.moment.Moment.{Moment}
use Rattle.station_places.specs.Looks as seen
use Rattle.station_sessions.specs.declared.presence.Presence.TheVariants.{Gone}
use Rattle.station_sessions.specs.declared.thing.Thing.{Thing}
use Rattle.station_sessions.specs.declared.thing.Thing.TheVariants.{DoLine}
use Rattle.station_sessions.specs.Noting as noting
use Rattle.station_sessions.specs.Sessions as sessions
use Rattle.station_sessions.specs.Sessions.{Session, is_over}
use Rattle.station_sessions.specs.Things.{next_thing}
use Rattle.station_users.specs.Asking.{do_line}
use Rattle.station_users.specs.Sights.{far_sees, sight_of}
use Rattle.station_users.specs.States.{UsersState, any_from, at_nth, each_from, each_session}
use Rattle.station_users.specs.Steps.{At, at_session, far_place, session_at}
use Rattle.station_users.specs.Things.{do_thing}
use Rattle.station_users.specs.Trying.{prepare}

-- ---- a session's next thing

abbrev pub next_at : At → Option Thing
next_at a = next_thing a.session (sight_of a)

abbrev pub next_by : Option Session → UsersState → Option Thing
next_by None u = None
next_by (Some x) u = next_at (session_at u.sides x)

-- what the session in a place does next, by what it sees
abbrev pub next_of : ℕ → UsersState → Option Thing
next_of nth u = next_by (slice_get u.sessions nth) u

abbrev pub prepared : ℕ → Moment → UsersState → UsersState
prepared nth now u = at_nth nth (prepare now) u

abbrev pub is_line : Thing → Bool
is_line DoLine = true
is_line thing = false

abbrev pub do_thing_of : ℕ → Thing → Moment → UsersState → UsersState
do_thing_of nth thing now u = if is_line thing then do_line nth now u else at_nth nth (do_thing thing now) u

abbrev pub do_next : Option Thing → ℕ → Moment → UsersState → UsersState
do_next None nth now u = u
do_next (Some thing) nth now u = do_thing_of nth thing now u

unfoldable pub serve_nth : Moment → ℕ → UsersState → UsersState
serve_nth now nth u = do_next (next_of nth (prepared nth now u)) nth now (prepared nth now u)

unfoldable pub serves_nth : Moment → ℕ → UsersState → Bool
serves_nth now nth u = is_some (next_of nth (prepared nth now u))

-- ---- all sessions

-- the end of a user that is held no longer is one that he has left
abbrev pub gone_where : At → At
gone_where a = if seen.is_gone a.session.place a.sides then at_session (sessions.with_presence Gone) a else a

-- sessions leave that are over
abbrev pub without_over : UsersState → UsersState
without_over u = record u { sessions = filter (λ x. not (is_over x)) u.sessions }

unfoldable pub drop_over : UsersState → UsersState
drop_over u = without_over (each_session gone_where u)

abbrev pub serve_each : Moment → UsersState → UsersState
serve_each now u = each_from (serve_nth now) 0 (length u.sessions) u

-- each does at most one thing, in the order of their making; then those leave that are over
unfoldable pub serve : Moment → UsersState → UsersState
serve now u = drop_over (serve_each now u)

-- whether one did something
unfoldable pub serves : Moment → UsersState → Bool
serves now u = any_from (serves_nth now) (serve_nth now) 0 (length u.sessions) u

-- ---- between inputs

abbrev pub notes_waits : At → At
notes_waits a = at_session (noting.waits (far_sees seen.has_text (far_place a.session) a.sides)) a

-- each notes whether something waits at its far side
unfoldable pub settled : UsersState → UsersState
settled u = each_session notes_waits u
