-- What has happened at the members of a station, as the sessions hear it. Own profile.
use Rattle.std.specs.Prelude.{ℕ, Bool, true, false, Some, None, if◌then◌else◌}
use Rattle.radio_base.specs.declared.moment.Moment.{Moment}
use Rattle.ax_address.specs.Callsign.{Callsign}
use Rattle.ax_link.specs.declared.notice.LinkNotice.{LinkNotice}
use Rattle.ax_link.specs.declared.notice.LinkNotice.TheVariants.{Opened}
use Rattle.circuit_l4.specs.declared.notice.EndNotice.{EndNotice}
use Rattle.circuit_table.specs.Pumps.{SetTold, Of, Dropped, Lost}
use Rattle.circuit_table.specs.Sets as sets
use Rattle.circuit_table.specs.Sets.{CircuitTold}
use Rattle.node_model.specs.States.{Entry, Of_set, Of_link, Overflow}
use Rattle.station_sessions.specs.declared.place.Place.{Place}
use Rattle.station_sessions.specs.declared.place.Place.TheVariants.{End, Link}
use Rattle.station_sessions.specs.declared.presence.Presence.TheVariants.{Gone}
use Rattle.station_sessions.specs.Sessions.{is_at, with_presence}
use Rattle.station_users.specs.Greeting.{greet_end}
use Rattle.station_users.specs.Outcomes as outcomes
use Rattle.station_users.specs.States.{UsersState, at_far, each_session}
use Rattle.station_users.specs.Steps.{At, at_session}

-- ---- circuits

abbrev pub hear_end_notice : ℕ → ℕ → EndNotice → Moment → UsersState → UsersState
hear_end_notice member id notice now u = at_far (End member id) (outcomes.hear_notice notice now) u

-- all of it is told, and nothing waits there any more
abbrev pub hear_gone : ℕ → ℕ → Moment → UsersState → UsersState
hear_gone member id now u = at_far (End member id) (outcomes.far_ended now) u

abbrev pub hear_circuit : ℕ → CircuitTold → Moment → UsersState → UsersState
hear_circuit member (sets.Made id pair partner (Some request)) now u = greet_end member id partner request now u
hear_circuit member (sets.Notice id notice) now u = hear_end_notice member id notice now u
hear_circuit member (sets.Gone id facts) now u = hear_gone member id now u
hear_circuit member other now u = u

abbrev pub hear_set : ℕ → SetTold → Moment → UsersState → UsersState
hear_set member (Of told) now u = hear_circuit member told now u
hear_set member (Dropped routed) now u = u
hear_set member (Lost peer) now u = u

-- ---- links

abbrev pub leaves_at : Place → At → At
leaves_at place a = if is_at place a.session then at_session (with_presence Gone) a else a

-- the user at a link has left
unfoldable pub user_left : ℕ → Callsign → UsersState → UsersState
user_left member peer u = each_session (leaves_at (Link member peer)) u

abbrev pub is_opened : LinkNotice → Bool
is_opened Opened = true
is_opened notice = false

abbrev pub leave_unless_opened : ℕ → Callsign → LinkNotice → UsersState → UsersState
leave_unless_opened member peer notice u = if is_opened notice then u else user_left member peer u

abbrev pub hear_far_link : ℕ → Callsign → LinkNotice → Moment → UsersState → UsersState
hear_far_link member peer notice now u = at_far (Link member peer) (outcomes.hear_link notice member peer now) u

-- of all that becomes of it only that it opens leaves its user there
unfoldable pub hear_link : ℕ → Callsign → LinkNotice → Moment → UsersState → UsersState
hear_link member peer notice now u = hear_far_link member peer notice now (leave_unless_opened member peer notice u)

-- ---- what a member has told

abbrev pub hear : ℕ → Entry → Moment → UsersState → UsersState
hear member (Of_set told) now u = hear_set member told now u
hear member (Of_link peer notice) now u = hear_link member peer notice now u
hear member (Overflow live would_be) now u = u
