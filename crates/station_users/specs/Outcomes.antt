-- What becomes of the far side of a session of a station. Own profile.
use Rattle.std.specs.Prelude.{ℕ, Bool, true, false, List, Option, Some, None, if◌then◌else◌}
use Rattle.radio_base.specs.declared.moment.Moment.{Moment}
use Rattle.ax_link.specs.declared.notice.LinkNotice.{LinkNotice}
use Rattle.ax_link.specs.declared.notice.LinkNotice.TheVariants as links
use Rattle.circuit_l4.specs.declared.notice.EndNotice.{EndNotice}
use Rattle.circuit_l4.specs.declared.notice.EndNotice.TheVariants.{Opened, Refused, Closed, ClosedByPartner, FailedRetries, FailedOversize, FailedInactive}
use Rattle.ax_address.specs.Callsign.{Callsign}
use Rattle.node_core.specs.Acts.{CloseLink}
use Rattle.station_lists.specs.Telling.{told_text}
use Rattle.station_lists.specs.declared.shown_node.ShownNode.{ShownNode}
use Rattle.station_lists.specs.declared.told.Told.{Told}
use Rattle.station_lists.specs.declared.told.Told.TheVariants as told
use Rattle.station_places.specs.Looks as seen
use Rattle.station_places.specs.Sides as places
use Rattle.station_places.specs.Sides.{SidesState}
use Rattle.station_sessions.specs.declared.far.Far.{Far}
use Rattle.station_sessions.specs.declared.far.Stage.{Stage}
use Rattle.station_sessions.specs.declared.far.Stage.TheVariants.{AtPrompt, Trying, With}
use Rattle.station_sessions.specs.Noting as noting
use Rattle.station_sessions.specs.Sessions as sessions
use Rattle.station_sessions.specs.Sessions.{Session}
use Rattle.station_users.specs.declared.outcomes.Ending.{Ending}
use Rattle.station_users.specs.Steps.{At, at_session, at_sides}
use Rattle.station_users.specs.Telling.{tell}
use Rattle.station_users.specs.Texts.{forget_texts}

-- he is at the prompt again, and is told why
abbrev pub back : List ℕ → Moment → At → At
back line now a = tell line (at_session (sessions.come_back now.0) a)

-- ---- what is tried

-- how the user is told of it
abbrev pub tried_name : Stage → Option ShownNode
tried_name AtPrompt = None
tried_name (Trying far) = Some far.name
tried_name (With far) = None

abbrev pub stands : Stage → Stage
stands AtPrompt = AtPrompt
stands (Trying far) = With far
stands (With far) = With far

abbrev pub stood : Session → Session
stood x = sessions.with_stage (stands x.stage) x

abbrev pub tell_connected : Option ShownNode → At → At
tell_connected None a = a
tell_connected (Some name) a = tell (told_text (told.Connected name)) a

-- it stands
unfoldable pub connected : At → At
connected a = tell_connected (tried_name a.session.stage) (at_session stood a)

abbrev pub far_name : Stage → Option ShownNode
far_name AtPrompt = None
far_name (Trying far) = Some far.name
far_name (With far) = Some far.name

abbrev pub refused_by : Option ShownNode → Moment → At → At
refused_by None now a = a
refused_by (Some name) now a = back (told_text (told.Busy name)) now a

-- it was refused
unfoldable pub refused : Moment → At → At
refused now a = refused_by (far_name a.session.stage) now a

-- ---- what stands

-- how it has ended
abbrev pub how_ended : Far → Told
how_ended far = if far.failed then told.LinkFailed far.name else told.Disconnected far.name

-- where it failed, what the user has typed and wasn't taken is let fall, so that nothing that was meant for it is done as a command
abbrev pub far_end : Stage → Option Ending
far_end AtPrompt = None
far_end (Trying far) = Some (record { told = told.Failure far.name; forgets = false })
far_end (With far) = Some (record { told = how_ended far; forgets = far.failed })

abbrev pub forget_if : Bool → Moment → At → At
forget_if forgets now a = if forgets then forget_texts now a else a

abbrev pub ended_as : Option Ending → Moment → At → At
ended_as None now a = a
ended_as (Some end) now a = forget_if end.forgets now (back (told_text end.told) now a)

-- it has ended, and its last text was given
unfoldable pub far_ended : Moment → At → At
far_ended now a = ended_as (far_end a.session.stage) now a

-- ---- circuits

abbrev pub circuit_ended_by : Option ShownNode → Bool → Moment → At → At
circuit_ended_by None failed now a = at_session (noting.ended failed) a
circuit_ended_by (Some name) failed now a = back (told_text (told.Failure name)) now a

-- one that was tried has failed; of one that stood the user is told once its last text was given
unfoldable pub circuit_ended : Bool → Moment → At → At
circuit_ended failed now a = circuit_ended_by (tried_name a.session.stage) failed now a

-- something has become of its circuit
abbrev pub hear_notice : EndNotice → Moment → At → At
hear_notice (Opened window) now a = connected a
hear_notice Refused now a = refused now a
hear_notice Closed now a = circuit_ended false now a
hear_notice ClosedByPartner now a = circuit_ended false now a
hear_notice FailedRetries now a = circuit_ended true now a
hear_notice FailedOversize now a = circuit_ended true now a
hear_notice FailedInactive now a = circuit_ended true now a

-- ---- links

unfoldable pub link_ended : Bool → Moment → At → At
link_ended failed now a = far_ended now (at_session (noting.lost failed) a)

abbrev pub link_refused_by : Option ShownNode → Moment → At → At
link_refused_by None now a = link_ended true now a
link_refused_by (Some name) now a = refused now a

-- one that was tried, or one that stood and was set up again
unfoldable pub link_refused : Moment → At → At
link_refused now a = link_refused_by (tried_name a.session.stage) now a

-- it is closed where the peer hasn't set it up
unfoldable pub close_unless_called : ℕ → Callsign → Moment → SidesState → SidesState
close_unless_called member peer now s = if seen.is_called member peer s then s else places.act now member (CloseLink peer) s

-- it was set up again by the peer: the one that stood has failed
unfoldable pub link_reset : ℕ → Callsign → Moment → At → At
link_reset member peer now a = at_sides (close_unless_called member peer now) (link_ended true now a)

-- something has become of its link
abbrev pub hear_link : LinkNotice → ℕ → Callsign → Moment → At → At
hear_link links.Opened member peer now a = connected a
hear_link links.Refused member peer now a = link_refused now a
hear_link links.Closed member peer now a = link_ended false now a
hear_link links.Failed member peer now a = link_ended true now a
hear_link links.Reset member peer now a = link_reset member peer now a
