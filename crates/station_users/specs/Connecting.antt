-- A user of a station asks for a circuit: `Connect X`. Own profile.
use Rattle.std.specs.Prelude.{ℕ, Bool, false, nat_eq, List, [], codes, Option, Some, None, Result, Ok, Err, if◌then◌else◌}
use Rattle.radio_base.specs.declared.moment.Moment.{Moment}
use Rattle.ax_address.specs.Callsign.{Callsign}
use Rattle.node_core.specs.Acts.{ConnectFor}
use Rattle.node_core.specs.declared.acts.ActDone.{ActDone}
use Rattle.node_core.specs.declared.acts.ActDone.TheVariants.{Done, Made, Took}
use Rattle.node_core.specs.declared.acts.ActRefusal.{ActRefusal}
use Rattle.station_lists.specs.Telling.{about, told_text}
use Rattle.station_lists.specs.declared.shown_node.ShownNode.{ShownNode}
use Rattle.station_lists.specs.declared.told.Told.TheVariants as told
use Rattle.station_looks.specs.Naming as naming
use Rattle.station_looks.specs.declared.about.About.{About}
use Rattle.station_looks.specs.declared.naming.Named.{Named}
use Rattle.station_looks.specs.declared.naming.Named.TheVariants.{Member, Node, Nothing}
use Rattle.station_members.specs.States.{act, act_answer}
use Rattle.station_sessions.specs.declared.far.Far.{Far}
use Rattle.station_sessions.specs.declared.far.Stage.TheVariants.{Trying}
use Rattle.station_sessions.specs.declared.place.Place.{Place}
use Rattle.station_sessions.specs.declared.place.Place.TheVariants.{End}
use Rattle.station_sessions.specs.Sessions as sessions
use Rattle.station_users.specs.Steps.{At, at_members, at_session}
use Rattle.station_users.specs.Telling.{answer}

-- ---- a try

abbrev pub new_far : Place → ShownNode → Far
new_far place name = record { place = place; name = name; unsent = []; closed = false; failed = false; waited = false }

-- something is tried, and the user is told so
unfoldable pub try_at : Place → ShownNode → Moment → At → At
try_at place name now a =
    answer (told_text (told.Trying name)) now (at_session (sessions.with_stage (Trying (new_far place name))) a)

abbrev pub try_made : Option ℕ → ℕ → ShownNode → Moment → At → At
try_made None member name now a = answer (told_text told.NoCircuits) now a
try_made (Some id) member name now a = try_at (End member id) name now a

abbrev pub made_by : ActDone → Option ℕ
made_by Done = None
made_by (Made id) = Some id
made_by (Took text) = None

-- the end that was made for it
abbrev pub made_in : Result ActDone ActRefusal → Option ℕ
made_in (Ok outcome) = made_by outcome
made_in (Err why) = None

abbrev pub asked_for : Moment → ℕ → Callsign → At → Result ActDone ActRefusal
asked_for now member dest a = act_answer now member (ConnectFor a.session.user dest) a.sides.members

-- a member asks for a circuit in the user's call
unfoldable pub try_circuit : ℕ → Callsign → Moment → At → At
try_circuit member dest now a =
    try_made (made_in (asked_for now member dest a)) member (naming.shown dest a.sides.members) now
    (at_members (act now member (ConnectFor a.session.user dest)) a)

-- ---- what X names

-- the member at a place keeps mail
abbrev pub is_post_at : ℕ → Option ℕ → Bool
is_post_at at None = false
is_post_at at (Some post) = nat_eq post at

abbrev pub by_route : Option ℕ → Callsign → List ℕ → Moment → At → At
by_route None dest to now a = answer (about (codes "No route to ") to) now a
by_route (Some member) dest to now a = try_circuit member dest now a

-- a member is asked whose route is best
abbrev pub to_node : Callsign → List ℕ → About → Moment → At → At
to_node dest to who now a = by_route (naming.best_member who.post dest a.sides.members) dest to now a

abbrev pub say_ours : Bool → Moment → At → At
say_ours post now a = if post then answer (told_text told.NoMail) now a else answer (told_text told.ThisNode) now a

abbrev pub to_named : Named → List ℕ → About → Moment → At → At
to_named (Member at) to who now a = say_ours (is_post_at at who.post) now a
to_named (Node dest) to who now a = to_node dest to who now a
to_named Nothing to who now a = answer (about (codes "Bad call: ") to) now a

-- the first that fits: a member; a node, by an alias that a member knows or by its call; and else nothing
unfoldable pub connect : List ℕ → About → Moment → At → At
connect to who now a = to_named (naming.named who.post to a.sides.members) to who now a
