-- Texts at links and ends that no session of a station has. Own profile.
use Rattle.std.specs.Prelude.{ℕ, Bool, false, not, ◌&&◌, ◌||◌, List, [], ◌∷◌, length, slice_get, Option, Some, None, if◌then◌else◌}
use Rattle.radio_base.specs.declared.moment.Moment.{Moment}
use Rattle.ax_address.specs.Callsign.{Callsign}
use Rattle.circuit_table.specs.CircuitSets.{held_by, held_ids}
use Rattle.link_table.specs.Texts.{text_peers}
use Rattle.node_model.specs.States.{NodeState}
use Rattle.station_places.specs.Looks as seen
use Rattle.station_places.specs.Sides.{node_at}
use Rattle.station_places.specs.Taking as taking
use Rattle.station_sessions.specs.declared.place.Place.{Place}
use Rattle.station_sessions.specs.declared.place.Place.TheVariants.{End, Link}
use Rattle.station_sessions.specs.Sessions.{new_session}
use Rattle.station_users.specs.Greeting.{greet, serves}
use Rattle.station_users.specs.States.{UsersState, any_from, at_sides, each_from, is_taken}

-- ---- at a link

-- a user may come over it: the peer has set it up, and it isn't being closed from here
abbrev pub may_come : ℕ → Callsign → UsersState → Bool
may_come member peer u = serves member u && (seen.is_called member peer u.sides && not (seen.is_closing member peer u.sides))

unfoldable pub come : ℕ → Callsign → Moment → UsersState → UsersState
come member peer now u =
    if may_come member peer u then greet (new_session peer member None (Link member peer) now.0) now u else u

abbrev pub drop_there : Place → Moment → UsersState → UsersState
drop_there place now u = at_sides (taking.drop_texts place now) u

abbrev pub drops_there : Place → Moment → UsersState → Bool
drops_there place now u = taking.drops_any place now u.sides

-- what still nobody has is let fall
abbrev pub drop_untaken : Place → Moment → UsersState → UsersState
drop_untaken place now u = if is_taken place u then u else drop_there place now u

abbrev pub drops_untaken : Place → Moment → UsersState → Bool
drops_untaken place now u = if is_taken place u then false else drops_there place now u

unfoldable pub take_link_text : ℕ → Moment → Callsign → UsersState → UsersState
take_link_text member now peer u =
    if is_taken (Link member peer) u then u else drop_untaken (Link member peer) now (come member peer now u)

unfoldable pub takes_link_text : ℕ → Moment → Callsign → UsersState → Bool
takes_link_text member now peer u =
    if is_taken (Link member peer) u then false else drops_untaken (Link member peer) now (come member peer now u)

abbrev pub peers_by : Option NodeState → List Callsign
peers_by None = []
peers_by (Some n) = text_peers n.station.links.links

-- with whom a member has a link at which a text waits
abbrev pub peers_at : ℕ → UsersState → List Callsign
peers_at member u = peers_by (node_at member u.sides)

abbrev pub take_each : ℕ → Moment → List Callsign → UsersState → UsersState
take_each member now [] u = u
take_each member now (peer ∷ peers) u = take_each member now peers (take_link_text member now peer u)

abbrev pub takes_any : ℕ → Moment → List Callsign → UsersState → Bool
takes_any member now [] u = false
takes_any member now (peer ∷ peers) u = takes_link_text member now peer u || takes_any member now peers (take_link_text member now peer u)

unfoldable pub take_link_texts : Moment → ℕ → UsersState → UsersState
take_link_texts now member u = take_each member now (peers_at member u) u

unfoldable pub takes_link_texts : Moment → ℕ → UsersState → Bool
takes_link_texts now member u = takes_any member now (peers_at member u) u

-- ---- at an end

abbrev pub end_by : Option NodeState → ℕ → Option ℕ
end_by None nth = None
end_by (Some n) nth = slice_get (held_ids (held_by [] n.station.set.set.ends)) nth

-- a text waits there, and nobody has it
abbrev pub is_left : Place → UsersState → Bool
is_left place u = seen.has_text place u.sides && not (is_taken place u)

abbrev pub drop_left : Place → Moment → UsersState → UsersState
drop_left place now u = if is_left place u then drop_there place now u else u

abbrev pub drops_left : Place → Moment → UsersState → Bool
drops_left place now u = if is_left place u then drops_there place now u else false

abbrev pub drop_at_end : Option ℕ → ℕ → Moment → UsersState → UsersState
drop_at_end None member now u = u
drop_at_end (Some id) member now u = drop_left (End member id) now u

abbrev pub drops_at_end : Option ℕ → ℕ → Moment → UsersState → Bool
drops_at_end None member now u = false
drops_at_end (Some id) member now u = drops_left (End member id) now u

-- the end that is so far behind the first one that a member holds
abbrev pub end_at : ℕ → ℕ → UsersState → Option ℕ
end_at member nth u = end_by (node_at member u.sides) nth

unfoldable pub drop_end_text : ℕ → Moment → ℕ → UsersState → UsersState
drop_end_text member now nth u = drop_at_end (end_at member nth u) member now u

unfoldable pub drops_end_text : ℕ → Moment → ℕ → UsersState → Bool
drops_end_text member now nth u = drops_at_end (end_at member nth u) member now u

-- at most 64 are held
unfoldable pub drop_end_texts : Moment → ℕ → UsersState → UsersState
drop_end_texts now member u = each_from (drop_end_text member now) 0 64 u

unfoldable pub drops_end_texts : Moment → ℕ → UsersState → Bool
drops_end_texts now member u = any_from (drops_end_text member now) (drop_end_text member now) 0 64 u

-- ---- at each member

unfoldable pub take_at : Moment → ℕ → UsersState → UsersState
take_at now member u = drop_end_texts now member (take_link_texts now member u)

unfoldable pub takes_at : Moment → ℕ → UsersState → Bool
takes_at now member u = takes_link_texts now member u || drops_end_texts now member (take_link_texts now member u)

unfoldable pub take_unclaimed : Moment → UsersState → UsersState
take_unclaimed now u = each_from (take_at now) 0 (length u.sides.members.nodes) u

-- whether any was let fall
unfoldable pub takes_unclaimed : Moment → UsersState → Bool
takes_unclaimed now u = any_from (takes_at now) (take_at now) 0 (length u.sides.members.nodes) u
