-- Whether a user is shown: his side stands. Own profile.
use Rattle.std.specs.Prelude.{ℕ, Option, Some, None, Bool, true, false, slice_get}
use Rattle.node_model.specs.States.{NodeState}
use Rattle.node_model.specs.Users as users
use Rattle.station_members.specs.States.{State}
use Rattle.station_sessions.specs.declared.place.Place.{Place}
use Rattle.station_sessions.specs.declared.place.Place.TheVariants.{End, Link, Console}
use Rattle.station_sessions.specs.Sessions.{Session, is_shown}

-- the circuit of an end of a node has ended, or no such end is held
abbrev pub node_ended : ℕ → Option NodeState → Bool
node_ended id None = true
node_ended id (Some n) = users.ended_by (users.facts id n.station)

-- the same of the member at a place
unfoldable pub end_has_ended : ℕ → ℕ → State → Bool
end_has_ended at id s = node_ended id (slice_get s.nodes at)

-- it is the end of a circuit that has ended
abbrev pub has_ended : Place → State → Bool
has_ended (End member id) s = end_has_ended member id s
has_ended (Link member peer) s = false
has_ended (Console console) s = false

-- the user of a session is shown among the users
abbrev pub is_user : State → Session → Bool
is_user s session = is_shown session.presence (has_ended session.place s)
