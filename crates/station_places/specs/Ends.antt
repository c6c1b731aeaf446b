-- What is seen of an end of a circuit at a member, by the state of its node, if one stands. Own profile.
use Rattle.std.specs.Prelude.{ℕ, Bool, false, is_some, nat_le, ◌&&◌, Option, Some, None}
use Rattle.circuit_l4.specs.declared.facts.EndFacts.{EndFacts}
use Rattle.circuit_l4.specs.State.{is_up}
use Rattle.node_core.specs.Waits as waits
use Rattle.node_model.specs.States.{NodeState}
use Rattle.node_model.specs.Users as users

-- what the end of a number tells of itself, where it is held
abbrev pub facts : ℕ → Option NodeState → Option EndFacts
facts id None = None
facts id (Some n) = users.facts id n.station

-- it has room for a text where it is Up with at most 57,344 octets queued: so 8,192 more may be
abbrev pub room_by : Option EndFacts → Bool
room_by None = false
room_by (Some f) = is_up f.phase && nat_le f.queued 57344

abbrev pub has_room : ℕ → Option NodeState → Bool
has_room id n = room_by (facts id n)

-- its circuit has ended, or it isn't held
abbrev pub has_ended : ℕ → Option NodeState → Bool
has_ended id n = users.ended_by (facts id n)

abbrev pub is_held : ℕ → Option NodeState → Bool
is_held id n = is_some (facts id n)

-- a message that came waits there
abbrev pub has_message : ℕ → Option NodeState → Bool
has_message id None = false
has_message id (Some n) = waits.has_message id n.station
