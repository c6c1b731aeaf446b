-- Several stations, what happens to their members, in whatever order, and what these tell of circuits. Own profile.
use Rattle.std.specs.Prelude.{ℕ, ◌≡◌, ◌-◌, ◌==◌, nat_lt, length, List, [], ◌∷◌, ◌++◌, drop, map}
use Rattle.std.specs.Prelude.{slice_get, Option, Some, None, if◌then◌else◌}
use Rattle.std.specs.List.{AllByRecursion}
use Rattle.ax_address.specs.Callsign.{Callsign, IsCall}
use Rattle.circuit_table.specs.Events.{Event}
use Rattle.circuit_table.specs.Runs.{events_at}
use Rattle.node_core.specs.Bridged.{Input, after}
use Rattle.node_core.specs.Configs.{IsConfig, hosting_node}
use Rattle.node_core.specs.declared.config.NodeConfig.{NodeConfig}
use Rattle.node_core.specs.Runs.{IsUserAct, circuits_told}
use Rattle.node_model.specs.States.{Entry, NodeState}
use Rattle.station_members.specs.Laws.{Acts, Adds, Move, after_all, inputs_of}
use Rattle.station_members.specs.Places.{at_place}
use Rattle.station_members.specs.States.{State, new_state}

-- ---- stations

-- a station: how many ports it has, whom it doesn't hear, and all that is done with its members, in order
pub record Station : Type 0 where
  pub ports : ℕ
  pub deny : List Callsign
  pub moves : List Move

-- what its members have come to
abbrev pub state_of : Station → State
state_of s = after_all s.moves (new_state s.ports s.deny)

-- a member has a call, and settings that a node may have
abbrev pub IsMade : NodeConfig → Type 0
IsMade c = IsCall c.call × IsConfig c

-- such a one is added, and an act asks for circuits and links with calls
abbrev pub IsMove : Move → Type 0
IsMove (Adds c) = IsMade c.node
IsMove (Acts now at act) = IsUserAct act
IsMove _ = Unit {0}

abbrev pub IsStation : Station → Type 0
IsStation s = AllByRecursion IsMove s.moves

-- ---- their members, numbered from 0: those of the first station in their order, then those of the next

-- with what each was made
abbrev pub made_in : List Station → List NodeConfig
made_in [] = []
made_in (s ∷ ss) = (state_of s).made ++ made_in ss

-- their nodes, as they start
abbrev pub started_in : List Station → List NodeState
started_in stations = map hosting_node (made_in stations)

-- and as all that was done has left them
abbrev pub nodes_in : List Station → List NodeState
nodes_in [] = []
nodes_in (s ∷ ss) = (state_of s).nodes ++ nodes_in ss

-- all that the member of a number was given, in order
abbrev pub given_in : ℕ → List Station → List Input
given_in n [] = []
given_in n (s ∷ ss) =
    let members : ℕ = length (state_of s).nodes in
    if nat_lt n members then inputs_of n (state_of s).given else given_in (n - members) ss

-- ---- what happens to members

-- the member of a number is given an input
pub record Happening : Type 0 where
  pub member : ℕ
  pub input : Input

-- what the member of a number is given, in order
abbrev pub inputs_to : ℕ → List Happening → List Input
inputs_to n [] = []
inputs_to n (h ∷ hs) = if h.member == n then h.input ∷ inputs_to n hs else inputs_to n hs

-- All that happens to the members of these stations, in any order in which each is given what its station gave it, in that order.
abbrev pub AreAllOf : List Station → List Happening → Type 0
AreAllOf stations hs = (n : ℕ) → inputs_to n hs ≡ given_in n stations

-- to what these nodes come
abbrev pub nodes_after : List Happening → List NodeState → List NodeState
nodes_after [] ns = ns
nodes_after (h ∷ hs) ns = nodes_after hs (at_place h.member (after h.input) ns)

-- ---- what they tell of circuits

-- the entries that an input brings
abbrev pub new_entries : Input → NodeState → List Entry
new_entries input n = drop (length n.station.entries) (after input n).station.entries

abbrev pub told_at : ℕ → Input → Option NodeState → List Event
told_at member input None = []
told_at member input (Some n) = events_at member n.station.settings.call (circuits_told (new_entries input n))

-- what the entries tell of circuits that these inputs bring, in order, with the number of the member and its call
abbrev pub told_by : List Happening → List NodeState → List Event
told_by [] ns = []
told_by (h ∷ hs) ns = told_at h.member h.input (slice_get ns h.member) ++ told_by hs (at_place h.member (after h.input) ns)
