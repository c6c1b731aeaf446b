-- What was told of circuits in a network, the verdict on it, and what the replay of a file's network comes to. Own profile.
use Rattle.std.specs.Prelude.{◌≡◌, ℕ, List, [], ◌∷◌, ◌++◌, map, slice_get, Option, Some, None, ◌<◌, ◌≤◌, length, Ok}
use Rattle.circuit_table.specs.Events as set_events
use Rattle.circuit_table.specs.Pumps.{Of}
use Rattle.circuit_table.specs.Sets as sets
use Rattle.circuit_verdict.specs.declared.event.Numbered.{Numbered}
use Rattle.circuit_verdict.specs.declared.late.Late.{Late}
use Rattle.circuit_verdict.specs.Verdicts as verdicts
use Rattle.circuit_verdict.specs.Verdicts.{IsVerdict}
use Rattle.network_file.specs.Plan.{Plan}
use Rattle.network_file.specs.Networks.{network_of}
use Rattle.node_model.specs.States as states
use Rattle.net_model.specs.Events.{Event, Entry, Lost, NumberedEvent, Restarted}
use Rattle.net_model.specs.Starting.{Placed}
use Rattle.net_model.specs.World.{World, place_of_node, most_frames}
pub use Rattle.net_model.specs.World.{allowance_of}
use Rattle.net_model.specs.Lines.{world}

-- what was told at a node's circuits, with the number of the line
pub record CircuitEvent : Type 0 where
  pub line : ℕ
  pub event : set_events.Event

-- a node is named by its place among the nodes
abbrev pub at_node : ℕ → ℕ → Option Placed → sets.CircuitTold → List CircuitEvent
at_node line at None told = []
at_node line at (Some p) told = record { line = line; event = record { node = at; own = p.declared.call; told = told } } ∷ []

abbrev pub told_at : List Placed → ℕ → ℕ → sets.CircuitTold → List CircuitEvent
told_at nodes line number told = at_node line (place_of_node number nodes) (slice_get nodes (place_of_node number nodes)) told

-- that a datagram came to nothing, that a neighbour was lost, and what isn't told of circuits at all, is none of it
abbrev pub event_at : List Placed → ℕ → Event → List CircuitEvent
event_at nodes line (Entry node (states.Of_set (Of told))) = told_at nodes line node told
event_at nodes line (Restarted node pair) = told_at nodes line node (sets.Restarted pair)
event_at nodes line (Lost node end facts) = told_at nodes line node (sets.Lost end facts)
event_at nodes line event = []

abbrev pub events_at : List Placed → List NumberedEvent → List CircuitEvent
events_at nodes [] = []
events_at nodes (e ∷ es) = event_at nodes e.line e.event ++ events_at nodes es

abbrev pub circuit_events : World → List CircuitEvent
circuit_events w = events_at w.nodes w.told

abbrev pub what_was_told : List CircuitEvent → List set_events.Event
what_was_told events = map (λ (e : CircuitEvent). e.event) events

abbrev pub judged : Numbered → CircuitEvent
judged n = record { line = n.line; event = verdicts.event_of n.event }

-- the verdict on what was told of circuits: none where it is timely and fresh, else the first line at which it isn't
pub record IsVerdictOn (plan : Plan) (w : World) (late : Option Late) : Type 0 where
  pub events : List Numbered
  pub are : map judged events ≡ circuit_events w
  pub verdict : IsVerdict (allowance_of plan) events late

-- What the file of a network is, and what its replay comes to. Own profile.

-- a file is one of a network of which P holds
abbrev pub IsNetwork : List ℕ → (Plan → Type 0) → Type 0
IsNetwork bytes P = (network : Plan) × (network_of bytes ≡ Ok network) × P network

-- so many frames as a replay may have in the air, or more, are put there
abbrev pub AirsFew : Plan → Type 0
AirsFew network = length (world network).air ≤ most_frames

abbrev pub AirsTooMany : Plan → Type 0
AirsTooMany network = most_frames < length (world network).air

-- it puts as many frames in the air as it may, and nothing comes back too late, or something
abbrev pub IsInTime : Plan → Type 0
IsInTime network = AirsFew network × IsVerdictOn network (world network) None

abbrev pub IsLate : Plan → Type 0
IsLate network = AirsFew network × ((late : Late) × IsVerdictOn network (world network) (Some late))
