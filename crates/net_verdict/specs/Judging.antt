-- What a verdict takes in of a trace, for the parts of the verdict. No public clause cites it: not for the reader of a contract.
use Rattle.std.specs.Prelude.{◌≡◌, ℕ, List, [], ◌∷◌, ◌++◌, map, Option, Some, None}
use Rattle.ax_address.specs.Callsign.{Callsign}
use Rattle.circuit_table.specs.Pumps.{SetTold, Of}
use Rattle.circuit_table.specs.Sets as sets
use Rattle.circuit_table.specs.Sets.{CircuitTold}
use Rattle.circuit_verdict.specs.declared.event.Event.{Event as Coming}
use Rattle.circuit_verdict.specs.declared.event.Numbered.{Numbered}
use Rattle.circuit_verdict.specs.declared.verdict.Verdict.{Verdict}
use Rattle.circuit_verdict.specs.Standing.{StandsFor, allowance_in}
use Rattle.node_model.specs.States as states
use Rattle.net_model.specs.Circuits.{CircuitEvent, judged}
use Rattle.net_model.specs.Events.{Event, Entry, Lost, Restarted}

-- it stands for these events, and for what was told behind them
pub record StandsBehind (v : Verdict) (events : List Numbered) (told : List CircuitEvent) : Type 0 where
  pub more : List Numbered
  pub are : map judged more ≡ told
  pub stands : StandsFor v (events ++ more)

-- what was told was taken in
pub record Heeds (old new : Verdict) (told : List CircuitEvent) : Type 0 where
  pub stands : (events : List Numbered) → StandsFor old events → StandsBehind new events told
  pub same : allowance_in new ≡ allowance_in old

-- ---- what an event tells of circuits

abbrev pub set_told : SetTold → Option CircuitTold
set_told (Of told) = Some told
set_told other = None

abbrev pub entry_told : states.Entry → Option CircuitTold
entry_told (states.Of_set told) = set_told told
entry_told other = None

abbrev pub of_node : ℕ → Option CircuitTold → Option (ℕ × CircuitTold)
of_node node None = None
of_node node (Some told) = Some (node, told)

-- and the number of the node
abbrev pub circuit_told : Event → Option (ℕ × CircuitTold)
circuit_told (Entry node entry) = of_node node (entry_told entry)
circuit_told (Restarted node pair) = Some (node, sets.Restarted pair)
circuit_told (Lost node end facts) = Some (node, sets.Lost end facts)
circuit_told event = None

-- as the code names the node
abbrev pub told_here : ℕ → Option Coming → List CircuitEvent
told_here line None = []
told_here line (Some event) = judged (record { line = line; event = event }) ∷ []

abbrev pub told_there : ℕ → Option (ℕ × Callsign) → CircuitTold → List CircuitEvent
told_there line None told = []
told_there line (Some spot) told = record { line = line; event = record { node = spot.0; own = spot.1; told = told } } ∷ []
