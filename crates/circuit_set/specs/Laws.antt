-- What is promised of one circuit by itself.
use Rattle.std.specs.Prelude.{ℕ, ◌+◌, ◌*◌, ◌≤◌, List}
use Rattle.ax_address.specs.Callsign.{Callsign}
use Rattle.circuit_l4.specs.declared.pair.Pair.{Pair}
use Rattle.circuit_l4.specs.declared.config.EndConfig.{EndConfig}
use Rattle.circuit_l4.specs.Table.{common_window}
use Rattle.circuit_set.specs.Circuits.{Circuit, Event, InTimeAll, SafeTo, new_circuit, run}

-- at the end of each run of it in which all that is heeded is in time
abbrev pub OneCircuitSafe : Type 0
OneCircuitSafe =
    (pair partner : Pair) (user node : Callsign) (config own : EndConfig) (asked now a : ℕ) (events : List Event)
    → 1 ≤ config.window → 1 ≤ own.window → 2 * common_window own.window config.window + a ≤ 256
    → InTimeAll a events (new_circuit pair partner user node config own asked now)
    → let c : Circuit = run events (new_circuit pair partner user node config own asked now) in SafeTo c.left c.right × SafeTo c.right c.left
