use Rattle.std.proofs.Common.{◌≡◌, ◌≤◌, flat_map, length, take}
use Rattle.circuit_table.specs.CircuitSets.{held_ids}
use Rattle.node_core.specs.Going.{HoldsTold}
use Rattle.node_model.specs.States.{State}
use Rattle.node_model.specs.Asking as views
use Rattle.node_core.proofs.station.Station.users.Given as goal

-- the partners of so many of the ends
abbrev pub invariant-loop-nth : goal.invariant-loop-nth
invariant-loop-nth l =
    ((n : State) → HoldsTold l.self n → l.users.items ≡ flat_map (views.partner n.set.set.ends) (take l.nth (held_ids n.set.set.ends))) × (length l.users.items ≤ l.nth)
