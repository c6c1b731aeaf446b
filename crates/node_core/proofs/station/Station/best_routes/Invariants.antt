use Rattle.std.proofs.Common.{◌≡◌, ◌≤◌, flat_map, length, take}
use Rattle.node_core.specs.Standing.{Holds}
use Rattle.node_model.specs.States.{State}
use Rattle.node_model.specs.Asking as views
use Rattle.node_core.proofs.station.Station.best_routes.Given as goal

-- the best routes to so many of them
abbrev pub invariant-loop-dest : goal.invariant-loop-dest
invariant-loop-dest l =
    ((n : State) → Holds l.self n → l.best.items ≡ flat_map (views.best_route n) (take l.dest-index l.named)) × (length l.best.items ≤ l.dest-index)
