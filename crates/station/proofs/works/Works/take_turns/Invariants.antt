use Rattle.std.proofs.Common.{◌≡◌, ◌-◌}
use Rattle.station.specs.Standing.{WorksStand}
use Rattle.station.specs.States.{StationState, turns}
use Rattle.station.proofs.works.Works.take_turns.Given as goal

abbrev pub invariant-loop : goal.invariant-loop
invariant-loop l = (s : StationState) → WorksStand l.fn.self s
    → (t : StationState) × WorksStand l.self t × (turns (1000 - l.counter) l.now t ≡ turns 1000 l.now s)
