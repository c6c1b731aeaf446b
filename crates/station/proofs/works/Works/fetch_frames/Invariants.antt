use Rattle.std.proofs.Common.{◌≡◌, ◌-◌}
use Rattle.station.specs.Standing.{WorksStand}
use Rattle.station.specs.States.{StationState, fetch_frames}
use Rattle.station.proofs.works.Works.fetch_frames.Given as goal

abbrev pub invariant-loop : goal.invariant-loop
invariant-loop l = (s : StationState) → WorksStand l.fn.self s
    → (t : StationState) × WorksStand l.self t × (fetch_frames (1000000 - l.counter) t ≡ fetch_frames 1000000 s)
