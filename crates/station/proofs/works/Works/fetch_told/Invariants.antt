use Rattle.std.proofs.Common.{◌≡◌, ◌-◌, ◌++◌, map}
use Rattle.station_members.specs.Standing.{told_by}
use Rattle.station.specs.Standing.{WorksStand}
use Rattle.station.specs.States.{StationState, fetch_told, told}
use Rattle.station.proofs.works.Works.fetch_told.Given as goal

abbrev pub invariant-loop : goal.invariant-loop
invariant-loop l = (s : StationState) → WorksStand l.fn.self s
    → (t : StationState) × WorksStand l.self t × (fetch_told (1000000 - l.counter) t ≡ fetch_told 1000000 s)
    × (map told_by l.told.items ++ told (1000000 - l.counter) t ≡ told 1000000 s)
