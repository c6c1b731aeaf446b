use Rattle.std.proofs.Common.{◌≡◌, drop, map}
use Rattle.station_members.specs.Standing.{told_by}
use Rattle.station.specs.Standing.{WorksStand}
use Rattle.station.specs.States.{StationState, read_each}
use Rattle.station.proofs.works.Works.read_each.Given as goal

abbrev pub invariant-loop-at : goal.invariant-loop-at
invariant-loop-at l = (s : StationState) → WorksStand l.fn.self s
    → (t : StationState) × WorksStand l.self t × (read_each l.now (map told_by (drop l.at-index l.told)) t ≡ read_each l.now (map told_by l.told) s)
