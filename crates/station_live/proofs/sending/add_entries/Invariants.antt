use Rattle.std.proofs.Common.{◌≡◌, ◌++◌}
use Rattle.station.specs.Fetching.{without_entries}
use Rattle.station.specs.Standing.{StationStand, entries_left}
use Rattle.station.specs.States.{StationState}
use Rattle.station_live.specs.Lives.{entries_text}
use Rattle.station_live.proofs.sending.add_entries.Given as goal

-- the lines of what is left of what the station has told come behind those so far
abbrev pub invariant-loop-entry : goal.invariant-loop-entry
invariant-loop-entry l = (s : StationState) → StationStand l.fn.station s
    → (t : StationState) × StationStand l.station t × (without_entries t ≡ without_entries s)
    × (l.lines ++ entries_text l.now t ≡ l.fn.lines ++ entries_text l.now s)

abbrev pub decreases-loop-entry : goal.decreases-loop-entry
decreases-loop-entry l = entries_left l.station
