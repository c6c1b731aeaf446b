use Rattle.std.proofs.Common.{◌≡◌}
use Rattle.station.specs.Fetching.{without_entries}
use Rattle.station.specs.Standing.{StationStand, entries_left}
use Rattle.station.specs.States.{StationState}
use Rattle.station_trial.proofs.outlet.drop_entries.Given as goal

abbrev pub invariant-loop-entry : goal.invariant-loop-entry
invariant-loop-entry l = (s : StationState) → StationStand l.fn.station s
    → (t : StationState) × StationStand l.station t × (without_entries t ≡ without_entries s)

abbrev pub decreases-loop-entry : goal.decreases-loop-entry
decreases-loop-entry l = entries_left l.station
