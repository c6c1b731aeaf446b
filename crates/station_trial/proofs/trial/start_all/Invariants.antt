use Rattle.std.proofs.Common.{◌≡◌, ◌++◌, ◌+◌, List, length}
use Rattle.station_file.specs.Station.{Station}
use Rattle.station_trial.specs.Standing.{AllStand}
use Rattle.station_trial.specs.Starting.{AllStart}
use Rattle.station_trial.specs.Stations.{TriedState}
use Rattle.station_trial.proofs.trial.start_all.Given as goal

-- the stations of the files so far have started
abbrev pub invariant-loop-alloc : goal.invariant-loop-alloc
invariant-loop-alloc l =
    (done : List Station) × (ts : List TriedState) × (l.fn.files.items ≡ done ++ l.files.items) × AllStart done ts
    × AllStand l.tried.items ts × (length l.tried.items + length l.files.items ≡ length l.fn.files.items)

abbrev pub decreases-loop-alloc : goal.decreases-loop-alloc
decreases-loop-alloc l = length l.files.items
