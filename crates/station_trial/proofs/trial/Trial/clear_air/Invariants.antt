use Rattle.std.proofs.Common.{◌≡◌, ◌-◌}
use Rattle.station_trial.specs.Standing.{TrialStands}
use Rattle.station_trial.specs.Trials.{TrialState, clear}
use Rattle.station_trial.proofs.trial.Trial.clear_air.Given as goal

abbrev pub invariant-loop : goal.invariant-loop
invariant-loop l = (s : TrialState) → TrialStands l.fn.self s
    → (t : TrialState) × TrialStands l.self t × (clear (1000000 - l.counter) t ≡ clear 1000000 s)
