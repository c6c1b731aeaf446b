use Rattle.std.proofs.Common.{refl}
use Rattle.station_trial.specs.Trials.{begin_line, clear_air}
use Rattle.station_trial.proofs.trial.Trial.take_line.Goals as goal

pub returns : goal.returns
returns c = λ s stands.
    let done = c.in_ok-came.ensures (begin_line s) (c.in_ok-begin_line.ensures s stands) in
    (clear_air done.0, record { done = done.0; does = done.1; cleared = refl }, c.in_ok-clear_air.ensures done.0 done.2)
