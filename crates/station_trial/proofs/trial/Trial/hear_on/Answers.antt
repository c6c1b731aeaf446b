use Rattle.std.proofs.Common.{ap, refl}
use Rattle.station_trial.specs.Gifts.{Heard}
use Rattle.station_trial.specs.Trials.{give}
use Rattle.station_trial.proofs.Stands.{trial_as}
use Rattle.station_trial.proofs.trial.Trial.hear_on.Goals as goal

pub returns : goal.returns
returns c = λ s stands.
    let held = rw (← c.give.view_is) at stands in
    (refl, trial_as _ _ _ (ap (λ n. give n (Heard c.args.port c.args.octets.now) s) held.at) (c.in_ok-give.ensures s stands))
