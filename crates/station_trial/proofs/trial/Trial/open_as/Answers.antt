use Rattle.std.proofs.Common.{◌∙◌, ap, sym}
use Rattle.station_trial.specs.Gifts.{Open}
use Rattle.station_trial.specs.Trials.{give, open_as}
use Rattle.station_trial.proofs.Stands.{trial_as}
use Rattle.station_trial.proofs.trial.Trial.open_as.Goals as goal

-- it is given to the station at whose console is typed
pub returns-in_ok-give-in-Some : goal.returns-in_ok-give-in-Some
returns-in_ok-give-in-Some c = λ s stands.
    let held = rw (← c.give.view_is) at stands in
    trial_as _ _ _ (ap (λ n. give n (Open c.in-Some.call) s) held.at ∙ sym (ap (λ o. open_as o s) c.in-Some.is)) (c.in_ok-give-in-Some.ensures s stands)
