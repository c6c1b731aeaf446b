use Rattle.std.proofs.Common.{◌∙◌, ap, sym}
use Rattle.std.specs.Prelude.{Some}
use Rattle.station_trial.specs.Directing.{set_call}
use Rattle.station_trial.specs.Gifts.{Open}
use Rattle.station_trial.specs.Trials.{give}
use Rattle.station_trial.proofs.Consoles.{reopens}
use Rattle.station_trial.proofs.Stands.{trial_as}
use Rattle.station_trial.proofs.trial.Trial.reopen.Goals as goal

pub returns-in_ok-give-in-Some-false : goal.returns-in_ok-give-in-Some-false
returns-in_ok-give-in-Some-false c = λ s stands.
    let called = c.set_call.ensures s stands in
    let held = rw (← c.give.view_is) at called in
    reopens _ c.args.call s (ap (λ b. Some b) (sym c.in-Some-false.field-0-test) ∙ sym c.in-Some-false.is ∙ c.is_members.ensures s stands)
    (trial_as _ _ _ (ap (λ n. give n (Open c.args.call) (set_call c.args.call s)) held.at) (c.in_ok-give-in-Some-false.ensures (set_call c.args.call s) called))
