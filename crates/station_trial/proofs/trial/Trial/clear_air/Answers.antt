use Rattle.std.proofs.Common.{◌∙◌, refl, sym}
use Rattle.station_trial.specs.Outlets.{landed}
use Rattle.station_trial.specs.Trials.{TrialState, at_outlet, clear_air, deliver}
use Rattle.station_trial.proofs.Clearing.{done, last, next}
use Rattle.station_trial.proofs.Stands.{lands, trial_as}
use Rattle.station_trial.proofs.trial.Trial.clear_air.Goals as goal

pub loop-init : goal.loop-init
loop-init c = λ s stands. (s, stands, refl)

pub loop-preserved : goal.loop-preserved
loop-preserved c = λ s stands.
    let i = c.loop.invariant s stands in
    let t : TrialState = i.0 in
    let held = rw (← c.self.view_is) at i.1 in
    let flight = c.in-Some.flight in (
      deliver flight (at_outlet landed t),
      c.in_ok-deliver.ensures (at_outlet landed t) (lands _ _ t c.in-Some.ensures.goes held),
      sym (next c.loop.counter t flight c.loop-test.true (c.in-Some.ensures.answer t.outlet held.outlet)) ∙ i.2,
    )

pub returns-in_default : goal.returns-in_default
unfolding clear_air
returns-in_default c = λ s stands.
    let i = c.loop.invariant s stands in
    let held = rw (← c.self.view_is) at i.1 in
    trial_as _ _ _ (sym (last c.loop.counter i.0 c.loop-test.true (c.in_default.ensures.answer i.0.outlet held.outlet)) ∙ i.2) (lands _ _ i.0 c.in_default.ensures.goes held)

pub returns : goal.returns
unfolding clear_air
returns c = λ s stands.
    let i = c.loop.invariant s stands in
    trial_as _ _ _ (sym (done c.loop.counter i.0 c.loop-test.false) ∙ i.2) i.1
