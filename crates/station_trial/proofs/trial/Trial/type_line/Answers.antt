use Rattle.std.proofs.Common.{◌≡◌, ◌∙◌, ◌++◌, ◌∷◌, [], ap}
use Rattle.station_trial.specs.Gifts.{Typed}
use Rattle.station_trial.specs.Trials.{give, need_console}
use Rattle.station_trial.proofs.Consoles.{stays_there}
use Rattle.station_trial.proofs.Stands.{trial_as}
use Rattle.station_trial.proofs.trial.Trial.type_line.Goals as goal

pub returns : goal.returns
returns c = λ s stands.
    let ready = c.in_ok-need_console.ensures s stands in
    let held = rw (← c.give.view_is) at ready in
    let typed : c.as_slice.result.now ≡ c.args.line.now ++ 13 ∷ [] = c.as_slice.ensures.value ∙ (c.in_ok-push.ensures.items ∙ ap (λ t. t ++ 13 ∷ []) (c.in_ok-text.ensures.items_if_clones_equal (λ x y e. e))) in
    trial_as _ _ _ (ap (λ n. give n (Typed (c.args.line.now ++ 13 ∷ [])) (need_console s)) (held.at ∙ stays_there s))
    (rw typed at (c.in_ok-give.ensures (need_console s) ready))
