use Rattle.std.proofs.Common.{◌≡◌, inr, refl}
use Rattle.station_trial.specs.Trials.{new_trial}
use Rattle.station_run.specs.Typing.{new_typing}
use Rattle.station_run.proofs.Endings.{ends_wider}
use Rattle.station_run.proofs.tries.try_stations.Goals as goal

pub answer_and_tell-requires-clause-start : goal.answer_and_tell-requires-clause-start
answer_and_tell-requires-clause-start g c = λ s stands. (s, (refl, (refl, refl)), stands)

pub returns : goal.returns
returns g c =
    let started = c.in-Ok.ensures in
    let start = new_typing (new_trial started.0) in
    let stands = c.new-typing.ensures (new_trial started.0) started.2 in
    record {
      ends = inr (ends_wider _ _ _ _ _ _ _ _ _ _
          (λ reads text texts took. let t = took.1 start stands in record { stations = started.0; start = started.1; last = t.0; tries = t.1 })
          (λ over reads text texts ended. record { stations = started.0; start = started.1; tries = ended.1 start stands })
          c.answer_and_tell.ensures.ends);
    }
