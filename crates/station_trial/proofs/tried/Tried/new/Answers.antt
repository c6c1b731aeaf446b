use Rattle.std.proofs.Common.{◌∙◌, ap, refl}
use Rattle.station_trial.specs.Starting.{console_call, start_at}
use Rattle.station_trial.proofs.Starts.{starts_so}
use Rattle.station_trial.proofs.tried.Tried.new.Goals as goal

pub returns : goal.returns
returns c =
    let started = c.in_ok-station.ensures in
    let stands = starts_so started.0 c.pair_at.result 0 0 c.args.file c.args.file c.in_ok-station.station c.pair_at.ensures.value refl refl started.2 in (
      started.0,
      started.1,
      record {
        file = refl;
        station = stands;
        restarts = refl;
        call = c.console_call-call.ensures (start_at 0 started.0 c.args.file) stands ∙ ap (λ ms. console_call ms (start_at 0 started.0 c.args.file)) c.members.ensures.members;
      },
    )
