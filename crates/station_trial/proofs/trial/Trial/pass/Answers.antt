use Rattle.std.proofs.Common.{◌∙◌, ◌+◌, ◌^◌, ◌-◌, min, ap}
use Rattle.station_trial.specs.Trials.{later}
use Rattle.station_trial.proofs.trial.Trial.pass.Goals as goal

pub returns : goal.returns
returns c = λ s stands.
    let held = rw (← c.self.view_is) at stands in
    c.in_ok-deal.ensures (later c.args.ms s) (record {
      tried = held.tried;
      outlet = held.outlet;
      time = c.saturating_add-self-inside.ensures ∙ ap (λ n. min (n + c.args.ms) (2 ^ 64 - 1)) held.time;
      at = held.at;
    })
