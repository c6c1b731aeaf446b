use Rattle.std.proofs.Common.{◌∙◌, ◌+◌, ◌-◌, ◌^◌, min, ap}
use Rattle.station_trial.proofs.Starts.{starts_so}
use Rattle.station_trial.proofs.tried.Tried.restart.Goals as goal

pub returns : goal.returns
returns c =
    let started = c.in_ok-self.ensures in (
      started.0,
      started.1,
      λ t stands.
          let more = c.saturating_add-self.ensures ∙ ap (λ n. min (n + 1) (2 ^ 64 - 1)) stands.restarts in
          record {
            file = stands.file;
            station = starts_so started.0 c.pair_at.result c.saturating_add-self.result (min (t.restarts + 1) (2 ^ 64 - 1)) c.args.self.now.file t.file _ c.pair_at.ensures.value more stands.file started.2;
            restarts = more;
            call = stands.call;
          },
    )
