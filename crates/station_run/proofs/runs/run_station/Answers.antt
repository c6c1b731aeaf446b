use Rattle.std.proofs.Common.{inr, refl}
use Rattle.station_run.specs.Living.{start_with}
use Rattle.station_run.proofs.Endings.{ends_wider}
use Rattle.station_run.proofs.runs.run_station.Goals as goal

pub answer_and_tell-requires-clause-start : goal.answer_and_tell-requires-clause-start
answer_and_tell-requires-clause-start g c = λ l stands. record { stands = stands; sent = refl; told = refl }

pub returns : goal.returns
returns g c =
    let started = c.in-Ok.ensures in
    let start = start_with started.0 c.args.pair c.args.file.now in
    record {
      ends = inr (ends_wider _ _ _ _ _ _ _ _ _ _
          (λ reads text texts took. let t = took.1 start started.2 in record { who = started.0; about = started.1; sent = t.sent; told = t.told })
          (λ over reads text texts ended.
          let t = ended.1.1.1 start started.2 in
          record { wants = ended.1.0; earlier = ended.1.1.0; sent = record { who = started.0; about = started.1; sent = t.sent; told = t.told }; told = ended.1.1.2 })
          c.answer_and_tell.ensures.ends);
    }
