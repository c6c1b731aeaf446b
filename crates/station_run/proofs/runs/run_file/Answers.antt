use Rattle.std.proofs.Common.{inl, inr, refl, ap}
use Rattle.cmd_streams.specs.Told.{told_by}
use Rattle.station_run.proofs.Endings.{no_station}
use Rattle.station_run.proofs.runs.run_file.Goals as goal

pub returns-in-Ok : goal.returns-in-Ok
returns-in-Ok g c = record { ends = inr (c.in-Ok.file, c.in-Ok.ensures.read, rw (c.in-Ok.ensures.same) at c.run_station.ensures.ends) }

pub returns-in-Err : goal.returns-in-Err
returns-in-Err g c = record {
  ends = inl (
    no_station c.args.path.now c.in-Err.status _ _ _ _
        (λ same. ap (λ n. told_by g.S.Source g.K.Sink g.N.Sink c.args.source.now c.args.sink.now n) same) (λ text noted. noted) c.in-Err.ensures.err,
    record { left = refl; reads = refl; read_faults = refl; written = refl; write_faults = refl; timeless = refl },
  );
}
