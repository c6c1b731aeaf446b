use Rattle.std.proofs.Common.{◌≡◌, ◌∙◌, refl, ap, sym}
use Rattle.std.specs.Prelude.{string_bytes}
use Rattle.std.proofs.lemmas.List.{length-map}
use Rattle.cmd_streams.specs.Told.{told_by}
use Rattle.station_cmd.specs.Words.{texts_of}
use Rattle.station_run.proofs.Endings.{tried_or_starved, untried}
use Rattle.station_run.proofs.tries.try_files.Goals as goal

pub returns-in-Ok : goal.returns-in-Ok
returns-in-Ok g c = record {
  ends = tried_or_starved c.in-Ok.files.items (texts_of c.args.paths.now) _ _ _ _ c.try_stations.result c.in-Ok.ensures.read.0
      (c.in-Ok.ensures.read.1 ∙ sym (length-map c.args.paths.now (λ w. string_bytes w)))
      (rw c.in-Ok.ensures.same at c.try_stations.ensures.ends);
}

pub returns-in-Err : goal.returns-in-Err
returns-in-Err g c = record {
  ends = untried (texts_of c.args.paths.now) _ _ _ _ _ c.in-Err.status
      (record { left = refl; reads = refl; read_faults = refl; written = refl; write_faults = refl; timeless = refl })
      (λ same. ap (λ n. told_by g.S.Source g.K.Sink g.N.Sink c.args.source.now c.args.sink.now n) same) (λ text noted. noted) c.in-Err.ensures.err;
}
