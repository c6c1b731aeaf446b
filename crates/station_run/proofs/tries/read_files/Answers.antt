use Rattle.std.proofs.Common.{◌∙◌, inr, sym}
use Rattle.station_run.proofs.Endings.{no_station}
use Rattle.station_run.proofs.Files.{is_named}
use Rattle.station_run.proofs.tries.read_files.Goals as goal

pub returns-in-Err-clause-err : goal.returns-in-Err-clause-err
returns-in-Err-clause-err g c =
    let same = c.loop-path.invariant.same in
    inr (
      c.as_str.result.now,
      rw (sym c.as_str.ensures.value) at (is_named c.args.paths.now c.loop-path.path-index c.path-item.result c.loop-path-test.true c.path-item.is),
      no_station c.as_str.result.now c.in-Err.status _ _ _ _ (λ e. e ∙ same) (λ text noted. rw same at noted) c.in-Err.ensures.err,
    )
