use Rattle.std.proofs.Common.{◌≡◌, ◌++◌, ◌∙◌, ap, sym, length, take}
use Rattle.std.specs.List.{flat_map}
use Rattle.std.proofs.lemmas.Result.{err_from_is_err_and}
use Rattle.kiss_framing.specs.Stream.{escape_of}
use Rattle.kiss_framing.proofs.PlainRuns.{escaped_run, no_room_for_run}
use Rattle.kiss_framing.proofs.enframing.push_some.Goals as goal

pub returns-in_err-push-clause-full : goal.returns-in_err-push-clause-full
returns-in_err-push-clause-full g c =
    let p = err_from_is_err_and c.from_residual-in_err-push.result c.from_residual-in_err-push.ensures.1 in
    let run = c.plain_run-run in
    rw p.1 (no_room_for_run run.result.now c.args.payload.now (length c.args.out.now.items) g.row.CAP run.ensures.plain run.ensures.front c.in_err-push.ensures.full)

pub returns-in_ok-push-clause-ok : goal.returns-in_ok-push-clause-ok
returns-in_ok-push-clause-ok g c =
    let run = c.plain_run-run in
    c.in_ok-push.ensures.ok ∙ ap (λ xs. c.args.out.now.items ++ xs) (sym (ap (λ bs. flat_map escape_of bs) (sym run.ensures.front) ∙ escaped_run run.result.now run.ensures.plain))
