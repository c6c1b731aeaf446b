use Rattle.std.proofs.Common.{ap, arith, length, length-append, length-drop}
use Rattle.std.proofs.lemmas.List.{drop-drop, take_rest}
use Rattle.std.proofs.lemmas.Result.{err_from_is_err_and}
use Rattle.kiss_framing.proofs.PlainRuns.{front_kept, rest_kept}
use Rattle.kiss_framing.proofs.enframing.push_payload.Goals as goal

pub returns-in_err-taken-clause-full : goal.returns-in_err-taken-clause-full
returns-in_err-taken-clause-full g c =
    let p = err_from_is_err_and c.from_residual.result c.from_residual.ensures.1 in
    let bytes = c.args.payload.now in
    let i = c.loop-taken.invariant in
    let full = rw (take_rest bytes c.loop-taken.taken) at c.in_err-taken.ensures.full in
    let long = ap length i.rest in
    rw p.1 (omega (arith, full, simp length-append at long))

pub loop-taken-preserved : goal.loop-taken-preserved
loop-taken-preserved g c =
    let bytes = c.args.payload.now in
    let taken = c.loop-taken.taken in
    let count = c.in_ok-taken.field-0 in
    let i = c.loop-taken.invariant in
    let told = rw (take_rest bytes taken) at c.in_ok-taken.ensures in
    record {
      within = omega (arith, told.within, i.within, length-drop taken bytes);
      front = front_kept c.args.out.now.items c.loop-taken.out.items _ _ told.ok i.front;
      rest = rw (← drop-drop count taken bytes) (rest_kept c.args.out.now.items c.loop-taken.out.items _ bytes taken count told.ok i.rest);
    }
