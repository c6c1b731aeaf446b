use Rattle.std.proofs.Common.{le_refl}
use Rattle.kiss_framing.proofs.Runs.{next_ends}
use Rattle.kiss_framing.proofs.piece.Piece.take_in_next.Goals as goal

pub returns-in-Some-clause-ends : goal.returns-in-Some-clause-ends
returns-in-Some-clause-ends c =
    let run = c.take_in_run-run.result in
    let found = rw c.in-Some.is at c.get.ensures.lookup in
    next_ends c.args.bytes.now run c.in-Some.byte.now _ _ _ _ _ found.3.0 (found.4 (le_refl run) 0) c.take_in_run-run.ensures.led c.take_in.ensures.stepped c.take_in.ensures.some
