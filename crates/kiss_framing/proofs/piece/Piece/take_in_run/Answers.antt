use Rattle.kiss_framing.proofs.Runs.{leads_skipped}
use Rattle.kiss_framing.proofs.piece.Piece.take_in_run.Goals as goal

pub returns-in-Skipping-clause-led : goal.returns-in-Skipping-clause-led
returns-in-Skipping-clause-led c =
    let run = c.plain_run-in-Skipping in
    rw (c.in-Skipping.is, ← run.ensures.front) (leads_skipped run.result.now run.ensures.plain)
