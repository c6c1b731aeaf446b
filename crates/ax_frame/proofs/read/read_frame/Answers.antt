use Rattle.std.proofs.lemmas.Result.{err_from_is_err_and}
use Rattle.ax_frame.proofs.ReadAgain.{head_at_fault, head_refused}
use Rattle.ax_frame.proofs.read.read_frame.Goals as goal

pub returns-in_err-head-clause-refused : goal.returns-in_err-head-clause-refused
returns-in_err-head-clause-refused g c =
    let p = err_from_is_err_and c.from_residual.result c.from_residual.ensures.1 in
    rw (p.1, p.2) (head_at_fault _ _ _ c.in_err-head.ensures.judged)

pub returns-in_err-head-clause-exact : goal.returns-in_err-head-clause-exact
returns-in_err-head-clause-exact g c =
    let p = err_from_is_err_and c.from_residual.result c.from_residual.ensures.1 in
    rw (p.1, p.2) (head_refused _ _ _ c.in_err-head.ensures.judged)
