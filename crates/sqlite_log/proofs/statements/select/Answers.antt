use Rattle.sqlite_log.proofs.statements.select.Goals as goal

pub returns-in-Err-clause-err : goal.returns-in-Err-clause-err
returns-in-Err-clause-err g c clean = (c.in-Err.error, c.reason.ensures, c.in-Err.ensures.err clean)
