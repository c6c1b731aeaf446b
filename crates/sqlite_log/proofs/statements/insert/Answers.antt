use Rattle.sqlite_log.proofs.statements.insert.Goals as goal

pub returns-in-Err-clause-ran : goal.returns-in-Err-clause-ran
returns-in-Err-clause-ran g c clean = (c.in-Err.error, c.reason.ensures, c.in-Err.ensures.runs clean)
