use Rattle.std.proofs.Common.{rules}
use Rattle.sqlite_log.proofs.opening.over_nothing.Goals as goal

pub returns-in-Ok-clause-fresh : goal.returns-in-Ok-clause-fresh
returns-in-Ok-clause-fresh g c clean = record { holds = c.in-Ok.ensures.made clean; tells = search rules }

pub returns-in-Err-clause-refused : goal.returns-in-Err-clause-refused
returns-in-Err-clause-refused g c clean is_open = c.in-Err.ensures.cause clean is_open
