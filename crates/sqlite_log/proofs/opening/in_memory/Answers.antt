use Rattle.sqlite.proofs.Callers.{memory_is_clean}
use Rattle.sqlite_log.proofs.opening.in_memory.Goals as goal

pub returns : goal.returns
returns c = c.in_ok-create.ensures.made (memory_is_clean c.create.new.conn)
