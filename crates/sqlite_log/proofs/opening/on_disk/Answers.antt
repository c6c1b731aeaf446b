use Rattle.sqlite.specs.Files.{file_state}
use Rattle.sqlite_log.proofs.Tables.{opened}
use Rattle.sqlite_log.proofs.opening.on_disk.Goals as goal

pub returns-in-Ok-over-clause-found : goal.returns-in-Ok-over-clause-found
returns-in-Ok-over-clause-found g c clean db kept holds stands =
    let early = c.in-Ok-over.ensures.honest clean in
    let is_opened = c.in-Ok.ensures.opened early in
    c.in-Ok-over.ensures.found clean kept (opened (file_state c.in-Ok.conn) db kept c.in-Ok.ensures.fresh.unlimited is_opened.0 is_opened.1 ((c.in-Ok.ensures.found early).holds db holds) stands)
