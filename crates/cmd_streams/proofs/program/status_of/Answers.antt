use Rattle.std.proofs.Common.{inr}
use Rattle.cmd_streams.proofs.program.status_of.Goals as goal

pub returns-in-Ok : goal.returns-in-Ok
returns-in-Ok g c =
    inr (_, c.work.ensures, c.new.ensures.reader, c.new-in-Ok.ensures.writer, c.new-in-Ok-2.ensures.writer)
