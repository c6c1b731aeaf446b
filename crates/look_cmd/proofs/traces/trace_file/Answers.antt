use Rattle.cmd_streams.specs.Told.{told_by}
use Rattle.look_cmd.proofs.Ending.{trace_ends}
use Rattle.look_cmd.proofs.traces.trace_file.Goals as goal

pub returns-in-Ok-clause-ends : goal.returns-in-Ok-clause-ends
returns-in-Ok-clause-ends g c =
    trace_ends (told_by g.S.Source g.K.Sink g.N.Sink c.args.source.now c.args.sink.now c.args.notes.now)
    (told_by g.S.Source g.K.Sink g.N.Sink c.read_file.new.source c.print_trace.new.sink c.print_trace.new.notes) c.print_trace.result
    c.in-Ok.bytes.items c.in-Ok.ensures.all c.in-Ok.ensures.same (rw c.deref.ensures.value at c.print_trace.ensures.ends)
