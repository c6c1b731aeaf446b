use Rattle.cmd_streams.specs.Told.{told_by}
use Rattle.node_cmd.proofs.Ending.{replay_ends}
use Rattle.node_cmd.proofs.replays.replay_file.Goals as goal

pub returns-in-Ok-clause-ends : goal.returns-in-Ok-clause-ends
returns-in-Ok-clause-ends g c =
    replay_ends (told_by g.S.Source g.K.Sink g.N.Sink c.args.source.now c.args.sink.now c.args.notes.now)
    (told_by g.S.Source g.K.Sink g.N.Sink c.read_file.new.source c.print_network.new.sink c.print_network.new.notes) c.print_network.new.ran c.print_network.result
    c.in-Ok.bytes.items c.in-Ok.ensures.all c.in-Ok.ensures.same (rw c.deref.ensures.value at c.print_network.ensures.ends)
