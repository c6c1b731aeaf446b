use Rattle.std.proofs.Common.{◌∙◌}
use Rattle.cmd_streams.specs.Told.{output_by}
use Rattle.node_cmd.proofs.Ending.{soak_ends}
use Rattle.node_cmd.proofs.soaks.soak.Goals as goal

pub returns-in-Ok-clause-ends : goal.returns-in-Ok-clause-ends
returns-in-Ok-clause-ends g c =
    soak_ends (output_by g.K.Sink g.N.Sink c.args.sink.now c.args.notes.now) (output_by g.K.Sink g.N.Sink c.print_network.new.sink c.print_network.new.notes)
    c.print_network.new.ran c.print_network.result c.args.seed c.soak_files_are_networks.ensures.networks (rw (c.deref.ensures.value ∙ c.in-Ok.ensures) at c.print_network.ensures.ends)
