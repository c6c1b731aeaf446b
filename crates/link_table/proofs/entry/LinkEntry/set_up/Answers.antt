use Rattle.ax_link.specs.Table as table
use Rattle.link_table.proofs.Lifting.{quietly}
use Rattle.link_table.proofs.entry.LinkEntry.set_up.Goals as goal

pub returns-clause-goes : goal.returns-clause-goes
returns-clause-goes c =
    quietly c.args.self.now.route table.Set_up c.args.now.0 c.args.self.now.link c.set_up.new.self c.emit.new.self _ _ c.set_up.ensures.does c.set_up.ensures.quiet c.in_ok-emit.ensures.rest c.in_ok-emit.ensures.frames
