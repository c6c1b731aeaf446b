use Rattle.ax_link.specs.Table as table
use Rattle.link_table.proofs.Lifting.{lifts}
use Rattle.link_table.proofs.entry.LinkEntry.give.Goals as goal

pub returns-in_ok-lift-in-Ok-clause-goes : goal.returns-in_ok-lift-in-Ok-clause-goes
returns-in_ok-lift-in-Ok-clause-goes c = lifts (table.Send c.args.payload.now) c.args.now.0 c.args.self.now _ _ _ _ c.in-Ok.ensures.does c.in_ok-lift-in-Ok.ensures
