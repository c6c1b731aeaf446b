use Rattle.ax_link.specs.Table as table
use Rattle.link_table.proofs.Lifting.{lifts}
use Rattle.link_table.proofs.entry.LinkEntry.tick.Goals as goal

pub returns-clause-goes : goal.returns-clause-goes
returns-clause-goes c = lifts table.Tick c.args.now.0 c.args.self.now _ _ _ _ c.tick.ensures c.in_ok-lift.ensures
