use Rattle.std.proofs.Common.{sym}
use Rattle.ax_link.specs.Table as table
use Rattle.link_table.proofs.Lifting.{quietly}
use Rattle.link_table.proofs.entry.LinkEntry.send.Goals as goal

pub returns-in_ok-emit-in-Ok-clause-offers : goal.returns-in_ok-emit-in-Ok-clause-offers
returns-in_ok-emit-in-Ok-clause-offers c = (
  λ s stands. sym (c.in-Ok.ensures.takes s stands),
  quietly c.args.self.now.route (table.Send c.args.payload.now) c.args.now.0 c.args.self.now.link c.send.new.self c.emit.new.self _ _ c.in-Ok.ensures.does c.in-Ok.ensures.quiet c.in_ok-emit-in-Ok.ensures.rest c.in_ok-emit-in-Ok.ensures.frames,
)
