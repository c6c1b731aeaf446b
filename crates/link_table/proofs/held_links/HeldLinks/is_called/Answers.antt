use Rattle.std.proofs.Common.{sym}
use Rattle.link_table.proofs.Tables.{called_is, called_none}
use Rattle.link_table.proofs.held_links.HeldLinks.is_called.Goals as goal

pub returns-in-Some : goal.returns-in-Some
returns-in-Some c = called_is c.args.self.now c.args.peer.now c.in-Some.entry.now (sym c.in-Some.ensures.value)

pub returns-in-None : goal.returns-in-None
returns-in-None c = called_none c.args.self.now c.args.peer.now (sym c.in-None.ensures.value)
