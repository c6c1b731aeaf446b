use Rattle.std.proofs.Common.{◌∙◌, sym}
use Rattle.link_table.proofs.TextLifting.{room_same}
use Rattle.link_table.proofs.table.LinkTable.room.Goals as goal

pub returns : goal.returns
returns c = rw (← c.self.view_is) (λ t s. c.room.ensures ∙ sym (room_same c.self.inside.core.own c.args.peer.now c.self.inside.core.links.entries t s.links))
