use Rattle.std.proofs.Common.{◌∙◌}
use Rattle.link_table.proofs.TextLifting.{peers_same}
use Rattle.link_table.proofs.table.LinkTable.texts.Goals as goal

pub returns : goal.returns
returns c = rw (← c.self.view_is) (λ t s. c.texts.ensures ∙ peers_same c.self.inside.core.own c.self.inside.core.links.entries t.links s.links)
