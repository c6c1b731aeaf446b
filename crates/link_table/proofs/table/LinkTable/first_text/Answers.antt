use Rattle.std.proofs.Common.{◌∙◌, ap, slice_get}
use Rattle.link_table.proofs.TextLifting.{peers_same}
use Rattle.link_table.proofs.table.LinkTable.first_text.Goals as goal

pub returns : goal.returns
returns c = rw (← c.self.view_is) (λ t s. c.first_text.ensures ∙ ap (λ xs. slice_get xs 0) (peers_same c.self.inside.core.own c.self.inside.core.links.entries t.links s.links))
