use Rattle.link_table.proofs.Tables.{to_core}
use Rattle.link_table.proofs.table.LinkTable.is_called.Goals as goal

pub returns : goal.returns
returns c = rw (← c.self.view_is) (λ t s. c.is_called.ensures t (to_core c.self.inside.core c.self.inside.spent t s))
