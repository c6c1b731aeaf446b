use Rattle.std.proofs.Common.{◌∙◌}
use Rattle.link_table.proofs.Links.{keys_stand}
use Rattle.link_table.proofs.table.LinkTable.peers.Goals as goal

pub returns : goal.returns
returns c = rw (← c.self.view_is) (λ t s. c.peers.ensures ∙ keys_stand c.self.inside.core.own c.self.inside.core.links.entries t.links s.links)
