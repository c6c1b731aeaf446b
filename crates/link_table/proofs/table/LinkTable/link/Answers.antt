use Rattle.std.proofs.Common.{Some, sym, subst}
use Rattle.link_table.specs.declared.link_of.LinkOf.{LinkOf}
use Rattle.link_table.specs.Standing.{LentStands}
use Rattle.link_table.specs.Table.{link_with}
use Rattle.link_table.proofs.Tables.{lent, lent_none}
use Rattle.link_table.proofs.table.LinkTable.link.Goals as goal

pub returns-in-Some : goal.returns-in-Some
returns-in-Some c = rw (← c.self.view_is) (λ t s.
    subst (λ (l : LinkOf). LentStands (Some l) (link_with c.args.peer.now t.links)) (sym c.link.ensures) (lent c.self.inside.core.own c.args.peer.now c.self.inside.core.links.entries t.links c.in-Some.entry.now s.links (sym c.in-Some.ensures.value)))

pub returns-in-None : goal.returns-in-None
returns-in-None c = rw (← c.self.view_is) (λ t s. lent_none c.self.inside.core.own c.args.peer.now c.self.inside.core.links.entries t.links s.links (sym c.in-None.ensures.value))
