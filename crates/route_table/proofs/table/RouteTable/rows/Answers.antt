use Rattle.std.proofs.Common.{◌∙◌, sym, subst}
use Rattle.route_table.specs.Table.{AreInOrder}
use Rattle.route_table.proofs.Sorting.{pairs_from_rows}
use Rattle.route_table.proofs.Standing.{table_is}
use Rattle.route_table.proofs.table.RouteTable.rows.Goals as goal

pub returns-clause-usable : goal.returns-clause-usable
returns-clause-usable c = rw (← c.self.view_is) (λ log s. c.deref.ensures.value ∙ table_is c.self.inside.own c.self.inside.rules c.self.inside.rows.items log c.self.invariant.1.1 s)

pub returns-clause-order : goal.returns-clause-order
returns-clause-order c = subst AreInOrder (sym c.deref.ensures.value) (pairs_from_rows c.self.inside.rows.items c.self.invariant.1.1.order)
