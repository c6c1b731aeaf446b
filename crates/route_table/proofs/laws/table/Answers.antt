use Rattle.route_table.specs.Table.{usable}
use Rattle.route_table.proofs.Sorting.{in_order_moves}
use Rattle.route_table.proofs.Twice.{no_pair_twice, table_in_order}
use Rattle.route_table.proofs.laws.table.Goals as goal

pub returns-clause-once : goal.returns-clause-once
returns-clause-once c = no_pair_twice

pub returns-clause-order : goal.returns-clause-order
returns-clause-order c = table_in_order

pub returns-clause-rearranged : goal.returns-clause-rearranged
returns-clause-rearranged c = λ rules log. in_order_moves (usable rules log)
