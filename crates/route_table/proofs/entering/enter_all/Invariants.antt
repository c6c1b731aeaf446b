use Rattle.route_table.specs.Table.{all_placed}
use Rattle.route_table.proofs.Waiting.{Entering}
use Rattle.route_table.proofs.entering.enter_all.Given as goal

abbrev pub invariant-loop-gap : goal.invariant-loop-gap
invariant-loop-gap l = Entering l.routes l.rows (all_placed l.routes l.fn.rows.items) l.end l.gap
