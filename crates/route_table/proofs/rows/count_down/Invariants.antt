use Rattle.std.proofs.Common.{◌≡◌, ◌++◌, map, take, drop}
use Rattle.route_table.specs.Rows as spec
use Rattle.route_table.proofs.rows.count_down.Given as goal

abbrev pub invariant-loop-row : goal.invariant-loop-row
invariant-loop-row l = l.row-items ≡ map spec.older (take l.row-index l.fn.rows.items) ++ drop l.row-index l.fn.rows.items
