use Rattle.std.proofs.Common.{◌≡◌, ◌≤◌, ◌++◌, length, drop, filter}
use Rattle.route_table.specs.Table as table
use Rattle.route_table.proofs.ranking.best_of.Given as goal

abbrev pub invariant-loop-row : goal.invariant-loop-row
invariant-loop-row l = record {
  told : l.best.items ++ filter (table.is_to l.dest) (drop l.row-index l.row-items) ≡ filter (table.is_to l.dest) l.rows;
  few : length l.best.items ≤ 3;
}
