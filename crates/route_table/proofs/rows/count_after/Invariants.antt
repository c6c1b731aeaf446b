use Rattle.std.proofs.Common.{◌≡◌, ◌≤◌, ◌+◌, take, length}
use Rattle.route_table.specs.Rows as spec
use Rattle.route_table.proofs.rows.count_after.Given as goal

abbrev pub invariant-loop-at : goal.invariant-loop-at
invariant-loop-at l = record {
  told : l.count ≡ length (spec.after_reports l.minq (take l.at l.reports) l.rows);
  few : l.count ≤ length l.rows + l.at;
}
