use Rattle.std.proofs.Common.{◌≡◌, ◌≤◌, ◌+◌, ◌++◌, length, drop}
use Rattle.route_table.specs.Rows as rows
use Rattle.route_table.proofs.reports.reports_of.Given as goal

abbrev pub invariant-loop-entry : goal.invariant-loop-entry
invariant-loop-entry l = record {
  told : l.reports.items ++ rows.reported_by l.sender (drop l.entry-index l.entries) ≡ rows.reported l.sender l.entries;
  room : length l.reports.items ≤ l.entry-index + 1;
}
