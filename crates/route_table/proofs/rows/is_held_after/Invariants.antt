use Rattle.std.proofs.Common.{◌≡◌, drop}
use Rattle.route_table.specs.Rows as spec
use Rattle.route_table.proofs.rows.is_held_after.Given as goal

abbrev pub invariant-loop-report : goal.invariant-loop-report
invariant-loop-report l = spec.is_held_after l.minq l.route (drop l.report-index l.reports) l.held ≡ spec.is_held_after l.minq l.route l.reports l.fn.held
