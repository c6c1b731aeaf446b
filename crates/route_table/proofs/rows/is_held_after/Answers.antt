use Rattle.std.proofs.Common.{◌∙◌}
use Rattle.route_table.proofs.Counting.{held_step}
use Rattle.route_table.proofs.rows.is_held_after.Goals as goal

pub loop-report-preserved : goal.loop-report-preserved
loop-report-preserved c = held_step c.args.minq c.args.route.now c.args.reports.now c.loop-report.report-index c.report-item.result c.loop-report.held _ c.loop-report-test.true c.report-item.is c.is_held_with-held.ensures ∙ c.loop-report.invariant
