use Rattle.std.proofs.Common.{◌∙◌, sym, ap, arith, length, take, add-one, refl}
use Rattle.route_table.specs.Rows.{after_reports, with_report}
use Rattle.route_table.proofs.Counting.{after_more}
use Rattle.route_table.proofs.rows.count_after.Goals as goal

pub loop-at-preserved : goal.loop-at-preserved
loop-at-preserved c = record {
  told =
      c.count_with-count.ensures.value
      ∙ ap length (ap (λ r. with_report c.args.minq r (after_reports c.args.minq (take c.loop-at.at c.args.reports.now) c.args.rows.now)) c.index-reports-at.is
      ∙ (sym (after_more c.args.minq c.args.reports.now c.args.rows.now c.loop-at.at c.index-reports-at.result c.loop-at-test.true) ∙ rw add-one refl));
  few = omega (arith, c.count_with-count.ensures.bound, c.loop-at.invariant.few);
}
