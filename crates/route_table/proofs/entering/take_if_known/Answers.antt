use Rattle.std.proofs.Common.{◌≡◌, ◌∙◌, sym, ap, subst, None, true, false, rules}
use Rattle.route_table.specs.Places.{PairAt, Stand}
use Rattle.route_table.specs.Rows.{with_report}
use Rattle.route_table.specs.Table.{is_good}
use Rattle.route_table.proofs.Changing.{report_stand}
use Rattle.route_table.proofs.Waiting.{entry_told, poor_dropped}
use Rattle.route_table.proofs.entering.take_if_known.Goals as goal

pub returns-in-Some-clause-stand : goal.returns-in-Some-clause-stand
returns-in-Some-clause-stand c = subst Stand (sym c.change.ensures.items) (report_stand c.args.minq c.route_over-report.result c.args.rows.now.items c.requires.stand)

pub returns-in-None-2-clause-items : goal.returns-in-None-2-clause-items
returns-in-None-2-clause-items c =
    let report = c.route_over-report.result in
    let rows = c.args.rows.now.items in
    let reported : c.is_reported.result ≡ true = search rules in
    let none : PairAt report rows None = subst (λ xs. PairAt report xs None) c.deref-2.ensures.value c.in-None-2.ensures in
    let poor : is_good c.args.minq report ≡ false = sym c.is_good.ensures ∙ c.if-is_good.false in
    let same = poor_dropped c.args.minq report rows none poor ∙ ap (λ r. with_report c.args.minq r rows) c.route_over-report.ensures in
    λ later. entry_told c.args.minq c.args.sender.now c.args.entry.now later rows rows (sym c.is_reported.ensures ∙ reported) same
