use Rattle.std.proofs.Common.{◌≡◌, ◌∙◌, sym, subst, None, true, false}
use Rattle.route_table.specs.Places.{PairAt, Stand}
use Rattle.route_table.specs.Table.{is_good}
use Rattle.route_table.proofs.Changing.{report_stand}
use Rattle.route_table.proofs.Waiting.{new_entered, poor_dropped}
use Rattle.route_table.proofs.entering.take_or_enter.Goals as goal

pub returns-in-Some-clause-stand : goal.returns-in-Some-clause-stand
returns-in-Some-clause-stand c = subst Stand (sym c.change.ensures.items) (report_stand c.args.minq c.args.report.now c.args.rows.now.items c.requires.stand)

pub returns-in-None-clause-items : goal.returns-in-None-clause-items
returns-in-None-clause-items c =
    let none : PairAt c.args.report.now c.args.rows.now.items None = subst (λ xs. PairAt c.args.report.now xs None) c.deref.ensures.value c.in-None.ensures in
    let good : is_good c.args.minq c.args.report.now ≡ true = sym c.is_good.ensures ∙ c.if-is_good.true in
    c.enter.ensures.items ∙ new_entered c.args.minq c.args.report.now c.args.rows.now.items none good

pub returns-in-None-clause-stand : goal.returns-in-None-clause-stand
returns-in-None-clause-stand c =
    let none : PairAt c.args.report.now c.args.rows.now.items None = subst (λ xs. PairAt c.args.report.now xs None) c.deref.ensures.value c.in-None.ensures in
    let good : is_good c.args.minq c.args.report.now ≡ true = sym c.is_good.ensures ∙ c.if-is_good.true in
    let items = c.enter.ensures.items ∙ new_entered c.args.minq c.args.report.now c.args.rows.now.items none good in
    subst Stand (sym items) (report_stand c.args.minq c.args.report.now c.args.rows.now.items c.requires.stand)

pub returns-else-is_good-clause-items : goal.returns-else-is_good-clause-items
returns-else-is_good-clause-items c =
    let none : PairAt c.args.report.now c.args.rows.now.items None = subst (λ xs. PairAt c.args.report.now xs None) c.deref.ensures.value c.in-None.ensures in
    let poor : is_good c.args.minq c.args.report.now ≡ false = sym c.is_good.ensures ∙ c.if-is_good.false in
    poor_dropped c.args.minq c.args.report.now c.args.rows.now.items none poor
