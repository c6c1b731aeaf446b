use Rattle.std.proofs.Common.{◌≡◌, ◌∙◌, sym, ap, subst, false, rules}
use Rattle.std.specs.Prelude.{is_none}
use Rattle.route_table.specs.Places.{InRows, FitsAt}
use Rattle.route_table.specs.Table.{placed}
use Rattle.route_table.proofs.Changing.{change_bad, change_moved, change_same, remove_rows}
use Rattle.route_table.proofs.rows.change.Goals as goal

pub enter-requires-clause-order : goal.enter-requires-clause-order
enter-requires-clause-order c =
    subst InRows (sym c.remove-else-fits_at.ensures.items) (remove_rows c.args.report.now c.args.rows.now.items c.args.at c.requires.stand c.requires.pair)

pub returns-then-not-is_good-clause-items : goal.returns-then-not-is_good-clause-items
returns-then-not-is_good-clause-items c =
    let counted : is_none c.index.result.now.count ≡ false = search rules in
    c.remove.ensures.items
    ∙ change_bad c.args.minq c.args.report.now c.args.rows.now.items c.args.at c.index.result.now c.requires.stand c.requires.pair c.index.ensures counted (sym c.is_good.ensures ∙ c.if-not-is_good.true)

pub returns-then-fits_at-clause-items : goal.returns-then-fits_at-clause-items
returns-then-fits_at-clause-items c =
    let counted : is_none c.index.result.now.count ≡ false = search rules in
    change_same c.args.minq c.args.report.now c.args.rows.now.items c.args.at c.index.result.now c.requires.stand c.requires.pair c.index.ensures counted (sym c.is_good.ensures ∙ c.if-not-is_good.false) (subst (λ xs. FitsAt c.args.report.now xs c.args.at) c.deref.ensures.value (c.fits_at.ensures c.if-fits_at.true))

pub returns-else-fits_at-clause-items : goal.returns-else-fits_at-clause-items
returns-else-fits_at-clause-items c =
    let counted : is_none c.index.result.now.count ≡ false = search rules in
    c.enter.ensures.items
    ∙ (ap (placed c.args.report.now) c.remove-else-fits_at.ensures.items
    ∙ change_moved c.args.minq c.args.report.now c.args.rows.now.items c.args.at c.index.result.now c.requires.stand c.requires.pair c.index.ensures counted (sym c.is_good.ensures ∙ c.if-not-is_good.false))
