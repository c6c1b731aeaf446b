use Rattle.std.proofs.Common.{◌≡◌, ◌∙◌, sym, ap, subst, true, false, cond}
use Rattle.std.specs.Prelude.{insert}
use Rattle.route_table.specs.Places.{InRows, place_among}
use Rattle.route_table.specs.Table.{placed, is_good}
use Rattle.route_table.specs.Rows.{stays_beside, beside}
use Rattle.route_table.proofs.Sorting.{filter_rows}
use Rattle.route_table.proofs.Placing.{placed-insert}
use Rattle.route_table.proofs.Waiting.{kept_where}
use Rattle.route_table.proofs.entering.keep.Goals as goal

pub place_of-at-requires : goal.place_of-at-requires
place_of-at-requires c =
    subst InRows (sym (c.deref.ensures.0 ∙ c.drop_pair.ensures.items)) (filter_rows (stays_beside c.args.report.now) c.args.waiting.now.items c.requires.stand.order)

pub returns-then-is_good-clause-items : goal.returns-then-is_good-clause-items
returns-then-is_good-clause-items c =
    let good : is_good c.args.minq c.args.report.now ≡ true = sym c.is_good.ensures ∙ c.if-is_good.true in
    let left = c.drop_pair.ensures.items in
    let at = c.place_of-at.ensures.place ∙ ap (place_among c.args.report.now) (c.deref.ensures.0 ∙ left) in
    c.insert.ensures.items
    ∙ (ap (λ xs. insert xs c.place_of-at.result c.args.report.now) left
    ∙ (ap (λ n. insert (beside c.args.report.now c.args.waiting.now.items) n c.args.report.now) at
    ∙ (sym (placed-insert c.args.report.now (beside c.args.report.now c.args.waiting.now.items))
    ∙ sym (kept_where c.args.minq c.args.report.now c.args.waiting.now.items c.requires.counted ∙ ap (λ b. cond b (placed c.args.report.now (beside c.args.report.now c.args.waiting.now.items)) (beside c.args.report.now c.args.waiting.now.items)) good))))

pub returns-else-is_good-clause-items : goal.returns-else-is_good-clause-items
returns-else-is_good-clause-items c =
    let bad : is_good c.args.minq c.args.report.now ≡ false = sym c.is_good.ensures ∙ c.if-is_good.false in
    c.drop_pair.ensures.items
    ∙ sym (kept_where c.args.minq c.args.report.now c.args.waiting.now.items c.requires.counted ∙ ap (λ b. cond b (placed c.args.report.now (beside c.args.report.now c.args.waiting.now.items)) (beside c.args.report.now c.args.waiting.now.items)) bad)
