use Rattle.std.proofs.Common.{◌∙◌, sym, ap, subst, Some, None}
use Rattle.std.specs.Prelude.{remove}
use Rattle.route_table.specs.Places.{InRows, PairAt}
use Rattle.route_table.specs.Table.{placed}
use Rattle.route_table.proofs.Changing.{beside_found, beside_none, remove_rows}
use Rattle.route_table.proofs.rows.lock_in.Goals as goal

pub enter-requires-clause-order : goal.enter-requires-clause-order
enter-requires-clause-order c =
    let value = c.deref.ensures.value ∙ c.in_ok-reserve.ensures.items in
    let at : PairAt c.args.lock.now c.args.rows.now.items (Some c.in-Some.at) = subst (λ xs. PairAt c.args.lock.now xs (Some c.in-Some.at)) value c.in-Some.ensures in
    subst InRows (sym (c.remove.ensures.items ∙ ap (λ xs. remove xs c.in-Some.at) c.in_ok-reserve.ensures.items)) (remove_rows c.args.lock.now c.args.rows.now.items c.in-Some.at c.requires.stand at)

pub returns-in-Some-clause-ok : goal.returns-in-Some-clause-ok
returns-in-Some-clause-ok c =
    let value = c.deref.ensures.value ∙ c.in_ok-reserve.ensures.items in
    let at : PairAt c.args.lock.now c.args.rows.now.items (Some c.in-Some.at) = subst (λ xs. PairAt c.args.lock.now xs (Some c.in-Some.at)) value c.in-Some.ensures in
    c.enter.ensures.items
    ∙ ap (placed c.args.lock.now) (c.remove.ensures.items ∙ (ap (λ xs. remove xs c.in-Some.at) c.in_ok-reserve.ensures.items ∙ sym (beside_found c.args.lock.now c.args.rows.now.items c.in-Some.at c.args.lock.now c.requires.stand.once at.0 (at.1 c.args.lock.now))))

pub returns-in-None-clause-ok : goal.returns-in-None-clause-ok
returns-in-None-clause-ok c =
    let value = c.deref.ensures.value ∙ c.in_ok-reserve.ensures.items in
    let none : PairAt c.args.lock.now c.args.rows.now.items None = subst (λ xs. PairAt c.args.lock.now xs None) value c.in-None.ensures in
    c.enter-in-None.ensures.items ∙ ap (placed c.args.lock.now) (c.in_ok-reserve.ensures.items ∙ sym (beside_none c.args.lock.now c.args.rows.now.items none))
