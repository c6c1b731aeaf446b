use Rattle.std.proofs.Common.{◌≡◌, ◌∙◌, sym, ap, subst, Some, None, true}
use Rattle.std.specs.List.{list_any}
use Rattle.route_table.specs.Places.{PairAt, AreWaiting}
use Rattle.route_table.specs.Table.{all_placed}
use Rattle.route_table.specs.Rows.{is_same_pair}
use Rattle.route_table.proofs.Changing.{pair_found}
use Rattle.route_table.proofs.Waiting.{known_items, known_waiting, kept_items, kept_waiting}
use Rattle.route_table.proofs.entering.take_or_keep.Goals as goal
use Rattle.route_table.proofs.entering.take_or_keep.Goals.{In-Some}

found : (c : In-Some) → list_any (is_same_pair c.args.report.now) c.args.rows.now.items ≡ true
found c =
    let at : PairAt c.args.report.now c.args.rows.now.items (Some c.in-Some.at) = subst (λ xs. PairAt c.args.report.now xs (Some c.in-Some.at)) c.deref-2.ensures.value c.in-Some.ensures in
    pair_found c.args.report.now c.args.rows.now.items c.in-Some.at c.args.report.now at.0 (at.1 c.args.report.now)

pub returns-in-Some-clause-items : goal.returns-in-Some-clause-items
returns-in-Some-clause-items c =
    ap (all_placed c.args.waiting.now.items) c.change.ensures.items
    ∙ known_items c.args.minq c.args.report.now c.args.waiting.now.items c.args.rows.now.items c.requires.waiting (found (goal.at.returns-in-Some-clause-items c).In-Some)

pub returns-in-Some-clause-waiting : goal.returns-in-Some-clause-waiting
returns-in-Some-clause-waiting c =
    subst (AreWaiting c.args.waiting.now.items) (sym c.change.ensures.items)
    (known_waiting c.args.minq c.args.report.now c.args.waiting.now.items c.args.rows.now.items c.requires.waiting (found (goal.at.returns-in-Some-clause-waiting c).In-Some))

pub returns-in-None-clause-items : goal.returns-in-None-clause-items
returns-in-None-clause-items c =
    let none : PairAt c.args.report.now c.args.rows.now.items None = subst (λ xs. PairAt c.args.report.now xs None) c.deref-2.ensures.value c.in-None.ensures in
    ap (λ xs. all_placed xs c.args.rows.now.items) c.keep.ensures.items
    ∙ kept_items c.args.minq c.args.report.now c.args.waiting.now.items c.args.rows.now.items c.requires.waiting none

pub returns-in-None-clause-waiting : goal.returns-in-None-clause-waiting
returns-in-None-clause-waiting c =
    let none : PairAt c.args.report.now c.args.rows.now.items None = subst (λ xs. PairAt c.args.report.now xs None) c.deref-2.ensures.value c.in-None.ensures in
    subst (λ xs. AreWaiting xs c.args.rows.now.items) (sym c.keep.ensures.items)
    (kept_waiting c.args.minq c.args.report.now c.args.waiting.now.items c.args.rows.now.items c.requires.counted c.requires.waiting none)
