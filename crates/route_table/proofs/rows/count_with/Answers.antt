use Rattle.std.proofs.Common.{◌≡◌, ◌∙◌, sym, ap, true, false, rules}
use Rattle.std.specs.Prelude.{is_none}
use Rattle.std.specs.List.{list_any}
use Rattle.route_table.specs.Rows.{is_same_pair, is_lock_on, is_held_after, changed}
use Rattle.route_table.proofs.Changing.{pair_found, lock_found, no_lock}
use Rattle.route_table.proofs.Counting.{count_locked, count_more}
use Rattle.route_table.proofs.rows.count_with.Goals as goal

pub returns-in-Some-clause-value : goal.returns-in-Some-clause-value
returns-in-Some-clause-value c =
    let at = c.in-Some.ensures in
    let none : is_none c.index-rows-at.result.count ≡ true = search rules in
    let locked : list_any (is_lock_on c.args.report.now) c.args.rows.now ≡ true =
    lock_found c.args.report.now c.args.rows.now c.in-Some.at c.index-rows-at.result c.requires.stand.once at.0 (at.1 c.index-rows-at.result)
    ∙ (ap (λ r. is_none r.count) (sym c.index-rows-at.is) ∙ none)
    in
    count_locked c.args.minq c.args.report.now c.args.earlier.now c.args.rows.now c.args.count c.requires.earlier locked c.requires.value

pub returns-in-Some-2-clause-value : goal.returns-in-Some-2-clause-value
returns-in-Some-2-clause-value c =
    let at = c.in-Some-2.ensures in
    let none : is_none c.index-rows-at.result.count ≡ false = search rules in
    let free : list_any (is_lock_on c.args.report.now) c.args.rows.now ≡ false =
    lock_found c.args.report.now c.args.rows.now c.in-Some.at c.index-rows-at.result c.requires.stand.once c.in-Some.ensures.0 (c.in-Some.ensures.1 c.index-rows-at.result)
    ∙ (ap (λ r. is_none r.count) (sym c.index-rows-at.is) ∙ none)
    in
    let found = pair_found c.args.report.now c.args.rows.now c.in-Some-2.field-0 c.args.report.now at.0 (at.1 c.args.report.now) in
    c.changed.ensures.value
    ∙ (ap (λ b. changed c.args.count b c.is_good.result) (c.is_held_after.ensures ∙ ap (is_held_after c.args.minq c.args.report.now c.args.earlier.now) (sym found))
    ∙ (ap (changed c.args.count (is_held_after c.args.minq c.args.report.now c.args.earlier.now (list_any (is_same_pair c.args.report.now) c.args.rows.now))) c.is_good.ensures
    ∙ count_more c.args.minq c.args.report.now c.args.earlier.now c.args.rows.now c.args.count c.requires.stand c.requires.earlier free c.requires.value))

pub returns-in-None-clause-value : goal.returns-in-None-clause-value
returns-in-None-clause-value c =
    let none : list_any (is_same_pair c.args.report.now) c.args.rows.now ≡ false = c.in-None.ensures in
    let free = no_lock c.args.report.now c.args.rows.now none in
    c.changed-in-None.ensures.value
    ∙ (ap (λ b. changed c.args.count b c.is_good-in-None.result) (c.is_held_after-in-None.ensures ∙ ap (is_held_after c.args.minq c.args.report.now c.args.earlier.now) (sym none))
    ∙ (ap (changed c.args.count (is_held_after c.args.minq c.args.report.now c.args.earlier.now (list_any (is_same_pair c.args.report.now) c.args.rows.now))) c.is_good-in-None.ensures
    ∙ count_more c.args.minq c.args.report.now c.args.earlier.now c.args.rows.now c.args.count c.requires.stand c.requires.earlier free c.requires.value))
