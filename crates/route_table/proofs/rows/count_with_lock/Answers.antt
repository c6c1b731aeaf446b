use Rattle.std.proofs.Common.{◌≡◌, ◌∙◌, length, sym, ap, true, false, Some}
use Rattle.std.specs.List.{list_any}
use Rattle.route_table.specs.Places.{PairAt}
use Rattle.route_table.specs.Rows.{is_same_pair, changed}
use Rattle.route_table.proofs.Changing.{pair_found}
use Rattle.route_table.proofs.Counting.{lock_length}
use Rattle.route_table.proofs.rows.count_with_lock.Goals as goal

pub returns-in-Some-clause-value : goal.returns-in-Some-clause-value
returns-in-Some-clause-value c =
    let at : PairAt c.args.lock.now c.args.rows.now (Some c.in-Some.field-0) = rw c.in-Some.is at c.place_of_pair.ensures in
    let found : list_any (is_same_pair c.args.lock.now) c.args.rows.now ≡ true = pair_found c.args.lock.now c.args.rows.now c.in-Some.field-0 c.args.lock.now at.0 (at.1 c.args.lock.now) in
    sym (lock_length c.args.lock.now c.args.rows.now c.requires.stand.once ∙ ap (λ b. changed (length c.args.rows.now) b true) found)

pub returns-in-None-clause-value : goal.returns-in-None-clause-value
returns-in-None-clause-value c =
    let none : list_any (is_same_pair c.args.lock.now) c.args.rows.now ≡ false = rw c.in-None.is at c.place_of_pair.ensures in
    sym (lock_length c.args.lock.now c.args.rows.now c.requires.stand.once ∙ ap (λ b. changed (length c.args.rows.now) b true) none)
