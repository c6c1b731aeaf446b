use Rattle.std.proofs.Common.{◌≤◌, ◌∙◌, ◌++◌, ap, sym, subst, append_assoc, length, rules}
use Rattle.std.specs.Prelude.{flat_map}
use Rattle.route_table.specs.Places.{InRows}
use Rattle.route_table.specs.Rows.{best_of, best_of_first, calls_of}
use Rattle.route_table.proofs.Groups.{best_step, rest_rows}
use Rattle.route_table.proofs.listing.best_of_each.Goals as goal

pub loop-rest-preserved : goal.loop-rest-preserved
loop-rest-preserved c =
    let some : 1 ≤ length c.loop-rest.rest.now = search rules in
    record {
      told =
          ap (λ xs. xs ++ flat_map (best_of c.behind-rest.result.now) (calls_of c.behind-rest.result.now)) (c.in_ok-extend_from_slice.ensures.items ∙ ap (λ ys. c.loop-rest.best.items ++ ys) c.best_of_first.ensures)
          ∙ (append_assoc c.loop-rest.best.items _ _
          ∙ (ap (λ xs. c.loop-rest.best.items ++ (best_of_first c.loop-rest.rest.now ++ flat_map (best_of xs) (calls_of xs))) c.behind-rest.ensures.rest
          ∙ (ap (λ xs. c.loop-rest.best.items ++ xs) (sym (best_step c.loop-rest.rest.now c.loop-rest.invariant.order some)) ∙ c.loop-rest.invariant.told)));
      order = subst InRows (sym c.behind-rest.ensures.rest) (rest_rows c.loop-rest.rest.now c.loop-rest.invariant.order);
    }
