use Rattle.std.proofs.Common.{◌≡◌, ◌++◌, ◌∙◌, [], ◌∷◌, ℕ, zero, suc, List, add-one, ap, arith, refl, sym, take}
use Rattle.std.specs.Prelude.{slice_get}
use Rattle.std.specs.Option.{option_to_list}
use Rattle.circuit_table.specs.CircuitSets.{held_ids}
use Rattle.circuit_table.specs.Pumps.{at_rest}
use Rattle.station_looks.proofs.nodes.ends_of.Goals as goal

take_next : {A : Type 0} (xs : List A) (n : ℕ) → take (suc n) xs ≡ take n xs ++ option_to_list (slice_get xs n)
take_next [] zero = refl
take_next [] (suc n) = refl
take_next (x ∷ xs) zero = refl
take_next (x ∷ xs) (suc n) = ap (λ ys. x ∷ ys) (take_next xs n)

pub loop-nth-preserved : goal.loop-nth-preserved
loop-nth-preserved c = λ n t.
    let ids = held_ids n.station.set.set.ends in
    c.in_ok-push_some.ensures
    ∙ (ap (λ xs. xs ++ option_to_list c.held.result) (c.loop-nth.invariant n t)
    ∙ (ap (λ o. take c.loop-nth.nth ids ++ option_to_list o) (c.held.ensures (at_rest n.station.set.set) (c.circuits.ensures.stands n t))
    ∙ sym (ap (λ k. take k ids) (add-one c.loop-nth.nth) ∙ take_next ids c.loop-nth.nth)))

pub returns : goal.returns
returns c = λ n t.
    let e : c.loop-nth.nth ≡ 64 = omega (arith, c.loop-nth-test.false, c.loop-nth.auto.nth-end) in
    c.loop-nth.invariant n t ∙ ap (λ k. take k (held_ids n.station.set.set.ends)) e
