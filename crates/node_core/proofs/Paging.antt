-- The frames of a round, one after another.
use Rattle.std.proofs.Common.{◌≡◌, ◌+◌, ◌++◌, ◌∙◌, ℕ, zero, suc, sym, ap, [], ◌∷◌, map, arith}
use Rattle.std.specs.List.{range_with_len}
use Rattle.std.proofs.lemmas.List.{map-append}

pub range_more : (a n : ℕ) → range_with_len a (n + 1) ≡ range_with_len a n ++ (a + n) ∷ []
range_more a zero = ap (λ k. k ∷ []) (omega arith)
range_more a (suc n) =
    let next : suc n + 1 ≡ suc (n + 1) = omega arith in
    let sum : (a + 1) + n ≡ a + suc n = omega arith in
    rw next (ap (λ ks. a ∷ ks) (range_more (a + 1) n ∙ ap (λ k. range_with_len (a + 1) n ++ k ∷ []) sum))

pub map_more : {B : Type 0} (f : ℕ → B) (n : ℕ) → map f (range_with_len 0 n) ++ f n ∷ [] ≡ map f (range_with_len 0 (n + 1))
map_more f n =
    let sum : 0 + n ≡ n = omega arith in
    sym (ap (map f) (range_more 0 n ∙ ap (λ k. range_with_len 0 n ++ k ∷ []) sum) ∙ map-append f (range_with_len 0 n) (n ∷ []))
