-- Items of a list by their places.
use Rattle.std.proofs.Common.{◌≡◌, ◌<◌, ℕ, zero, suc, List, [], ◌∷◌, refl, length, slice_get, get_or, arith}
use Rattle.std.specs.Prelude.{Some}

pub slice_at : {A : Type 0} (xs : List A) (at : ℕ) (d : A) → at < length xs → slice_get xs at ≡ Some (get_or xs at d)
slice_at [] at d h = absurd (omega (arith, h))
slice_at (x ∷ xs) zero d h = refl
slice_at (x ∷ xs) (suc at) d h = slice_at xs at d (omega (arith, h))
