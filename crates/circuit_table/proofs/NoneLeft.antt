-- Where there is no first one, there is none.
use Rattle.std.proofs.Common.{◌≡◌, ◌<◌, List, [], ◌∷◌, length, refl, arith, true, false}

pub none_left : {A : Type 0} → (xs : List A) → (0 < length xs → false ≡ true) → xs ≡ []
none_left [] f = refl
none_left (x ∷ xs) f = let h : false ≡ true = f (omega arith) in grind (arith, h)
