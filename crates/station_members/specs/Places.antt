-- Lists by place.
use Rattle.std.specs.Prelude.{ℕ, zero, suc, List, [], ◌∷◌}

-- the list, where this is done with the item at a place
abbrev pub at_place : {A : Type 0} → ℕ → (A → A) → List A → List A
at_place at step [] = []
at_place zero step (x ∷ xs) = step x ∷ xs
at_place (suc at) step (x ∷ xs) = x ∷ at_place at step xs
