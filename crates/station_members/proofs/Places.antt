-- Items at their places.
use Rattle.std.proofs.Common.{◌≡◌, ◌<◌, ◌≤◌, ◌∙◌, ℕ, zero, suc, refl, sym, ap, List, [], ◌∷◌, length, arith, get_or, set}
use Rattle.std.specs.Prelude.{slice_get, Some, None}
use Rattle.station_members.specs.Places.{at_place}

pub place_set : {A : Type 0} (xs : List A) (at : ℕ) (step : A → A) (before y : A) → at < length xs → before ≡ get_or xs at before → y ≡ step before
    → set xs at y ≡ at_place at step xs
place_set [] at step before y h here e = absurd (omega (arith, h))
place_set (x ∷ xs) zero step before y h here e = ap (λ z. z ∷ xs) (e ∙ ap step here)
place_set (x ∷ xs) (suc at) step before y h here e = ap (λ zs. x ∷ zs) (place_set xs at step before y (omega (arith, h)) here e)

pub place_past : {A : Type 0} (xs : List A) (at : ℕ) (step : A → A) → length xs ≤ at → at_place at step xs ≡ xs
place_past [] at step h = refl
place_past (x ∷ xs) zero step h = absurd (omega (arith, h))
place_past (x ∷ xs) (suc at) step h = ap (λ zs. x ∷ zs) (place_past xs at step (omega (arith, h)))

pub place_get : {A : Type 0} (xs : List A) (at : ℕ) (before : A) → at < length xs → before ≡ get_or xs at before → slice_get xs at ≡ Some before
place_get [] at before h here = absurd (omega (arith, h))
place_get (x ∷ xs) zero before h here = ap Some (sym here)
place_get (x ∷ xs) (suc at) before h here = place_get xs at before (omega (arith, h)) here

pub get_past : {A : Type 0} (xs : List A) (at : ℕ) → length xs ≤ at → slice_get xs at ≡ None
get_past [] at h = refl
get_past (x ∷ xs) zero h = absurd (omega (arith, h))
get_past (x ∷ xs) (suc at) h = get_past xs at (omega (arith, h))

pub place_length : {A : Type 0} (xs : List A) (at : ℕ) (step : A → A) → length (at_place at step xs) ≡ length xs
place_length [] at step = refl
place_length (x ∷ xs) zero step = refl
place_length (x ∷ xs) (suc at) step = ap suc (place_length xs at step)
