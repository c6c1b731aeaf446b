use Rattle.std.proofs.Common.{◌≡◌, ℕ, ◌+◌, ◌-◌, ◌^◌, ◌≤◌, [], ◌∷◌, zero, suc, min, length, Bool, true, false, nat_lt, refl, ap, arith}
use Rattle.std.proofs.lemmas.List.{length-append}
use Rattle.std.specs.Prelude.{Some, None, if◌then◌else◌}
use Rattle.radio_base.specs.Causes.{Gains, Ticking, moment_at, moments_told, first_moments}

-- the first n moments are n
first_long : (start step n : ℕ) → length (first_moments start step n) ≡ n
first_long start step zero = refl
first_long start step (suc n) =
    let before : length (first_moments start step n) ≡ n = first_long start step n in
    omega (arith, before, length-append (first_moments start step n) (moment_at start step n ∷ []))

told_by : (start step n m : ℕ) (before after : Bool) → (after ≡ true → m ≡ suc n) → (after ≡ true → before ≡ true) → (after ≡ false → 2 ^ 64 - 1 ≤ suc n) → Gains (if before then Some (first_moments start step n) else None) (if after then Some (first_moments start step m) else None) (moment_at start step n ∷ [])
told_by start step n m true true one known ends = ap (first_moments start step) (one refl)
told_by start step n m true false one known ends = let many : length (first_moments start step n) ≡ n = first_long start step n in omega (arith, many, ends refl)
told_by start step n m false true one known ends = absurd (cc (known refl))
told_by start step n m false false one known ends = refl

-- the next moment is told behind those before it
pub moments_told-after : (c : Ticking) (calls moment : ℕ) → calls ≡ min (c.calls + 1) (2 ^ 64 - 1) → moment ≡ moment_at c.start c.step c.calls → Gains (moments_told c) (moments_told (record { start = c.start; step = c.step; calls = calls })) (moment ∷ [])
moments_told-after c calls moment counted exact = rw exact (told_by c.start c.step c.calls calls (nat_lt c.calls (2 ^ 64 - 1)) (nat_lt calls (2 ^ 64 - 1)) (λ t. grind (arith, t, counted)) (λ t. grind (arith, t, counted)) (λ f. grind (arith, f, counted)))
