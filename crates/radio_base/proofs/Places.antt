-- Places of numbers that stand on the air.
use Rattle.std.proofs.Common.{◌≡◌, ℕ, ◌+◌, ◌-◌, ◌*◌, ◌/◌, ◌%◌, ◌<◌, ◌≤◌, Some, None, inl, inr, ap, sym, ◌∙◌, arith, ◌⊎◌}
use Rattle.std.proofs.lemmas.Bool.Decides.{nat_tests}
use Rattle.std.proofs.lemmas.Bool.{cases_order}
use Rattle.std.proofs.lemmas.Nat.{mul-le}
use Rattle.std.proofs.Math.Nat.{mod-eq_of_lt, mod-add-mod, mul-add-mod_self_left}
use Rattle.radio_base.specs.Modulus.{IsDistance, IsPlace, steps_to, place_of, OnePlace}

product_suc : (k q p : ℕ) → q < p → k * q + k ≤ k * p
product_suc k q p l =
    let m : k * (q + 1) ≤ k * p = mul-le k (q + 1) k p (omega arith) (omega (arith, l)) in
    omega (arith, m)

near_by : (a b size : ℕ) → 0 < size → a % size ≡ b % size → a < b + size → b < a + size →
    (a / size ≡ b / size) ⊎ ((a / size < b / size) ⊎ (b / size < a / size)) → a ≡ b
near_by a b size z e l r (inl q) = omega (arith, z, e, ap (λ k. size * k) q)
near_by a b size z e l r (inr (inl q)) = absurd (omega (arith, z, e, l, r, product_suc size (a / size) (b / size) q))
near_by a b size z e l r (inr (inr q)) = absurd (omega (arith, z, e, l, r, product_suc size (b / size) (a / size) q))

-- two numbers less than size apart that are one on the air are one
pub near_equal : (a b size : ℕ) → 0 < size → a % size ≡ b % size → a < b + size → b < a + size → a ≡ b
near_equal a b size z e l r = near_by a b size z e l r (cases_order (a / size) (b / size))

pub one_place : OnePlace
one_place size n base len x y some fits p q =
    near_equal x y size some (p.wire ∙ sym q.wire)
    (omega (arith, p.from, p.below, q.from, q.below, fits)) (omega (arith, p.from, p.below, q.from, q.below, fits))

-- from base on, d steps lead to base + d
steps_is : (base d size : ℕ) → 0 < size → d < size → steps_to size ((base + d) % size) base ≡ d
steps_is base d size z l =
    let b : base % size < size = omega (arith, z) in
    let e : (base + d) + (size - base % size) ≡ size * (base / size + 1) + d = omega (arith, z) in
    mod-add-mod (base + d) size (size - base % size)
    ∙ (ap (λ k. k % size) e ∙ (mul-add-mod_self_left size (base / size + 1) d ∙ mod-eq_of_lt l))

-- what the distance d from base to n says of places
pub record Placed (size n base len d : ℕ) : Type 0 where
  pub steps : steps_to size n base ≡ d
  pub found : d < len → IsPlace size n base len (base + d)
  pub exact : d < len → place_of size n base len ≡ Some (base + d)
  pub absent : len ≤ d → place_of size n base len ≡ None
  pub none : len ≤ d → (x : ℕ) → IsPlace size n base len x → ⊥

pub placed : (size n base len d : ℕ) → 0 < size → n < size → d < size → IsDistance size (base % size) n d → Placed size n base len d
placed size n base len d some small below h =
    let meets : (base + d) % size ≡ n = sym (mod-add-mod base size d) ∙ h.meets in
    let steps : steps_to size n base ≡ d = ap (λ k. steps_to size k base) (sym meets) ∙ steps_is base d size some below in
    record {
      steps = steps;
      found = λ l. record { from = omega arith; below = omega (arith, l); wire = meets };
      exact = λ l. rw steps (grind (arith, nat_tests, l, small));
      absent = λ l. rw steps (grind (arith, nat_tests, l));
      none = λ l x p.
          let least : d ≤ x - base = h.least (x - base) (mod-add-mod base size (x - base) ∙ ap (λ k. k % size) (omega (arith, p.from)) ∙ p.wire) in
          omega (arith, least, l, p.from, p.below);
    }
