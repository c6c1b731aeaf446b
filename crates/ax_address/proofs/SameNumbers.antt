-- `==` on numbers: of a number with itself, and of two either way round.
use Rattle.std.proofs.Common.{◌≡◌, ◌==◌, ℕ, refl, sym, Bool, true, false}
use Rattle.std.specs.Prelude.{nat_eq}
use Rattle.std.proofs.lemmas.Bool.{eqb-true, eq-eqb}

pub nat_refl : (n : ℕ) → nat_eq n n ≡ true
nat_refl n = eq-eqb n n refl

pub nat_case : (a b : ℕ) (s t : Bool) → (a == b) ≡ s → (b == a) ≡ t → s ≡ t
nat_case a b true true e f = refl
nat_case a b true false e f = let k = eq-eqb b a (sym (eqb-true a b e)) in absurd (cc)
nat_case a b false true e f = let k = eq-eqb a b (sym (eqb-true b a f)) in absurd (cc)
nat_case a b false false e f = refl

pub nat_turned : (a b : ℕ) → nat_eq a b ≡ nat_eq b a
nat_turned a b = nat_case a b (a == b) (b == a) refl refl

pub nat_apart : (a b : ℕ) → nat_eq a b ≡ false → nat_eq b a ≡ false
nat_apart a b e = sym (nat_case a b false (b == a) e refl)
