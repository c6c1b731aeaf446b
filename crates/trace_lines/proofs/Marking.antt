-- Marks by number.
use Rattle.std.proofs.Common.{◌≡◌, ◌<◌, ℕ, zero, suc, Bool, true, false, ◌||◌, ◌==◌, List, [], ◌∷◌, ◌++◌, length, slice_set, refl, ap, sym, ◌∙◌, arith}
use Rattle.std.proofs.lemmas.Bool.Decides.{nat_tests}
use Rattle.std.specs.List.{list_any}
use Rattle.trace_lines.specs.Marks.{mark_at}

-- a mark that isn't set changes nothing
pub blank_more : (marks : List Bool) (line : ℕ) → mark_at (marks ++ false ∷ []) line ≡ mark_at marks line
blank_more [] zero = refl
blank_more [] (suc line) = refl
blank_more (m ∷ marks) zero = refl
blank_more (m ∷ marks) (suc line) = blank_more marks line

or_true : (b : Bool) → true ≡ b || true
or_true true = refl
or_true false = refl

or_false : (b : Bool) → b ≡ b || false
or_false true = refl
or_false false = refl

same_or : (m b c : Bool) → b ≡ c → m || b ≡ m || c
same_or m b c e = ap (λ x. m || x) e

pub mark_set : (marks : List Bool) (at line : ℕ) → at < length marks → mark_at (slice_set marks at true) line ≡ mark_at marks line || (at == line)
mark_set [] at line h = absurd (omega (arith, h))
mark_set (m ∷ marks) zero zero h = or_true m
mark_set (m ∷ marks) zero (suc line) h = let other : (zero == suc line) ≡ false = grind (arith, nat_tests) in rw other (or_false (mark_at marks line))
mark_set (m ∷ marks) (suc at) zero h = let other : (suc at == zero) ≡ false = grind (arith, nat_tests) in rw other (or_false m)
mark_set (m ∷ marks) (suc at) (suc line) h =
    let same : (at == line) ≡ (suc at == suc line) = grind (arith, nat_tests) in
    mark_set marks at line (omega (arith, h)) ∙ ap (λ b. mark_at marks line || b) same

or_assoc : (a b c : Bool) → (a || b) || c ≡ a || (b || c)
or_assoc true b c = refl
or_assoc false b c = refl

-- one more of a list
pub any_more : {A : Type 0} (f : A → Bool) (xs : List A) (x : A) → list_any f (xs ++ x ∷ []) ≡ list_any f xs || f x
any_more f [] x = sym (or_false (f x))
any_more f (y ∷ ys) x = ap (λ b. f y || b) (any_more f ys x) ∙ sym (or_assoc (f y) (list_any f ys) (f x))
