-- Octets that are the same up to a place.
use Rattle.std.proofs.Common.{◌≡◌, ◌≤◌, ◌<◌, ◌+◌, ◌++◌, ◌∙◌, ℕ, zero, suc, refl, sym, ap, List, [], ◌∷◌, length, take, drop, get_or, arith}
use Rattle.std.specs.Prelude.{slice_get}
use Rattle.std.proofs.lemmas.List.{take-take, take-append-le, drop-take, get_or-take, length-append, length-take}

-- the first k octets of the other are those, and are there
pub record Kept (k : ℕ) (bytes other : List ℕ) : Type 0 where
  pub same : take k other ≡ take k bytes
  pub long : k ≤ length other

pub kept_less : (m k : ℕ) (bytes other : List ℕ) → m ≤ k → Kept k bytes other → Kept m bytes other
kept_less m k bytes other h kept = record {
  same = sym (take-take m k other h) ∙ (ap (take m) kept.same ∙ take-take m k bytes h);
  long = omega (arith, h, kept.long);
}

pub kept_of : (k : ℕ) (bytes more : List ℕ) → k ≤ length bytes → Kept k bytes (take k bytes ++ more)
kept_of k bytes more h =
    let len : length (take k bytes) ≡ k = omega (arith, length-take k bytes, h) in
    record {
      same = take-append-le k (take k bytes) more (omega (arith, len)) ∙ take-take k k bytes (omega arith);
      long = omega (arith, length-append (take k bytes) more, len);
    }

get_taken : (i k : ℕ) (os : List ℕ) → i < k → slice_get (take k os) i ≡ slice_get os i
get_taken i zero os h = absurd (omega (arith, h))
get_taken i (suc k) [] h = refl
get_taken zero (suc k) (o ∷ os) h = refl
get_taken (suc i) (suc k) (o ∷ os) h = get_taken i k os (omega (arith, h))

pub kept_get : (i k : ℕ) (bytes other : List ℕ) → i < k → Kept k bytes other → slice_get other i ≡ slice_get bytes i
kept_get i k bytes other h kept = sym (get_taken i k other h) ∙ (ap (λ os. slice_get os i) kept.same ∙ get_taken i k bytes h)

pub kept_get_or : (i k : ℕ) (bytes other : List ℕ) → i < k → Kept k bytes other → get_or other i 0 ≡ get_or bytes i 0
kept_get_or i k bytes other h kept = sym (get_or-take k other i 0 h) ∙ (ap (λ os. get_or os i 0) kept.same ∙ get_or-take k bytes i 0 h)

pub kept_drop : (at n : ℕ) (bytes other : List ℕ) → Kept (at + n) bytes other → take n (drop at other) ≡ take n (drop at bytes)
kept_drop at n bytes other kept = sym (drop-take at n other) ∙ (ap (drop at) kept.same ∙ drop-take at n bytes)
