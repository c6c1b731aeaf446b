-- Lists of which something holds of all.
use Rattle.std.proofs.Common.{◌≡◌, ◌∙◌, ◌<◌, ℕ, zero, suc, refl, sym, ap, subst, arith, List, [], ◌∷◌, ◌++◌, length, filter, Bool, true, false, cond}
use Rattle.std.specs.Prelude.{◌≢◌, nat_eq, slice_get, slice_index_or, slice_set, Contains, Some}
use Rattle.std.specs.List.{AllByRecursion}
use Rattle.net_model.specs.declared.air.Aired.{Aired}
use Rattle.net_model.specs.World.{settled_at}
use Rattle.net_model.proofs.Changing.{get_set, get_other}

pub settled_all : (P : List ℕ → Type 0) (at : ℕ) (air : List Aired) → AllByRecursion (λ (f : Aired). P f.octets.items) air → AllByRecursion (λ (f : Aired). P f.octets.items) (settled_at at air)
settled_all P at [] a = tt
settled_all P zero (f ∷ air) a = a
settled_all P (suc at) (f ∷ air) a = (a.0, settled_all P at air a.1)

pub both : {A : Type 0} (P : A → Type 0) (xs ys : List A) → AllByRecursion P xs → AllByRecursion P ys → AllByRecursion P (xs ++ ys)
both P [] ys a b = b
both P (x ∷ xs) ys a b = (a.0, both P xs ys a.1 b)

pub front : {A : Type 0} (P : A → Type 0) (xs ys : List A) → AllByRecursion P (xs ++ ys) → AllByRecursion P xs
front P [] ys a = tt
front P (x ∷ xs) ys a = (a.0, front P xs ys a.1)

pub every : {A : Type 0} (P Q : A → Type 0) → ((x : A) → P x → Q x) → (xs : List A) → AllByRecursion P xs → AllByRecursion Q xs
every P Q f [] a = tt
every P Q f (x ∷ xs) a = (f x a.0, every P Q f xs a.1)

pub one_of : {A : Type 0} (P : A → Type 0) (xs : List A) (at : ℕ) (x : A) → AllByRecursion P xs → slice_get xs at ≡ Some x → P x
one_of P [] at x a e = absurd (cc e)
one_of P (y ∷ xs) zero x a e = let same : y ≡ x = cc e in subst P same a.0
one_of P (y ∷ xs) (suc at) x a e = one_of P xs at x a.1 e

pub one_in : {A : Type 0} (P : A → Type 0) (xs : List A) (x : A) → AllByRecursion P xs → Contains xs x → P x
one_in P [] x a c = let low = c.1 in absurd (omega (arith, low))
one_in {A} P (y ∷ xs) x a c = by c.0 c.1 c.2 (one_in P xs x a.1)
  where
    by : (k : ℕ) → k < length (y ∷ xs) → slice_index_or (y ∷ xs) k x ≡ x → (Contains xs x → P x) → P x
    by zero low is rest = subst P is a.0
    by (suc k) low is rest = rest (k, omega (arith, low), is)

pub kept_by : {A : Type 0} (P : A → Type 0) (test : A → Bool) (xs : List A) → AllByRecursion P xs → AllByRecursion P (filter test xs)
kept_by P test [] a = tt
kept_by {A} P test (x ∷ xs) a = by (test x) (kept_by P test xs a.1)
  where
    by : (b : Bool) → AllByRecursion P (filter test xs) → AllByRecursion P (cond b (x ∷ filter test xs) (filter test xs))
    by true rest = (a.0, rest)
    by false rest = rest

-- something holds of all of them, where one was changed
pub put_each : {A : Type 0} (F : ℕ → A → Type 0) (xs : List A) (at : ℕ) (x y : A) → slice_get xs at ≡ Some x → ((k : ℕ) (z : A) → slice_get xs k ≡ Some z → F k z) → F at y
    → (k : ℕ) (z : A) → slice_get (slice_set xs at y) k ≡ Some z → F k z
put_each {A} F xs at x y e all mine k z f = by (nat_eq at k) refl
  where
    by : (b : Bool) → nat_eq at k ≡ b → F k z
    by true g =
        let same : at ≡ k = grind (arith, g) in
        let is : y ≡ z = (let some : Some y ≡ Some z = sym (get_set xs at x y e) ∙ (ap (slice_get (slice_set xs at y)) same ∙ f) in cc some) in
        subst (λ n. F n z) same (subst (F at) is mine)
    by false g =
        let apart : at ≢ k = λ same. (let bad : ⊥ = grind (arith, g, same) in bad) in
        all k z (sym (get_other xs at k y apart) ∙ f)
