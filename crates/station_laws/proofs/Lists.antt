-- Lists by place.
use Rattle.std.proofs.Common.{◌≡◌, ◌≢◌, ◌∙◌, ◌-◌, ◌<◌, ◌≤◌, ℕ, zero, suc, refl, sym, ap, arith, List, [], ◌∷◌, ◌++◌, length, map, drop}
use Rattle.std.specs.Prelude.{slice_get, slice_set, Some, None}
use Rattle.std.specs.Option.{option_map}
use Rattle.std.specs.List.{AllByRecursion}
use Rattle.station_members.specs.Places.{at_place}

-- ---- what stands at a place

pub get_front : {A : Type 0} (xs ys : List A) (n : ℕ) → n < length xs → slice_get (xs ++ ys) n ≡ slice_get xs n
get_front [] ys n low = absurd (omega (arith, low))
get_front (x ∷ xs) ys zero low = refl
get_front (x ∷ xs) ys (suc n) low = get_front xs ys n (omega (arith, low))

pub get_behind : {A : Type 0} (xs ys : List A) (n : ℕ) → length xs ≤ n → slice_get (xs ++ ys) n ≡ slice_get ys (n - length xs)
get_behind [] ys n high = ap (slice_get ys) (let same : n ≡ n - 0 = omega arith in same)
get_behind (x ∷ xs) ys zero high = absurd (omega (arith, high))
get_behind (x ∷ xs) ys (suc n) high =
    get_behind xs ys n (omega (arith, high)) ∙ ap (slice_get ys) (let same : n - length xs ≡ suc n - length (x ∷ xs) = omega arith in same)

pub get_some : {A : Type 0} (xs : List A) (n : ℕ) → n < length xs → (x : A) × (slice_get xs n ≡ Some x)
get_some [] n low = absurd (omega (arith, low))
get_some (x ∷ xs) zero low = (x, refl)
get_some (x ∷ xs) (suc n) low = get_some xs n (omega (arith, low))

pub get_map : {A B : Type 0} (f : A → B) (xs : List A) (n : ℕ) → slice_get (map f xs) n ≡ option_map f (slice_get xs n)
get_map f [] n = refl
get_map f (x ∷ xs) zero = refl
get_map f (x ∷ xs) (suc n) = get_map f xs n

-- lists that have the same at each place are one
pub same_list : {A : Type 0} (xs ys : List A) → ((n : ℕ) → slice_get xs n ≡ slice_get ys n) → xs ≡ ys
same_list [] [] same = refl
same_list [] (y ∷ ys) same = absurd (let first : None ≡ Some y = same 0 in cc first)
same_list (x ∷ xs) [] same = absurd (let first : Some x ≡ None = same 0 in cc first)
same_list (x ∷ xs) (y ∷ ys) same =
    let first : x ≡ y = (let some : Some x ≡ Some y = same 0 in cc some) in
    ap (λ z. z ∷ xs) first ∙ ap (λ zs. y ∷ zs) (same_list xs ys (λ n. same (suc n)))

-- ---- something is done at a place

pub place_here : {A : Type 0} (xs : List A) (at : ℕ) (f : A → A) → slice_get (at_place at f xs) at ≡ option_map f (slice_get xs at)
place_here [] at f = refl
place_here (x ∷ xs) zero f = refl
place_here (x ∷ xs) (suc at) f = place_here xs at f

pub place_beside : {A : Type 0} (xs : List A) (to at : ℕ) (f : A → A) → to ≢ at → slice_get (at_place to f xs) at ≡ slice_get xs at
place_beside [] to at f apart = refl
place_beside (x ∷ xs) zero zero f apart = absurd (apart refl)
place_beside (x ∷ xs) zero (suc at) f apart = refl
place_beside (x ∷ xs) (suc to) zero f apart = refl
place_beside (x ∷ xs) (suc to) (suc at) f apart = place_beside xs to at f (λ e. apart (ap suc e))

pub place_none : {A : Type 0} (xs : List A) (at : ℕ) (f : A → A) → slice_get xs at ≡ None → at_place at f xs ≡ xs
place_none [] at f e = refl
place_none (x ∷ xs) zero f e = absurd (cc e)
place_none (x ∷ xs) (suc at) f e = ap (λ ys. x ∷ ys) (place_none xs at f e)

pub place_map : {A B : Type 0} (g : A → B) (xs : List A) (at : ℕ) (f : A → A) (x : A) → slice_get xs at ≡ Some x
    → slice_set (map g xs) at (g (f x)) ≡ map g (at_place at f xs)
place_map g [] at f x e = absurd (cc e)
place_map g (y ∷ xs) zero f x e = let same : y ≡ x = cc e in ap (λ z. g (f z) ∷ map g xs) (sym same)
place_map g (y ∷ xs) (suc at) f x e = ap (λ ys. g y ∷ ys) (place_map g xs at f x e)

-- ---- what holds of all

pub place_all : {A : Type 0} (P : A → Type 0) (xs : List A) (at : ℕ) (f : A → A) (x : A) → slice_get xs at ≡ Some x → P (f x)
    → AllByRecursion P xs → AllByRecursion P (at_place at f xs)
place_all P [] at f x e p all = tt
place_all {A} P (y ∷ xs) zero f x e p all = (by (cc e), all.1)
  where
    by : x ≡ y → P (f y)
    by same = rw (← same) p
place_all P (y ∷ xs) (suc at) f x e p all = (all.0, place_all P xs at f x e p all.1)

-- ---- what is left of a list

pub drop_all : {A : Type 0} (xs ys : List A) → drop (length xs) (xs ++ ys) ≡ ys
drop_all [] ys = refl
drop_all (x ∷ xs) ys = drop_all xs ys

-- with one less, nothing is left behind them all
pub drop_fewer : {A : Type 0} (xs : List A) → drop (length xs) (drop 1 xs) ≡ []
drop_fewer [] = refl
drop_fewer (x ∷ xs) = past xs
  where
    past : {A : Type 0} (ys : List A) → drop (suc (length ys)) ys ≡ []
    past [] = refl
    past (y ∷ ys) = past ys

pub drop_same : {A : Type 0} (xs : List A) → drop (length xs) xs ≡ []
drop_same [] = refl
drop_same (x ∷ xs) = drop_same xs
