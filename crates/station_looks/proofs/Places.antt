-- What is collected of the members, one after another; and the first of them that is sought.
use Rattle.std.proofs.Common.{◌≡◌, ◌<◌, ◌≤◌, ◌+◌, ◌-◌, ◌++◌, ◌∷◌, ◌∙◌, [], ℕ, suc, refl, sym, ap, List, Bool, true, false, cond, flat_map, map, append-nil, arith}
use Rattle.std.specs.Prelude.{Some, None, slice_get}
use Rattle.std.specs.List.{find, list_any, range_with_len}
use Rattle.std.proofs.lemmas.Grind.{flat_map-append}
use Rattle.std.proofs.lemmas.List.Folds.{flat_map-map}
use Rattle.std.proofs.lemmas.List.FromFn.{map-range_with_len_more}

pub one_more : {A : Type 0} (f : ℕ → List A) (at : ℕ) → flat_map f (range_with_len 0 (at + 1)) ≡ flat_map f (range_with_len 0 at) ++ f at
one_more f at =
    let before = range_with_len 0 at in
    sym (flat_map-map (λ x. x) f (range_with_len 0 (at + 1)))
    ∙ (ap (flat_map (λ x. x)) (map-range_with_len_more f 0 at at (omega arith))
    ∙ (flat_map-append (λ x. x) (map f before) (f at ∷ [])
    ∙ (ap (λ xs. xs ++ (f at ++ [])) (flat_map-map (λ x. x) f before) ∙ ap (λ ys. flat_map f before ++ ys) (append-nil (f at)))))

pub collected : {A : Type 0} (f : ℕ → List A) (at : ℕ) (old new : List A) → old ≡ flat_map f (range_with_len 0 at) → new ≡ old ++ f at
    → new ≡ flat_map f (range_with_len 0 (at + 1))
collected f at old new before more = more ∙ (ap (λ xs. xs ++ f at) before ∙ sym (one_more f at))

pub all_collected : {A : Type 0} (f : ℕ → List A) (at n : ℕ) (all : List A) → at ≡ n → all ≡ flat_map f (range_with_len 0 at)
    → all ≡ flat_map f (range_with_len 0 n)
all_collected f at n all e h = h ∙ ap (λ k. flat_map f (range_with_len 0 k)) e

-- ---- the first

pub rest_here : (at n : ℕ) → at < n → range_with_len at (n - at) ≡ at ∷ range_with_len (at + 1) (n - (at + 1))
rest_here at n h = let left : n - at ≡ suc (n - (at + 1)) = omega (arith, h) in rw left refl

pub rest_none : (at n : ℕ) → n ≤ at → range_with_len at (n - at) ≡ []
rest_none at n h = let none : n - at ≡ 0 = omega (arith, h) in rw none refl

pub rest_all : (n : ℕ) → range_with_len 0 (n - 0) ≡ range_with_len 0 n
rest_all n = let all : n - 0 ≡ n = omega arith in rw all refl

pub sought : (t : ℕ → Bool) (at n : ℕ) → at < n → find t (range_with_len at (n - at)) ≡ cond (t at) (Some at) (find t (range_with_len (at + 1) (n - (at + 1))))
sought t at n h = ap (find t) (rest_here at n h)

pub found : (t : ℕ → Bool) (at n : ℕ) → at < n → t at ≡ true → find t (range_with_len at (n - at)) ≡ Some at
found t at n h e = sought t at n h ∙ ap (λ b. cond b (Some at) (find t (range_with_len (at + 1) (n - (at + 1))))) e

pub not_here : (t : ℕ → Bool) (at n : ℕ) → at < n → t at ≡ false → find t (range_with_len at (n - at)) ≡ find t (range_with_len (at + 1) (n - (at + 1)))
not_here t at n h e = sought t at n h ∙ ap (λ b. cond b (Some at) (find t (range_with_len (at + 1) (n - (at + 1))))) e

pub not_found : (t : ℕ → Bool) (at n : ℕ) → n ≤ at → find t (range_with_len at (n - at)) ≡ None
not_found t at n h = ap (find t) (rest_none at n h)

pub first_here : {A : Type 0} (f : ℕ → List A) (a : A) (at n : ℕ) → at < n → f at ≡ a ∷ [] → slice_get (flat_map f (range_with_len at (n - at))) 0 ≡ Some a
first_here f a at n h e =
    ap (λ xs. slice_get (flat_map f xs) 0) (rest_here at n h) ∙ ap (λ xs. slice_get (xs ++ flat_map f (range_with_len (at + 1) (n - (at + 1)))) 0) e

pub first_later : {A : Type 0} (f : ℕ → List A) (at n : ℕ) → at < n → f at ≡ [] → slice_get (flat_map f (range_with_len at (n - at))) 0 ≡ slice_get (flat_map f (range_with_len (at + 1) (n - (at + 1)))) 0
first_later f at n h e =
    ap (λ xs. slice_get (flat_map f xs) 0) (rest_here at n h) ∙ ap (λ xs. slice_get (xs ++ flat_map f (range_with_len (at + 1) (n - (at + 1)))) 0) e

pub first_none : {A : Type 0} (f : ℕ → List A) (at n : ℕ) → n ≤ at → slice_get (flat_map f (range_with_len at (n - at))) 0 ≡ None
first_none f at n h = ap (λ xs. slice_get (flat_map f xs) 0) (rest_none at n h)

-- ---- whether there is one

pub any_here : (t : ℕ → Bool) (at n : ℕ) → at < n → t at ≡ true → list_any t (range_with_len at (n - at)) ≡ true
any_here t at n h e = ap (list_any t) (rest_here at n h) ∙ rw e refl

pub any_later : (t : ℕ → Bool) (at n : ℕ) → at < n → t at ≡ false → list_any t (range_with_len at (n - at)) ≡ list_any t (range_with_len (at + 1) (n - (at + 1)))
any_later t at n h e = ap (list_any t) (rest_here at n h) ∙ rw e refl

pub any_none : (t : ℕ → Bool) (at n : ℕ) → n ≤ at → list_any t (range_with_len at (n - at)) ≡ false
any_none t at n h = ap (list_any t) (rest_none at n h)
