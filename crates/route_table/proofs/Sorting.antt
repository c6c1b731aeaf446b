-- Rows in order: putting one in, leaving some out, and that the order of the same rows is one.
use Rattle.std.proofs.Common.{◌≡◌, ◌<◌, ◌∙◌, ℕ, zero, suc, refl, sym, ap, subst, List, [], ◌∷◌, filter, length, get_or, arith, Bool, true, false, cond}
use Rattle.std.specs.Prelude.{Contains, AllPairs, IsPermutation}
use Rattle.std.specs.List.{AllByRecursion}
use Rattle.std.proofs.lemmas.List.Elements.{All-from_recursion}
use Rattle.std.proofs.lemmas.List.Kept.{AllPairs-cons}
use Rattle.std.proofs.lemmas.List.Sorted.{IsPermutation-refl, IsPermutation-cons, IsPermutation-insert, IsPermutation-trans, IsPermutation-sym, Contains-permutation}
use Rattle.route_table.specs.declared.route.Route.{Route}
use Rattle.route_table.specs.Table.{stands_before, placed, in_order}
use Rattle.route_table.specs.Rows.{is_same_pair}
use Rattle.route_table.specs.Places.{InRows, NoneTwice}
use Rattle.route_table.proofs.Order.{stands_trans, stands_irrefl, stands_asym, stands_total}

abbrev pub Ahead : Route → List Route → Type 0
Ahead r xs = AllByRecursion (λ s. stands_before r s ≡ true) xs

-- of other pairs than this route
abbrev pub Apart : Route → List Route → Type 0
Apart r xs = AllByRecursion (λ s. is_same_pair r s ≡ false) xs

pub placed_all : (P : Route → Type 0) (r : Route) (xs : List Route) → P r → AllByRecursion P xs → AllByRecursion P (placed r xs)
placed_all P r [] p h = (p, tt)
placed_all P r (x ∷ xs) p h = cases (stands_before r x) (placed_all P r xs p h.1)
  where
    cases : (b : Bool) → AllByRecursion P (placed r xs) → AllByRecursion P (cond b (r ∷ x ∷ xs) (x ∷ placed r xs))
    cases true ih = (p, h)
    cases false ih = (h.0, ih)

pub ahead_more : (r x : Route) → stands_before r x ≡ true → (xs : List Route) → Ahead x xs → Ahead r xs
ahead_more r x h [] k = tt
ahead_more r x h (y ∷ ys) k = (stands_trans r x y h k.0, ahead_more r x h ys k.1)

pub placed_rows : (r : Route) (xs : List Route) → Apart r xs → InRows xs → InRows (placed r xs)
placed_rows r [] a h = (tt, tt)
placed_rows r (x ∷ xs) a h = cases (stands_before r x) refl (placed_rows r xs a.1 h.1)
  where
    cases : (b : Bool) → stands_before r x ≡ b → InRows (placed r xs) → InRows (cond b (r ∷ x ∷ xs) (x ∷ placed r xs))
    cases true e ih = ((e, ahead_more r x e xs h.0), h)
    cases false e ih = (placed_all (λ s. stands_before x s ≡ true) r xs (stands_total r x e a.0) h.0, ih)

pub in_order_all : (P : Route → Type 0) (xs : List Route) → AllByRecursion P xs → AllByRecursion P (in_order xs)
in_order_all P [] h = tt
in_order_all P (x ∷ xs) h = placed_all P x (in_order xs) h.0 (in_order_all P xs h.1)

pub in_order_rows : (xs : List Route) → NoneTwice xs → InRows (in_order xs)
in_order_rows [] h = tt
in_order_rows (x ∷ xs) h = placed_rows x (in_order xs) (in_order_all (λ s. is_same_pair x s ≡ false) xs h.0) (in_order_rows xs h.1)

pub pairs_from_rows : (rs : List Route) → InRows rs → AllPairs (λ a b. stands_before a b ≡ true) rs
pairs_from_rows [] h = λ i j d lo hi. absurd (omega arith)
pairs_from_rows (r ∷ rs) h = AllPairs-cons (λ a b. stands_before a b ≡ true) r rs (All-from_recursion (λ s. stands_before r s ≡ true) rs h.0) (pairs_from_rows rs h.1)

pub pairs_from_once : (rs : List Route) → NoneTwice rs → AllPairs (λ a b. is_same_pair a b ≡ false) rs
pairs_from_once [] h = λ i j d lo hi. absurd (omega arith)
pairs_from_once (r ∷ rs) h = AllPairs-cons (λ a b. is_same_pair a b ≡ false) r rs (All-from_recursion (λ s. is_same_pair r s ≡ false) rs h.0) (pairs_from_once rs h.1)

-- putting in moves routes, and no more

pub placed_moves : (r : Route) (xs : List Route) → IsPermutation (r ∷ xs) (placed r xs)
placed_moves r [] = IsPermutation-refl (r ∷ [])
placed_moves r (x ∷ xs) = cases (stands_before r x) (placed_moves r xs)
  where
    cases : (b : Bool) → IsPermutation (r ∷ xs) (placed r xs) → IsPermutation (r ∷ x ∷ xs) (cond b (r ∷ x ∷ xs) (x ∷ placed r xs))
    cases true ih = IsPermutation-refl (r ∷ x ∷ xs)
    cases false ih =
        IsPermutation-trans (r ∷ x ∷ xs) (x ∷ r ∷ xs) (x ∷ placed r xs)
        (IsPermutation-sym (x ∷ r ∷ xs) (r ∷ x ∷ xs) (IsPermutation-insert (r ∷ xs) 1 x))
        (IsPermutation-cons x (r ∷ xs) (placed r xs) ih)

pub in_order_moves : (xs : List Route) → IsPermutation xs (in_order xs)
in_order_moves [] = IsPermutation-refl []
in_order_moves (x ∷ xs) =
    IsPermutation-trans (x ∷ xs) (x ∷ in_order xs) (placed x (in_order xs)) (IsPermutation-cons x xs (in_order xs) (in_order_moves xs)) (placed_moves x (in_order xs))

-- leaving out

pub filter_all : (P : Route → Type 0) (p : Route → Bool) (xs : List Route) → AllByRecursion P xs → AllByRecursion P (filter p xs)
filter_all P p [] h = tt
filter_all P p (x ∷ xs) h = cases (p x) (filter_all P p xs h.1)
  where
    cases : (b : Bool) → AllByRecursion P (filter p xs) → AllByRecursion P (cond b (x ∷ filter p xs) (filter p xs))
    cases true ih = (h.0, ih)
    cases false ih = ih

pub filter_rows : (p : Route → Bool) (xs : List Route) → InRows xs → InRows (filter p xs)
filter_rows p [] h = tt
filter_rows p (x ∷ xs) h = cases (p x) (filter_rows p xs h.1)
  where
    cases : (b : Bool) → InRows (filter p xs) → InRows (cond b (x ∷ filter p xs) (filter p xs))
    cases true ih = (filter_all (λ s. stands_before x s ≡ true) p xs h.0, ih)
    cases false ih = ih

pub filter_once : (p : Route → Bool) (xs : List Route) → NoneTwice xs → NoneTwice (filter p xs)
filter_once p [] h = tt
filter_once p (x ∷ xs) h = cases (p x) (filter_once p xs h.1)
  where
    cases : (b : Bool) → NoneTwice (filter p xs) → NoneTwice (cond b (x ∷ filter p xs) (filter p xs))
    cases true ih = (filter_all (λ s. is_same_pair x s ≡ false) p xs h.0, ih)
    cases false ih = ih

placed_first : (r : Route) (xs : List Route) → Ahead r xs → placed r xs ≡ r ∷ xs
placed_first r [] h = refl
placed_first r (x ∷ xs) h = rw h.0 refl

pub filter_placed : (p : Route → Bool) (r : Route) (xs : List Route) → InRows xs → filter p (placed r xs) ≡ cond (p r) (placed r (filter p xs)) (filter p xs)
filter_placed p r [] h = refl
filter_placed p r (x ∷ xs) h = cases (stands_before r x) (p r) (p x) refl refl refl (filter_placed p r xs h.1)
  where
    cases : (B R X : Bool) → stands_before r x ≡ B → p r ≡ R → p x ≡ X
        → filter p (placed r xs) ≡ cond (p r) (placed r (filter p xs)) (filter p xs)
        → filter p (cond B (r ∷ x ∷ xs) (x ∷ placed r xs)) ≡ cond R (placed r (cond X (x ∷ filter p xs) (filter p xs))) (cond X (x ∷ filter p xs) (filter p xs))
    cases true true true b q t ih = rw (q, t, b) refl
    cases true true false b q t ih = rw (q, t) (sym (placed_first r (filter p xs) (filter_all (λ s. stands_before r s ≡ true) p xs (ahead_more r x b xs h.0))))
    cases true false true b q t ih = rw (q, t) refl
    cases true false false b q t ih = rw (q, t) refl
    cases false true true b q t ih = rw (t, ih, q, b) refl
    cases false true false b q t ih = rw (t, ih, q) refl
    cases false false true b q t ih = rw (t, ih, q) refl
    cases false false false b q t ih = rw (t, ih, q) refl

-- what is left of rows in order is what is left, in order
pub filter_in_order : (p : Route → Bool) (xs : List Route) → NoneTwice xs → filter p (in_order xs) ≡ in_order (filter p xs)
filter_in_order p [] h = refl
filter_in_order p (x ∷ xs) h =
    filter_placed p x (in_order xs) (in_order_rows xs h.1)
    ∙ (ap (λ ys. cond (p x) (placed x ys) ys) (filter_in_order p xs h.1) ∙ cases (p x))
  where
    cases : (b : Bool) → cond b (placed x (in_order (filter p xs))) (in_order (filter p xs)) ≡ in_order (cond b (x ∷ filter p xs) (filter p xs))
    cases true = refl
    cases false = refl

-- two lists in order with the same rows are the same

data Either (A B : Type 0) : Type 0 where
  Left : A → Either A B
  Right : B → Either A B

among : (x : Route) (y : Route) (ys : List Route) → Contains (y ∷ ys) x → Either (y ≡ x) (Contains ys x)
among x y ys h = cases h.0 h.1 h.2
  where
    cases : (i : ℕ) → i < length (y ∷ ys) → get_or (y ∷ ys) i x ≡ x → Either (y ≡ x) (Contains ys x)
    cases zero w e = Left e
    cases (suc i) w e = Right (i, (omega arith), e)

ahead_of : (r x : Route) (xs : List Route) → Ahead r xs → (i : ℕ) → i < length xs → get_or xs i x ≡ x → stands_before r x ≡ true
ahead_of r x [] h i w e = absurd (omega arith)
ahead_of r x (y ∷ ys) h zero w e = ap (stands_before r) (sym e) ∙ h.0
ahead_of r x (y ∷ ys) h (suc i) w e = ahead_of r x ys h.1 i (omega arith) e

front : (x : Route) (xs : List Route) → Contains (x ∷ xs) x
front x xs = (0, omega arith, refl)

behind : (x y : Route) (xs : List Route) → Contains xs x → Contains (y ∷ xs) x
behind x y xs h = (suc h.0, (let w = h.1 in omega arith), h.2)

abbrev Has : List Route → List Route → Type 0
Has xs ys = (x : Route) → Contains xs x → Contains ys x

heads_case : (x y : Route) (xs ys : List Route) → Ahead x xs → Ahead y ys → Either (y ≡ x) (Contains ys x) → Either (x ≡ y) (Contains xs y) → x ≡ y
heads_case x y xs ys h k (Left e) t = sym e
heads_case x y xs ys h k (Right c) (Left e) = e
heads_case x y xs ys h k (Right c) (Right d) =
    let a = ahead_of y x ys k c.0 c.1 c.2 in
    let b = stands_asym y x a in
    let e = ahead_of x y xs h d.0 d.1 d.2 in
    absurd (cc)

tail_case : (x z : Route) (xs ys : List Route) → Ahead x xs → Contains xs z → Either (x ≡ z) (Contains ys z) → Contains ys z
tail_case x z xs ys h c (Right d) = d
tail_case x z xs ys h c (Left e) =
    let a = ahead_of x z xs h c.0 c.1 c.2 in
    let b : stands_before x z ≡ false = ap (stands_before x) (sym e) ∙ stands_irrefl x in
    absurd (cc)

tails : (x : Route) (xs ys : List Route) → Ahead x xs → Has (x ∷ xs) (x ∷ ys) → Has xs ys
tails x xs ys h k z c = tail_case x z xs ys h c (among z x ys (k z (behind z x xs c)))

abbrev none : List Route
none = []

empty_has : (x : Route) (xs : List Route) → Contains none x → ⊥
empty_has x xs h = let w = h.1 in absurd (omega arith)

pub one_order : (xs ys : List Route) → InRows xs → InRows ys → Has xs ys → Has ys xs → xs ≡ ys
one_order [] [] h k f g = refl
one_order [] (y ∷ ys) h k f g = absurd (empty_has y ys (g y (front y ys)))
one_order (x ∷ xs) [] h k f g = absurd (empty_has x xs (f x (front x xs)))
one_order (x ∷ xs) (y ∷ ys) h k f g =
    let e : x ≡ y = heads_case x y xs ys h.0 k.0 (among x y ys (f x (front x xs))) (among y x xs (g y (front y ys))) in
    let f2 : Has (x ∷ xs) (x ∷ ys) = subst (λ r. Has (x ∷ xs) (r ∷ ys)) (sym e) f in
    let g2 : Has (x ∷ ys) (x ∷ xs) = subst (λ r. Has (r ∷ ys) (x ∷ xs)) (sym e) g in
    let k2 : Ahead x ys = subst (λ r. Ahead r ys) (sym e) k.0 in
    let t : xs ≡ ys = one_order xs ys h.1 k.1 (tails x xs ys h.0 f2) (tails x ys xs k2 g2) in
    ap (λ r. r ∷ xs) e ∙ ap (λ rs. y ∷ rs) t

-- rows in order that are a rearrangement are the rearrangement in order
pub in_order_is : (xs rows : List Route) → NoneTwice xs → InRows rows → IsPermutation xs rows → rows ≡ in_order xs
in_order_is xs rows n h p =
    one_order rows (in_order xs) h (in_order_rows xs n)
    (λ x c. Contains-permutation xs (in_order xs) x (in_order_moves xs) (Contains-permutation rows xs x (IsPermutation-sym xs rows p) c))
    (λ x c. Contains-permutation xs rows x p (Contains-permutation (in_order xs) xs x (IsPermutation-sym xs (in_order xs) (in_order_moves xs)) c))

-- what is left of a rearrangement is a rearrangement of what is left
pub filter_moves : (p : Route → Bool) (xs rows : List Route) → NoneTwice xs → InRows rows → IsPermutation xs rows → IsPermutation (filter p xs) (filter p rows)
filter_moves p xs rows n h m =
    let e : filter p rows ≡ in_order (filter p xs) = ap (filter p) (in_order_is xs rows n h m) ∙ filter_in_order p xs n in
    subst (λ ys. IsPermutation (filter p xs) ys) (sym e) (in_order_moves (filter p xs))
