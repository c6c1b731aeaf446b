-- Searching rows in order.
use Rattle.std.proofs.Common.{◌≡◌, ◌≤◌, ◌<◌, ◌+◌, ◌∙◌, ℕ, zero, suc, refl, sym, ap, subst, List, [], ◌∷◌, ◌++◌, length, take, drop, arith, Bool, true, false, cond, get_or, filter, append-nil, ◌-◌, inl, inr}
use Rattle.std.specs.Prelude.{Option, Some, None, insert, not, slice_get, ◌||◌, ◌&&◌}
use Rattle.std.specs.List.{list_any, prefix_len, AllByRecursion}
use Rattle.std.specs.Option.{option_map}
use Rattle.std.specs.List.Sorted.{IsPartitionedBy, IsPartitionPoint}
use Rattle.std.proofs.lemmas.Bool.{cases_lt}
use Rattle.std.proofs.lemmas.List.Sums.{prefix_len_is, prefix_len_stops}
use Rattle.std.proofs.lemmas.List.Folds.{list_any_more}
use Rattle.std.proofs.lemmas.List.{take_all, take-append-le}
use Rattle.ax_address.specs.Callsign.{Callsign, same_call, call_lt}
use Rattle.ax_address.proofs.SameCalls.{same_call-true, apart_sym}
use Rattle.route_table.specs.declared.route.Route.{Route}
use Rattle.route_table.specs.Table.{is_before, stands_before, placed, is_to}
use Rattle.route_table.specs.Rows.{is_same_pair}
use Rattle.route_table.specs.Places.{InRows, start_of, place_among}
use Rattle.route_table.proofs.Calls.{call_lt_trans, call_lt_equal, call_lt_total}
use Rattle.route_table.proofs.Order.{stands_trans, stands_asym}
use Rattle.route_table.proofs.Sorting.{Ahead, pairs_from_rows}

-- what rows in order before a row pass where it does
pub parted : (p : Route → Bool) → ((a b : Route) → stands_before a b ≡ true → p b ≡ true → p a ≡ true) → (rows : List Route) → InRows rows → IsPartitionedBy p rows
parted p down rows h = λ i j d lo hi t.
    elim (cases_lt i j) [
      | inl under ↦ down (get_or rows i d) (get_or rows j d) (pairs_from_rows rows h i j d under hi) t
      | inr over ↦
          let is_it : i ≡ j = omega arith in
          rw is_it t
    ]

-- a row's destination is no higher than those behind it
dest_case : (a b : Route) (c : Callsign) (L S : Bool) → call_lt a.dest b.dest ≡ L → same_call a.dest b.dest ≡ S → (L || (S && is_before a b)) ≡ true → call_lt b.dest c ≡ true → call_lt a.dest c ≡ true
dest_case a b c true S l s h k = call_lt_trans a.dest b.dest c l k
dest_case a b c false true l s h k = ap (λ d. call_lt d c) (same_call-true a.dest b.dest s) ∙ k
dest_case a b c false false l s h k = absurd (cc)

pub lower_down : (c : Callsign) (a b : Route) → stands_before a b ≡ true → call_lt b.dest c ≡ true → call_lt a.dest c ≡ true
lower_down c a b h k = dest_case a b c (call_lt a.dest b.dest) (same_call a.dest b.dest) refl refl h k

higher_case : (a b : Route) (c : Callsign) (L S : Bool) → call_lt a.dest b.dest ≡ L → same_call a.dest b.dest ≡ S → (L || (S && is_before a b)) ≡ true → call_lt c a.dest ≡ true → call_lt c b.dest ≡ true
higher_case a b c true S l s h k = call_lt_trans c a.dest b.dest k l
higher_case a b c false true l s h k = ap (call_lt c) (sym (same_call-true a.dest b.dest s)) ∙ k
higher_case a b c false false l s h k = absurd (cc)

pub higher_up : (c : Callsign) (a b : Route) → stands_before a b ≡ true → call_lt c a.dest ≡ true → call_lt c b.dest ≡ true
higher_up c a b h k = higher_case a b c (call_lt a.dest b.dest) (same_call a.dest b.dest) refl refl h k

place_case : (r a b : Route) (A B : Bool) → stands_before r a ≡ A → stands_before r b ≡ B → stands_before a b ≡ true → not B ≡ true → not A ≡ true
place_case r a b false B s t h k = refl
place_case r a b true false s t h k = let u = stands_trans r a b s h in absurd (cc)
place_case r a b true true s t h k = absurd (cc)

pub place_down : (r a b : Route) → stands_before a b ≡ true → not (stands_before r b) ≡ true → not (stands_before r a) ≡ true
place_down r a b h k = place_case r a b (stands_before r a) (stands_before r b) refl refl h k

-- where a search by halves ends is as many as pass
pub point_is : (p : Route → Bool) (rows : List Route) (i : ℕ) (d : Route) → i ≤ length rows → IsPartitionPoint (λ y. p y ≡ true) (λ y. p y ≡ false) rows i → i ≡ prefix_len p rows
point_is p rows i d h point = sym (prefix_len_is p rows i d h (λ k l. point.0 k d (omega arith) l) (λ l. point.1 i d (omega arith) l))

-- the same, where no row is at hand to stand in for one that isn't there
pub start_is : (c : Callsign) (rows : List Route) (i : ℕ) → i ≤ length rows → IsPartitionPoint (λ (y : Route). call_lt y.dest c ≡ true) (λ (y : Route). call_lt y.dest c ≡ false) rows i → i ≡ start_of c rows
start_is c [] i h point = omega arith
start_is c (x ∷ xs) i h point = point_is (λ (r : Route). call_lt r.dest c) (x ∷ xs) i x h point

-- looking at a part of the rows

prefix_skip : (p : Route → Bool) (n : ℕ) (rows : List Route) → n ≤ length rows → ((k : ℕ) (d : Route) → k < n → p (get_or rows k d) ≡ true) → prefix_len p rows ≡ n + prefix_len p (drop n rows)
prefix_skip p zero rows w h = omega arith
prefix_skip p (suc n) [] w h = absurd (omega arith)
prefix_skip p (suc n) (x ∷ xs) w h =
    let e : p x ≡ true = h 0 x (omega arith) in
    let rest = prefix_skip p n xs (omega arith) (λ k d l. h (suc k) d (omega arith)) in
    rw e (omega (arith, rest))

-- where the row before a place leads lower, the start is so many rows behind it
pub start_behind : (c : Callsign) (rows : List Route) (n : ℕ) → InRows rows → n ≤ length rows → ((d : Route) → 0 < n → call_lt (get_or rows (n - 1) d).dest c ≡ true) → n + start_of c (drop n rows) ≡ start_of c rows
start_behind c rows n h w last =
    sym (prefix_skip (λ r. call_lt r.dest c) n rows w (λ k d l. parted (λ r. call_lt r.dest c) (lower_down c) rows h k (n - 1) d (omega arith) (omega arith) (last d (omega arith))))

prefix_part : (p : Route → Bool) (n : ℕ) (rows : List Route) (d : Route) → n < length rows → p (get_or rows n d) ≡ false → prefix_len p (take n rows) ≡ prefix_len p rows
prefix_part p n [] d w h = absurd (omega arith)
prefix_part p zero (x ∷ xs) d w h = rw h refl
prefix_part p (suc n) (x ∷ xs) d w h = ap (λ k. cond (p x) (1 + k) 0) (prefix_part p n xs d (omega arith) h)

-- where the row at a place doesn't lead lower, the start is among those before it, or there
pub start_within : (c : Callsign) (rows : List Route) (n : ℕ) (d : Route) → n < length rows → call_lt (get_or rows n d).dest c ≡ false → start_of c (take n rows) ≡ start_of c rows
start_within c rows n d w h = prefix_part (λ r. call_lt r.dest c) n rows d w h

-- a route that the last row stands before belongs behind all
pub place_behind : (r : Route) (rows : List Route) → InRows rows → ((d : Route) → 0 < length rows → stands_before (get_or rows (length rows - 1) d) r ≡ true) → length rows ≡ place_among r rows
place_behind r [] h last = refl
place_behind r (x ∷ xs) h last =
    let test = λ (y : Route). not (stands_before r y) in
    let end = length (x ∷ xs) in
    sym (prefix_len_is test (x ∷ xs) end x (omega arith) (λ k l. parted test (place_down r) (x ∷ xs) h k (end - 1) x (omega arith) (omega arith) (ap not (stands_asym (get_or (x ∷ xs) (end - 1) x) r (last x (omega arith))))) (λ l. absurd (omega arith)))

take_all_by : (P : Route → Type 0) (n : ℕ) (xs : List Route) → AllByRecursion P xs → AllByRecursion P (take n xs)
take_all_by P zero xs h = tt
take_all_by P (suc n) [] h = tt
take_all_by P (suc n) (x ∷ xs) h = (h.0, take_all_by P n xs h.1)

pub take_rows : (n : ℕ) (xs : List Route) → InRows xs → InRows (take n xs)
take_rows zero xs h = tt
take_rows (suc n) [] h = tt
take_rows (suc n) (x ∷ xs) h = (take_all_by (λ s. stands_before x s ≡ true) n xs h.0, take_rows n xs h.1)

-- putting in, by the place

put_case : (b : Bool) (r x : Route) (xs : List Route) (n : ℕ) → placed r xs ≡ insert xs n r → cond b (r ∷ x ∷ xs) (x ∷ placed r xs) ≡ insert (x ∷ xs) (cond (not b) (1 + n) 0) r
put_case true r x xs n h = refl
put_case false r x xs n h = let z : 1 + n ≡ suc n = omega arith in rw z (ap (λ ys. x ∷ ys) h)

pub placed-insert : (r : Route) (xs : List Route) → placed r xs ≡ insert xs (place_among r xs) r
placed-insert r [] = refl
placed-insert r (x ∷ xs) = put_case (stands_before r x) r x xs (place_among r xs) (placed-insert r xs)

-- rows of lower and of higher destinations

pub not_to_lower : (c : Callsign) (x : Route) → call_lt x.dest c ≡ true → same_call x.dest c ≡ false
not_to_lower c x h = cases (same_call x.dest c) refl
  where
    cases : (b : Bool) → same_call x.dest c ≡ b → b ≡ false
    cases false e = refl
    cases true e = let f = call_lt_equal x.dest c (same_call-true x.dest c e) in absurd (cc)

pub not_to_higher : (c : Callsign) (x : Route) → call_lt c x.dest ≡ true → same_call x.dest c ≡ false
not_to_higher c x h = cases (same_call x.dest c) refl
  where
    cases : (b : Bool) → same_call x.dest c ≡ b → b ≡ false
    cases false e = refl
    cases true e = let f = call_lt_equal c x.dest (sym (same_call-true x.dest c e)) in absurd (cc)

abbrev pub Higher : Callsign → List Route → Type 0
Higher c rows = AllByRecursion (λ (x : Route). call_lt c x.dest ≡ true) rows

pub higher_all : (c : Callsign) (a : Route) (xs : List Route) → call_lt c a.dest ≡ true → Ahead a xs → Higher c xs
higher_all c a [] h k = tt
higher_all c a (x ∷ xs) h k = (higher_up c a x k.0 h, higher_all c a xs h k.1)

pub higher_from : (c : Callsign) (rows : List Route) (i : ℕ) (d : Route) → InRows rows → i < length rows → call_lt c (get_or rows i d).dest ≡ true → Higher c (drop i rows)
higher_from c [] i d h w l = absurd (omega arith)
higher_from c (x ∷ xs) zero d h w l = (l, higher_all c x xs l h.0)
higher_from c (x ∷ xs) (suc i) d h w l = higher_from c xs i d h.1 (omega arith) l

pub none_to_higher : (c : Callsign) (rows : List Route) → Higher c rows → filter (is_to c) rows ≡ []
none_to_higher c [] h = refl
none_to_higher c (x ∷ xs) h = let e : same_call x.dest c ≡ false = not_to_higher c x h.0 in rw e (none_to_higher c xs h.1)

-- the rows before the start of a destination lead elsewhere
skip_case : (b : Bool) (c : Callsign) (x : Route) (xs : List Route) (n : ℕ) → call_lt x.dest c ≡ b → filter (is_to c) (drop n xs) ≡ filter (is_to c) xs → filter (is_to c) (drop (cond b (1 + n) 0) (x ∷ xs)) ≡ filter (is_to c) (x ∷ xs)
skip_case false c x xs n e h = refl
skip_case true c x xs n e h =
    let f : same_call x.dest c ≡ false = not_to_lower c x e in
    let z : 1 + n ≡ suc n = omega arith in
    rw (z, f) h

pub from_start : (c : Callsign) (rows : List Route) → filter (is_to c) (drop (start_of c rows) rows) ≡ filter (is_to c) rows
from_start c [] = refl
from_start c (x ∷ xs) = skip_case (call_lt x.dest c) c x xs (start_of c xs) refl (from_start c xs)

before_case : (b : Bool) (r x : Route) (xs : List Route) (n : ℕ) → call_lt x.dest r.dest ≡ b → list_any (is_same_pair r) (take n xs) ≡ false → list_any (is_same_pair r) (take (cond b (1 + n) 0) (x ∷ xs)) ≡ false
before_case false r x xs n e h = refl
before_case true r x xs n e h =
    let f : same_call r.dest x.dest ≡ false = apart_sym x.dest r.dest (not_to_lower r.dest x e) in
    let z : 1 + n ≡ suc n = omega arith in
    rw z (rw f h)

pub none_before_start : (r : Route) (rows : List Route) → list_any (is_same_pair r) (take (start_of r.dest rows) rows) ≡ false
none_before_start r [] = refl
none_before_start r (x ∷ xs) = before_case (call_lt x.dest r.dest) r x xs (start_of r.dest xs) refl (none_before_start r xs)

-- from the start on no row leads to a lower destination
pub not_lower : (c : Callsign) (rows : List Route) (i : ℕ) (d : Route) → InRows rows → start_of c rows ≤ i → i < length rows → call_lt (get_or rows i d).dest c ≡ false
not_lower c rows i d h lo hi = cases (call_lt (get_or rows i d).dest c) refl
  where
    cases : (b : Bool) → call_lt (get_or rows i d).dest c ≡ b → b ≡ false
    cases false e = refl
    cases true e =
        let first = parted (λ r. call_lt r.dest c) (lower_down c) rows h (start_of c rows) i d lo hi e in
        let stop = prefix_len_stops (λ (r : Route). call_lt r.dest c) rows d (omega arith) in
        absurd (cc)

-- a row behind the start that leads elsewhere leads higher
pub leads_higher : (c : Callsign) (rows : List Route) (i : ℕ) (d : Route) → InRows rows → start_of c rows ≤ i → i < length rows → same_call (get_or rows i d).dest c ≡ false → call_lt c (get_or rows i d).dest ≡ true
leads_higher c rows i d h lo hi s = call_lt_total (get_or rows i d).dest c (not_lower c rows i d h lo hi) s

none_pair_higher : (r : Route) (rows : List Route) → Higher r.dest rows → list_any (is_same_pair r) rows ≡ false
none_pair_higher r [] h = refl
none_pair_higher r (x ∷ xs) h =
    let e : same_call r.dest x.dest ≡ false = apart_sym x.dest r.dest (not_to_higher r.dest x h.0) in
    rw e (none_pair_higher r xs h.1)

any_parts : (p : Route → Bool) (rows : List Route) (i : ℕ) → list_any p (take i rows) ≡ false → list_any p (drop i rows) ≡ false → list_any p rows ≡ false
any_parts p [] i h k = refl
any_parts p (x ∷ xs) zero h k = k
any_parts p (x ∷ xs) (suc i) h k = any_case (p x) (list_any p (take i xs)) (list_any p xs) h (any_parts p xs i) k
  where
    any_case : (b t u : Bool) → (b || t) ≡ false → (t ≡ false → list_any p (drop i xs) ≡ false → u ≡ false) → list_any p (drop i xs) ≡ false → (b || u) ≡ false
    any_case true t u h f k = h
    any_case false t u h f k = f h k

-- the search has come to a row that leads elsewhere
pub none_of_pair_from : (r : Route) (rows : List Route) (i : ℕ) (d : Route) → InRows rows → start_of r.dest rows ≤ i → i < length rows → same_call (get_or rows i d).dest r.dest ≡ false → list_any (is_same_pair r) (take i rows) ≡ false → list_any (is_same_pair r) rows ≡ false
none_of_pair_from r rows i d h lo hi s before =
    any_parts (is_same_pair r) rows i before (none_pair_higher r (drop i rows) (higher_from r.dest rows i d h hi (leads_higher r.dest rows i d h lo hi s)))

pub none_of_pair_next : (r : Route) (rows : List Route) (i : ℕ) (d : Route) → i < length rows → is_same_pair r (get_or rows i d) ≡ false → list_any (is_same_pair r) (take i rows) ≡ false → list_any (is_same_pair r) (take (i + 1) rows) ≡ false
none_of_pair_next r rows i d w s before = list_any_more (is_same_pair r) rows i d w ∙ rw (before, s) refl

-- the rows from the start of a destination on

pub drop_rows : (n : ℕ) (rows : List Route) → InRows rows → InRows (drop n rows)
drop_rows zero rows h = h
drop_rows (suc n) [] h = tt
drop_rows (suc n) (x ∷ xs) h = drop_rows n xs h.1

abbrev pub NotLower : Callsign → List Route → Type 0
NotLower c rows = AllByRecursion (λ (x : Route). call_lt x.dest c ≡ false) rows

not_lower_case : (b : Bool) (c : Callsign) (x y : Route) → call_lt x.dest c ≡ false → stands_before x y ≡ true → call_lt y.dest c ≡ b → b ≡ false
not_lower_case false c x y h k e = refl
not_lower_case true c x y h k e = let f = lower_down c x y k e in absurd (cc)

pub none_lower : (c : Callsign) (x : Route) (xs : List Route) → call_lt x.dest c ≡ false → Ahead x xs → NotLower c xs
none_lower c x [] h k = tt
none_lower c x (y ∷ ys) h k = (not_lower_case (call_lt y.dest c) c x y h k.0 refl, none_lower c x ys h k.1)

tail_case : (b : Bool) (c : Callsign) (x : Route) (xs : List Route) (n : ℕ) → call_lt x.dest c ≡ b → Ahead x xs → NotLower c (drop n xs) → NotLower c (drop (cond b (1 + n) 0) (x ∷ xs))
tail_case false c x xs n e a h = (e, none_lower c x xs e a)
tail_case true c x xs n e a h = let z : 1 + n ≡ suc n = omega arith in rw z h

pub tail_not_lower : (c : Callsign) (rows : List Route) → InRows rows → NotLower c (drop (start_of c rows) rows)
tail_not_lower c [] h = tt
tail_not_lower c (x ∷ xs) h = tail_case (call_lt x.dest c) c x xs (start_of c xs) refl h.0 (tail_not_lower c xs h.1)

pub none_from : (c : Callsign) (tail : List Route) (i : ℕ) (d : Route) → InRows tail → NotLower c tail → i < length tail → same_call (get_or tail i d).dest c ≡ false → filter (is_to c) (drop i tail) ≡ []
none_from c [] i d h n w s = absurd (omega arith)
none_from c (x ∷ xs) zero d h n w s =
    let l : call_lt c x.dest ≡ true = call_lt_total x.dest c n.0 s in
    none_to_higher c (x ∷ xs) (l, higher_all c x xs l h.0)
none_from c (x ∷ xs) (suc i) d h n w s = none_from c xs i d h.1 n.1 (omega arith) s

pub whole_tail : (n : ℕ) (rows : List Route) → take (length rows - n) (drop n rows) ≡ drop n rows
whole_tail zero [] = refl
whole_tail (suc n) [] = let z : 0 - suc n ≡ 0 = omega arith in rw z refl
whole_tail zero (x ∷ xs) = let z : suc (length xs) - 0 ≡ suc (length xs) = omega arith in rw z (ap (λ ys. x ∷ ys) (take_all (length xs) xs (omega arith)))
whole_tail (suc n) (x ∷ xs) = let z : suc (length xs) - suc n ≡ length xs - n = omega arith in rw z (whole_tail n xs)

-- a search for the best three is done: as many are found, or no more are there
pub best_full : (c : Callsign) (rows tail best : List Route) (i : ℕ) → length best ≡ 3 → best ++ filter (is_to c) (drop i tail) ≡ filter (is_to c) rows → best ≡ take 3 (filter (is_to c) rows)
best_full c rows tail best i h t = rw (← t) (sym (take-append-le 3 best (filter (is_to c) (drop i tail)) (omega arith) ∙ take_all 3 best (omega arith)))

pub best_done : (c : Callsign) (rows rest best : List Route) → length best ≤ 3 → filter (is_to c) rest ≡ [] → best ++ filter (is_to c) rest ≡ filter (is_to c) rows → best ≡ take 3 (filter (is_to c) rows)
best_done c rows rest best h e t =
    let a : best ≡ filter (is_to c) rows = sym (append-nil best) ∙ (ap (λ ys. best ++ ys) (sym e) ∙ t) in
    rw (← a) (sym (take_all 3 best h))

pub best_elsewhere : (c : Callsign) (rows tail best : List Route) (i s : ℕ) (r : Route) → InRows rows → tail ≡ drop s rows → s ≡ start_of c rows → i < length tail → r ≡ get_or tail i r → same_call r.dest c ≡ false
    → length best ≤ 3 → best ++ filter (is_to c) (drop i tail) ≡ filter (is_to c) rows → best ≡ take 3 (filter (is_to c) rows)
best_elsewhere c rows tail best i s r h e q w g t few told =
    let f : tail ≡ drop (start_of c rows) rows = e ∙ ap (λ n. drop n rows) q in
    let order : InRows tail = subst InRows (sym f) (drop_rows (start_of c rows) rows h) in
    let lower : NotLower c tail = subst (NotLower c) (sym f) (tail_not_lower c rows h) in
    best_done c rows (drop i tail) best few (none_from c tail i r order lower w (ap (λ (x : Route). same_call x.dest c) (sym g) ∙ t)) told

drop_end : (xs : List Route) (i : ℕ) → length xs ≤ i → drop i xs ≡ []
drop_end [] zero h = refl
drop_end [] (suc i) h = refl
drop_end (x ∷ xs) zero h = absurd (omega arith)
drop_end (x ∷ xs) (suc i) h = drop_end xs i (omega arith)

pub best_end : (c : Callsign) (rows tail best : List Route) (i : ℕ) → length tail ≤ i → length best ≤ 3 → best ++ filter (is_to c) (drop i tail) ≡ filter (is_to c) rows → best ≡ take 3 (filter (is_to c) rows)
best_end c rows tail best i w few told = best_done c rows (drop i tail) best few (ap (filter (is_to c)) (drop_end tail i w)) told

-- the first of the rows to a destination: the row where they begin, if that leads there

first_found : (c : Callsign) (tail : List Route) (r : Route) → Some r ≡ slice_get tail 0 → same_call r.dest c ≡ true → slice_get (take 3 (filter (is_to c) tail)) 0 ≡ Some r
first_found c [] r h e = absurd (cc)
first_found c (x ∷ xs) r h e =
    let k : r ≡ x = cc in
    let t : same_call x.dest c ≡ true = subst (λ y. same_call y.dest c ≡ true) k e in
    rw t (sym h)

none_found : (c : Callsign) (tail : List Route) (r : Route) → InRows tail → NotLower c tail → Some r ≡ slice_get tail 0 → same_call r.dest c ≡ false → filter (is_to c) tail ≡ []
none_found c [] r i n h e = refl
none_found c (x ∷ xs) r i n h e =
    let k : r ≡ x = cc in
    none_from c (x ∷ xs) 0 x i n (omega arith) (subst (λ y. same_call y.dest c ≡ false) k e)

abbrev hop : List Route → Option Callsign
hop rows = option_map (λ (r : Route). r.neighbour) (slice_get (take 3 rows) 0)

-- what lies at the front of what a search gives
front_is : (rows : List Route) (s : ℕ) (o : Option Route) → o ≡ slice_get (take (length rows - s) (drop s rows)) 0 → o ≡ slice_get (drop s rows) 0
front_is rows s o h = h ∙ ap (λ xs. slice_get xs 0) (whole_tail s rows)

tail_is : (c : Callsign) (rows : List Route) (s : ℕ) → s ≡ start_of c rows → filter (is_to c) (drop s rows) ≡ filter (is_to c) rows
tail_is c rows s q = ap (λ n. filter (is_to c) (drop n rows)) q ∙ from_start c rows

pub hop_found : (c : Callsign) (rows : List Route) (s : ℕ) (r : Route) → s ≡ start_of c rows → Some r ≡ slice_get (take (length rows - s) (drop s rows)) 0 → same_call r.dest c ≡ true → Some r.neighbour ≡ hop (filter (is_to c) rows)
hop_found c rows s r q h e =
    ap (option_map (λ (r : Route). r.neighbour)) (sym (first_found c (drop s rows) r (front_is rows s (Some r) h) e)) ∙ ap hop (tail_is c rows s q)

pub hop_elsewhere : (c : Callsign) (rows : List Route) (s : ℕ) (r : Route) → InRows rows → s ≡ start_of c rows → Some r ≡ slice_get (take (length rows - s) (drop s rows)) 0 → same_call r.dest c ≡ false → None ≡ hop (filter (is_to c) rows)
hop_elsewhere c rows s r i q h e =
    let low : NotLower c (drop s rows) = subst (λ n. NotLower c (drop n rows)) (sym q) (tail_not_lower c rows i) in
    ap hop (sym (none_found c (drop s rows) r (drop_rows s rows i) low (front_is rows s (Some r) h) e) ∙ tail_is c rows s q)

pub hop_behind : (c : Callsign) (rows : List Route) (s : ℕ) → s ≡ start_of c rows → None ≡ slice_get (take (length rows - s) (drop s rows)) 0 → None ≡ hop (filter (is_to c) rows)
hop_behind c rows s q h = ap hop (ap (filter (is_to c)) (sym (none_at (drop s rows) (front_is rows s None h))) ∙ tail_is c rows s q)
  where
    none_at : (xs : List Route) → None ≡ slice_get xs 0 → xs ≡ []
    none_at [] h = refl
    none_at (x ∷ xs) h = absurd (cc)
