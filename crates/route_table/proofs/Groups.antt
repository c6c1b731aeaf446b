-- Rows in order, one destination after another.
use Rattle.std.proofs.Common.{◌≡◌, ◌≤◌, ◌+◌, ◌-◌, ◌∙◌, ℕ, zero, suc, refl, sym, ap, List, [], ◌∷◌, ◌++◌, map, length, take, drop, arith, Bool, true, false, cond, filter, append-nil}
use Rattle.std.specs.Prelude.{slice_get, min, Some, None, filter_map, flat_map}
use Rattle.std.specs.List.{cons_option, AllByRecursion, prefix_len, dedup_from}
use Rattle.std.proofs.lemmas.List.{take_all, take-append-le}
use Rattle.std.proofs.lemmas.List.Elements.{All-from_recursion}
use Rattle.std.proofs.lemmas.List.Kept.{AllPairs-cons}
use Rattle.ax_address.specs.Callsign.{Callsign, same_call, call_lt}
use Rattle.ax_address.specs.declared.entry.Entry.{Entry}
use Rattle.ax_address.proofs.SameCalls.{same_call-true, call_refl}
use Rattle.route_table.specs.declared.route.Route.{Route}
use Rattle.route_table.specs.declared.route.RouteRules.{RouteRules}
use Rattle.route_table.specs.Log.{Item}
use Rattle.route_table.specs.Table.{Rise, entry_by, is_to, usable, table, destinations}
use Rattle.route_table.specs.Rows as rows
use Rattle.route_table.specs.Rows.{calls_of, best_of, entry_from}
use Rattle.route_table.specs.Places.{InRows}
use Rattle.route_table.proofs.Calls.{call_lt_trans, call_lt_equal, call_lt_total}
use Rattle.route_table.proofs.Sorting.{Ahead, in_order_rows}
use Rattle.route_table.proofs.Placing.{Higher, higher_all, none_to_higher, not_to_lower, drop_rows, NotLower, none_lower}
use Rattle.route_table.proofs.Twice.{usable_once}

abbrev pub run : Callsign → List Route → ℕ
run c rows = prefix_len (is_to c) rows

abbrev pub behind : Callsign → List Route → List Route
behind c rows = drop (run c rows) rows

-- the destinations are that of the first row and those of the rows behind its run

next_case : (b : Bool) (c : Callsign) (x : Route) (xs : List Route) (n : ℕ) → dedup_from same_call c (map (λ (r : Route). r.dest) xs) ≡ c ∷ calls_of (drop n xs)
    → cond b (dedup_from same_call c (map (λ (r : Route). r.dest) xs)) (c ∷ dedup_from same_call x.dest (map (λ (r : Route). r.dest) xs)) ≡ c ∷ calls_of (drop (cond b (1 + n) 0) (x ∷ xs))
next_case true c x xs n h = let z : 1 + n ≡ suc n = omega arith in rw z h
next_case false c x xs n h = refl

calls_from : (c : Callsign) (rs : List Route) → dedup_from same_call c (map (λ (r : Route). r.dest) rs) ≡ c ∷ calls_of (behind c rs)
calls_from c [] = refl
calls_from c (x ∷ xs) = next_case (same_call x.dest c) c x xs (run c xs) (calls_from c xs)

pub calls_next : (r : Route) (rs : List Route) → calls_of (r ∷ rs) ≡ r.dest ∷ calls_of (behind r.dest rs)
calls_next r rs = calls_from r.dest rs

-- behind a run the rows lead higher

behind_case : (b : Bool) (c : Callsign) (x : Route) (xs : List Route) (n : ℕ) → same_call x.dest c ≡ b → call_lt x.dest c ≡ false → Ahead x xs → Higher c (drop n xs) → Higher c (drop (cond b (1 + n) 0) (x ∷ xs))
behind_case true c x xs n e l a h = let z : 1 + n ≡ suc n = omega arith in rw z h
behind_case false c x xs n e l a h = let up = call_lt_total x.dest c l e in (up, higher_all c x xs up a)

pub behind_higher : (c : Callsign) (rs : List Route) → InRows rs → NotLower c rs → Higher c (behind c rs)
behind_higher c [] h n = tt
behind_higher c (x ∷ xs) h n = behind_case (same_call x.dest c) c x xs (run c xs) refl n.0 h.0 (behind_higher c xs h.1 n.1)

-- the rows to a destination: those of its run

run_case : (b : Bool) (c : Callsign) (x : Route) (xs : List Route) (n : ℕ) → same_call x.dest c ≡ b → call_lt x.dest c ≡ false → Ahead x xs → filter (is_to c) xs ≡ take n xs → filter (is_to c) (x ∷ xs) ≡ take (cond b (1 + n) 0) (x ∷ xs)
run_case true c x xs n e l a h = let z : 1 + n ≡ suc n = omega arith in rw (z, e) (ap (λ ys. x ∷ ys) h)
run_case false c x xs n e l a h =
    let up = call_lt_total x.dest c l e in
    none_to_higher c (x ∷ xs) (up, higher_all c x xs up a)

run_is : (c : Callsign) (rs : List Route) → InRows rs → NotLower c rs → filter (is_to c) rs ≡ take (run c rs) rs
run_is c [] h n = refl
run_is c (x ∷ xs) h n = run_case (same_call x.dest c) c x xs (run c xs) refl n.0 h.0 (run_is c xs h.1 n.1)

pub first_not_lower : (r : Route) (rs : List Route) → InRows (r ∷ rs) → NotLower r.dest rs
first_not_lower r rs h = none_lower r.dest r rs (call_lt_equal r.dest r.dest refl) h.0

pub group_is : (r : Route) (rs : List Route) → InRows (r ∷ rs) → filter (is_to r.dest) (r ∷ rs) ≡ r ∷ take (run r.dest rs) rs
group_is r rs h = rw (call_refl r.dest) (ap (λ ys. r ∷ ys) (run_is r.dest rs h.1 (first_not_lower r rs h)))

-- the rows to a higher destination are behind the run

past_case : (b : Bool) (c d : Callsign) (x : Route) (xs : List Route) (n : ℕ) → same_call x.dest c ≡ b → call_lt c d ≡ true → filter (is_to d) xs ≡ filter (is_to d) (drop n xs) → filter (is_to d) (x ∷ xs) ≡ filter (is_to d) (drop (cond b (1 + n) 0) (x ∷ xs))
past_case true c d x xs n e l h =
    let z : 1 + n ≡ suc n = omega arith in
    let s : call_lt x.dest d ≡ true = ap (λ k. call_lt k d) (same_call-true x.dest c e) ∙ l in
    let f : same_call x.dest d ≡ false = not_to_lower d x s in
    rw (z, f) h
past_case false c d x xs n e l h = refl

past_run : (c d : Callsign) (rs : List Route) → call_lt c d ≡ true → filter (is_to d) rs ≡ filter (is_to d) (behind c rs)
past_run c d [] l = refl
past_run c d (x ∷ xs) l = past_case (same_call x.dest c) c d x xs (run c xs) refl l (past_run c d xs l)

past_group : (r : Route) (rs : List Route) (d : Callsign) → call_lt r.dest d ≡ true → filter (is_to d) (r ∷ rs) ≡ filter (is_to d) (behind r.dest rs)
past_group r rs d l = let z : run r.dest (r ∷ rs) ≡ suc (run r.dest rs) = one in past_run r.dest d (r ∷ rs) l ∙ ap (λ n. filter (is_to d) (drop n (r ∷ rs))) z
  where
    one : run r.dest (r ∷ rs) ≡ suc (run r.dest rs)
    one = rw (call_refl r.dest) (omega arith)

-- destinations rise

abbrev pub Below : Callsign → List Callsign → Type 0
Below c ds = AllByRecursion (λ d. call_lt c d ≡ true) ds

abbrev pub InOrder : List Callsign → Type 0
InOrder [] = Unit {0}
InOrder (c ∷ cs) = Below c cs × InOrder cs

below_more : (c d : Callsign) → call_lt c d ≡ true → (ds : List Callsign) → Below d ds → Below c ds
below_more c d h [] k = tt
below_more c d h (e ∷ ds) k = (call_lt_trans c d e h k.0, below_more c d h ds k.1)

below_case : (c k : Callsign) (b : Bool) (x : Route) (more next : List Callsign) → call_lt c k ≡ true → Below c more → Below c next → Below c (cond b more (k ∷ next))
below_case c k true x more next l h i = h
below_case c k false x more next l h i = (l, i)

dedup_below : (c k : Callsign) (xs : List Route) → call_lt c k ≡ true → Higher c xs → Below c (dedup_from same_call k (map (λ (r : Route). r.dest) xs))
dedup_below c k [] l h = (l, tt)
dedup_below c k (x ∷ xs) l h = below_case c k (same_call x.dest k) x _ _ l (dedup_below c k xs l h.1) (dedup_below c x.dest xs h.0 h.1)

calls_below : (c : Callsign) (xs : List Route) → Higher c xs → Below c (calls_of xs)
calls_below c [] h = tt
calls_below c (x ∷ xs) h = dedup_below c x.dest xs h.0 h.1

pub next_below : (r : Route) (rs : List Route) → InRows (r ∷ rs) → Below r.dest (calls_of (behind r.dest rs))
next_below r rs h = calls_below r.dest (behind r.dest rs) (behind_higher r.dest rs h.1 (first_not_lower r rs h))

order_case : (b : Bool) (k : Callsign) (x : Route) (more next : List Callsign) → InOrder more → (b ≡ false → Below k next) → InOrder next → InOrder (cond b more (k ∷ next))
order_case true k x more next h f i = h
order_case false k x more next h f i = (f refl, i)

dedup_order : (k : Callsign) (xs : List Route) → InRows xs → NotLower k xs → InOrder (dedup_from same_call k (map (λ (r : Route). r.dest) xs))
dedup_order k [] h n = (tt, tt)
dedup_order k (x ∷ xs) h n =
    order_case (same_call x.dest k) k x _ _ (dedup_order k xs h.1 n.1)
    (λ e. let up = call_lt_total x.dest k n.0 e in dedup_below k x.dest xs up (higher_all k x xs up h.0))
    (dedup_order x.dest xs h.1 (first_not_lower x xs h))

pub calls_rise : (rows : List Route) → InRows rows → InOrder (calls_of rows)
calls_rise [] h = tt
calls_rise (x ∷ xs) h = dedup_order x.dest xs h.1 (first_not_lower x xs h)

pub rise_from_order : (ds : List Callsign) → InOrder ds → Rise ds
rise_from_order [] h = λ i j d lo hi. absurd (omega arith)
rise_from_order (c ∷ cs) h = AllPairs-cons (λ a b. call_lt a b ≡ true) c cs (All-from_recursion (λ d. call_lt c d ≡ true) cs h.0) (rise_from_order cs h.1)

pub destinations_rise : (rules : RouteRules) (log : List Item) → Rise (destinations rules log)
destinations_rise rules log = rise_from_order (destinations rules log) (calls_rise (table rules log) (in_order_rows (usable rules log) (usable_once rules log)))

-- what is told of each destination, one after another

flat_past : (r : Route) (rs : List Route) (ds : List Callsign) → Below r.dest ds → flat_map (best_of (r ∷ rs)) ds ≡ flat_map (best_of (behind r.dest rs)) ds
flat_past r rs [] h = refl
flat_past r rs (d ∷ ds) h = rw (past_group r rs d h.0, flat_past r rs ds h.1) refl

pub best_next : (r : Route) (rs : List Route) → InRows (r ∷ rs)
    → flat_map (best_of (r ∷ rs)) (calls_of (r ∷ rs)) ≡ take 3 (r ∷ take (run r.dest rs) rs) ++ flat_map (best_of (behind r.dest rs)) (calls_of (behind r.dest rs))
best_next r rs h =
    ap (flat_map (best_of (r ∷ rs))) (calls_next r rs)
    ∙ (ap (λ xs. take 3 xs ++ flat_map (best_of (r ∷ rs)) (calls_of (behind r.dest rs))) (group_is r rs h)
    ∙ ap (λ ys. take 3 (r ∷ take (run r.dest rs) rs) ++ ys) (flat_past r rs (calls_of (behind r.dest rs)) (next_below r rs h)))

told_past : (least : ℕ) (r : Route) (rs : List Route) (ds : List Callsign) → Below r.dest ds → filter_map (entry_from least (r ∷ rs)) ds ≡ filter_map (entry_from least (behind r.dest rs)) ds
told_past least r rs [] h = refl
told_past least r rs (d ∷ ds) h = rw (past_group r rs d h.0, told_past least r rs ds h.1) refl

abbrev pub told : ℕ → List Route → List Entry
told least rows = filter_map (entry_from least rows) (calls_of rows)

pub told_next : (least : ℕ) (r : Route) (rs : List Route) → InRows (r ∷ rs) → told least (r ∷ rs) ≡ cons_option (entry_by least r.dest (Some r)) (told least (behind r.dest rs))
told_next least r rs h =
    ap (filter_map (entry_from least (r ∷ rs))) (calls_next r rs)
    ∙ (ap (λ xs. cons_option (entry_by least r.dest (slice_get (take 3 xs) 0)) (filter_map (entry_from least (r ∷ rs)) (calls_of (behind r.dest rs)))) (group_is r rs h)
    ∙ ap (cons_option (entry_by least r.dest (Some r))) (told_past least r rs (calls_of (behind r.dest rs)) (next_below r rs h)))

pub behind_rows : (c : Callsign) (rs : List Route) → InRows rs → InRows (behind c rs)
behind_rows c rs h = drop_rows (run c rs) rs h

-- the same, of rows that aren't taken apart

pub calls_step : (xs : List Route) (r : Route) → Some r ≡ slice_get xs 0 → calls_of xs ≡ r.dest ∷ calls_of (rows.behind xs)
calls_step [] r h = absurd (cc)
calls_step (x ∷ xs) r h = let e : x ≡ r = cc in calls_next x xs ∙ ap (λ (y : Route). y.dest ∷ calls_of (behind x.dest xs)) e

pub told_step : (least : ℕ) (xs : List Route) (r : Route) → InRows xs → Some r ≡ slice_get xs 0 → told least xs ≡ cons_option (entry_by least r.dest (Some r)) (told least (rows.behind xs))
told_step least [] r i h = absurd (cc)
told_step least (x ∷ xs) r i h = let e : x ≡ r = cc in told_next least x xs i ∙ ap (λ (y : Route). cons_option (entry_by least y.dest (Some y)) (told least (behind x.dest xs))) e

pub best_step : (xs : List Route) → InRows xs → 1 ≤ length xs → flat_map (best_of xs) (calls_of xs) ≡ rows.best_of_first xs ++ flat_map (best_of (rows.behind xs)) (calls_of (rows.behind xs))
best_step [] i h = absurd (omega arith)
best_step (x ∷ xs) i h = best_next x xs i

pub rest_rows : (xs : List Route) → InRows xs → InRows (rows.behind xs)
rest_rows [] h = tt
rest_rows (x ∷ xs) h = behind_rows x.dest xs h.1

pub none_left : (xs : List Route) → None ≡ slice_get xs 0 → xs ≡ []
none_left [] h = refl
none_left (x ∷ xs) h = absurd (cc)

pub take_few : (k : ℕ) (xs : List Route) (n : ℕ) → n ≡ min (length xs) k → take n xs ≡ take k xs
take_few zero xs n h = let z : n ≡ 0 = omega (arith, h) in rw z refl
take_few (suc k) [] n h = let z : n ≡ 0 = omega (arith, h) in rw z refl
take_few (suc k) (x ∷ xs) zero h = absurd (omega (arith, h))
take_few (suc k) (x ∷ xs) (suc n) h = ap (λ ys. x ∷ ys) (take_few k xs n (omega (arith, h)))

few_case : (b : Bool) (k : ℕ) (x : Route) (xs : List Route) (m n : ℕ) → take m xs ≡ take k (take n xs) → take (cond b (1 + m) 0) (x ∷ xs) ≡ take (suc k) (take (cond b (1 + n) 0) (x ∷ xs))
few_case true k x xs m n h =
    let y : 1 + m ≡ suc m = omega arith in
    let z : 1 + n ≡ suc n = omega arith in
    rw (y, z) (ap (λ ys. x ∷ ys) h)
few_case false k x xs m n h = refl

pub run_of_few : (c : Callsign) (k : ℕ) (xs : List Route) → take (run c (take k xs)) xs ≡ take k (take (run c xs) xs)
run_of_few c zero xs = refl
run_of_few c (suc k) [] = refl
run_of_few c (suc k) (x ∷ xs) = few_case (same_call x.dest c) k x xs (run c (take k xs)) (run c xs) (run_of_few c k xs)

pub few_of_first : (xs : List Route) (r : Route) → Some r ≡ slice_get xs 0 → take (run r.dest (take 3 xs)) xs ≡ rows.best_of_first xs
few_of_first [] r h = absurd (cc)
few_of_first (x ∷ xs) r h =
    let e : r ≡ x = cc in
    ap (λ (y : Route). take (run y.dest (take 3 (x ∷ xs))) (x ∷ xs)) e
    ∙ (run_of_few x.dest 3 (x ∷ xs) ∙ ap (take 3) whole)
  where
    whole : take (run x.dest (x ∷ xs)) (x ∷ xs) ≡ x ∷ take (run x.dest xs) xs
    whole = let z : 1 + run x.dest xs ≡ suc (run x.dest xs) = omega arith in rw (call_refl x.dest, z) refl

pub first_of : (c : Callsign) (cs all : List Callsign) (i : ℕ) → i ≡ 0 → all ≡ c ∷ cs → Some c ≡ slice_get all i
first_of c cs all i h e = rw (h, e) refl

pub next_of : (c : Callsign) (cs all : List Callsign) (i : ℕ) → (i ≡ 0 → ⊥) → all ≡ c ∷ cs → slice_get cs (i - 1) ≡ slice_get all i
next_of c cs all zero h e = absurd (h refl)
next_of c cs all (suc i) h e = let z : suc i - 1 ≡ i = omega arith in rw (z, e) refl

pub page_full : (xs later all : List Entry) → length xs ≡ 11 → xs ++ later ≡ all → xs ≡ take 11 all
page_full xs later all h t = rw (← t) (sym (take-append-le 11 xs later (omega arith) ∙ take_all 11 xs (omega arith)))

drop_none : (n : ℕ) (xs : List Entry) → xs ≡ [] → drop n xs ≡ []
drop_none zero xs h = h
drop_none (suc n) [] h = refl
drop_none (suc n) (x ∷ xs) h = absurd (cc)

pub page_done : (least skip : ℕ) (rest : List Route) (xs all : List Entry) → length xs ≤ 11 → rest ≡ [] → xs ++ drop skip (told least rest) ≡ all → xs ≡ take 11 all
page_done least skip rest xs all h e t =
    let n : drop skip (told least rest) ≡ [] = drop_none skip (told least rest) (ap (told least) e) in
    let a : xs ≡ all = sym (append-nil xs) ∙ (ap (λ ys. xs ++ ys) (sym n) ∙ t) in
    rw (← a) (sym (take_all 11 xs h))
