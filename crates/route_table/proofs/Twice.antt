-- No two usable routes of a log are of one pair.
use Rattle.std.proofs.Common.{◌≡◌, ◌++◌, ◌∙◌, ℕ, refl, sym, ap, List, [], ◌∷◌, Bool, true, false, cond, append_assoc}
use Rattle.std.specs.Prelude.{◌&&◌, ◌||◌, not, nat_lt, AllPairs}
use Rattle.std.specs.List.{list_any, AllByRecursion}
use Rattle.std.proofs.lemmas.List.Folds.{list_any-append}
use Rattle.std.proofs.lemmas.Bool.{and_parts, or_parts, or_right}
use Rattle.ax_address.specs.Callsign.{Callsign, same_call}
use Rattle.ax_address.specs.declared.alias.Alias.{Alias}
use Rattle.ax_address.proofs.SameCalls.{same_call-true, call_refl}
use Rattle.route_table.specs.declared.route.Route.{Route}
use Rattle.route_table.specs.declared.route.RouteRules.{RouteRules}
use Rattle.route_table.specs.Log.{Item, Report, Lock, Round, Failure}
use Rattle.route_table.specs.Table.{is_report_of, is_lock_of, is_failure_of, rounds, is_live, live_among, live, AreInOrder, is_good, usable, table}
use Rattle.route_table.specs.Rows.{is_same_pair}
use Rattle.route_table.specs.Places.{NoneTwice}
use Rattle.route_table.proofs.Sorting.{filter_once, in_order_rows, pairs_from_rows, pairs_from_once}

abbrev OffPair : Callsign → Callsign → Route → Type 0
OffPair d n s = (same_call d s.dest && same_call n s.neighbour) ≡ false

all_case : (P : Route → Type 0) (T : Bool) (r : Route) (rest : List Route) → (T ≡ true → P r) → AllByRecursion P rest → AllByRecursion P (cond T (r ∷ []) [] ++ rest)
all_case P true r rest p h = (p refl, h)
all_case P false r rest p h = h

lock_case : (P : Route → Type 0) (B : Bool) (r : Route) (rest : List Route) → P r → AllByRecursion P rest → AllByRecursion P (cond B [] (r ∷ []) ++ rest)
lock_case P true r rest p h = h
lock_case P false r rest p h = (p, h)

-- where neither a report nor a lock of a pair follows, no route of it does
none_of_pair : (life : ℕ) (log : List Item) (d n : Callsign) (xs : List Item) → list_any (is_report_of d n) xs ≡ false → list_any (is_lock_of d n) xs ≡ false → AllByRecursion (OffPair d n) (live_among life log xs)
none_of_pair life log d n [] h k = tt
none_of_pair life log d n (Report e a m q ∷ xs) h k =
    let p = or_parts (same_call d e && same_call n m) (list_any (is_report_of d n) xs) h in
    all_case (OffPair d n) (is_live life log e m xs) _ (live_among life log xs) (λ _. p.0) (none_of_pair life log d n xs p.1 k)
none_of_pair life log d n (Lock e a m q ∷ xs) h k =
    let p = or_parts (same_call d e && same_call n m) (list_any (is_lock_of d n) xs) k in
    lock_case (OffPair d n) (list_any (is_lock_of e m) xs) _ (live_among life log xs) p.0 (none_of_pair life log d n xs h p.1)
none_of_pair life log d n (Round ∷ xs) h k = none_of_pair life log d n xs h k
none_of_pair life log d n (Failure m ∷ xs) h k = none_of_pair life log d n xs h k

live_unlocked : (A L F W : Bool) → (((not A && not L) && not F) && W) ≡ true → (A ≡ false) × (L ≡ false)
live_unlocked true L F W h = absurd (cc)
live_unlocked false true F W h = absurd (cc)
live_unlocked false false F W h = (refl, refl)

locked_case : (d n e m : Callsign) (log : List Item) (S : Bool) → (same_call d e && same_call n m) ≡ S → list_any (is_lock_of d n) log ≡ true → list_any (is_lock_of e m) log ≡ false → S ≡ false
locked_case d n e m log false s l k = refl
locked_case d n e m log true s l k =
    let p = and_parts (same_call d e) (same_call n m) s in
    let de = same_call-true d e p.0 in
    let nm = same_call-true n m p.1 in
    let same : list_any (is_lock_of d n) log ≡ list_any (is_lock_of e m) log = rw (de, nm) refl in
    absurd (cc)

-- where a pair is locked and no lock of it follows, no route of it does
none_of_locked : (life : ℕ) (log : List Item) (d n : Callsign) → list_any (is_lock_of d n) log ≡ true → (xs : List Item) → list_any (is_lock_of d n) xs ≡ false → AllByRecursion (OffPair d n) (live_among life log xs)
none_of_locked life log d n l [] k = tt
none_of_locked life log d n l (Report e a m q ∷ xs) k =
    all_case (OffPair d n) (is_live life log e m xs) _ (live_among life log xs)
    (λ t. locked_case d n e m log (same_call d e && same_call n m) refl l (live_unlocked (list_any (is_report_of e m) xs) (list_any (is_lock_of e m) log) (list_any (is_failure_of m) xs) (nat_lt (rounds xs) life) t).1)
    (none_of_locked life log d n l xs k)
none_of_locked life log d n l (Lock e a m q ∷ xs) k =
    let p = or_parts (same_call d e && same_call n m) (list_any (is_lock_of d n) xs) k in
    lock_case (OffPair d n) (list_any (is_lock_of e m) xs) _ (live_among life log xs) p.0 (none_of_locked life log d n l xs p.1)
none_of_locked life log d n l (Round ∷ xs) k = none_of_locked life log d n l xs k
none_of_locked life log d n l (Failure m ∷ xs) k = none_of_locked life log d n l xs k

twice_case : (T : Bool) (r : Route) (rest : List Route) → (T ≡ true → AllByRecursion (OffPair r.dest r.neighbour) rest) → NoneTwice rest → NoneTwice (cond T (r ∷ []) [] ++ rest)
twice_case true r rest p h = (p refl, h)
twice_case false r rest p h = h

twice_lock : (B : Bool) (r : Route) (rest : List Route) → (B ≡ false → AllByRecursion (OffPair r.dest r.neighbour) rest) → NoneTwice rest → NoneTwice (cond B [] (r ∷ []) ++ rest)
twice_lock true r rest p h = h
twice_lock false r rest p h = (p refl, h)

no_later_lock : (d n : Callsign) (log pre xs : List Item) (x : Item) → log ≡ pre ++ x ∷ xs → list_any (is_lock_of d n) log ≡ false → list_any (is_lock_of d n) xs ≡ false
no_later_lock d n log pre xs x e h =
    let k : (list_any (is_lock_of d n) pre || list_any (is_lock_of d n) (x ∷ xs)) ≡ false = sym (list_any-append (is_lock_of d n) pre (x ∷ xs)) ∙ (ap (list_any (is_lock_of d n)) (sym e) ∙ h) in
    (or_parts (is_lock_of d n x) (list_any (is_lock_of d n) xs) (or_parts (list_any (is_lock_of d n) pre) (list_any (is_lock_of d n) (x ∷ xs)) k).1).1

is_locked_there : (d n : Callsign) (a : Alias) (q : ℕ) (log pre xs : List Item) → log ≡ pre ++ Lock d a n q ∷ xs → list_any (is_lock_of d n) log ≡ true
is_locked_there d n a q log pre xs e =
    ap (list_any (is_lock_of d n)) e
    ∙ (list_any-append (is_lock_of d n) pre (Lock d a n q ∷ xs)
    ∙ or_right (list_any (is_lock_of d n) pre) ((same_call d d && same_call n n) || list_any (is_lock_of d n) xs) (rw (call_refl d, call_refl n) refl))

next_part : (log pre xs : List Item) (x : Item) → log ≡ pre ++ x ∷ xs → log ≡ (pre ++ x ∷ []) ++ xs
next_part log pre xs x e = e ∙ sym (append_assoc pre (x ∷ []) xs)

none_twice : (life : ℕ) (log pre xs : List Item) → log ≡ pre ++ xs → NoneTwice (live_among life log xs)
none_twice life log pre [] e = tt
none_twice life log pre (Report d a n q ∷ xs) e =
    twice_case (is_live life log d n xs) _ (live_among life log xs)
    (λ t. let p = live_unlocked (list_any (is_report_of d n) xs) (list_any (is_lock_of d n) log) (list_any (is_failure_of n) xs) (nat_lt (rounds xs) life) t in
    none_of_pair life log d n xs p.0 (no_later_lock d n log pre xs (Report d a n q) e p.1))
    (none_twice life log (pre ++ Report d a n q ∷ []) xs (next_part log pre xs (Report d a n q) e))
none_twice life log pre (Lock d a n q ∷ xs) e =
    twice_lock (list_any (is_lock_of d n) xs) _ (live_among life log xs)
    (λ b. none_of_locked life log d n (is_locked_there d n a q log pre xs e) xs b)
    (none_twice life log (pre ++ Lock d a n q ∷ []) xs (next_part log pre xs (Lock d a n q) e))
none_twice life log pre (Round ∷ xs) e = none_twice life log (pre ++ Round ∷ []) xs (next_part log pre xs Round e)
none_twice life log pre (Failure n ∷ xs) e = none_twice life log (pre ++ Failure n ∷ []) xs (next_part log pre xs (Failure n) e)

pub usable_once : (rules : RouteRules) (log : List Item) → NoneTwice (usable rules log)
usable_once rules log = filter_once (is_good rules.minq) (live rules.life log) (none_twice rules.life log [] log refl)

pub no_pair_twice : (rules : RouteRules) (log : List Item) → AllPairs (λ a b. is_same_pair a b ≡ false) (usable rules log)
no_pair_twice rules log = pairs_from_once (usable rules log) (usable_once rules log)

pub table_in_order : (rules : RouteRules) (log : List Item) → AreInOrder (table rules log)
table_in_order rules log = pairs_from_rows (table rules log) (in_order_rows (usable rules log) (usable_once rules log))
