-- A table that stood for a log stands for the log with more items.
use Rattle.std.proofs.Common.{◌≡◌, ◌≤◌, ◌++◌, ◌∙◌, ℕ, refl, sym, ap, List, [], ◌∷◌, filter, map, length, subst, append-nil, append_assoc, Bool, true, false, cond}
use Rattle.std.specs.Prelude.{◌||◌, ◌&&◌, not, is_none, Some, IsPermutation}
use Rattle.std.specs.List.{AllByRecursion, list_any}
use Rattle.std.proofs.lemmas.List.Sorted.{IsPermutation-map, IsPermutation-trans, IsPermutation-to_front, IsPermutation-cons, list_any-IsPermutation, length_permutation}
use Rattle.ax_address.specs.Callsign.{Callsign, same_call}
use Rattle.ax_address.specs.declared.alias.Alias.{Alias}
use Rattle.ax_address.specs.declared.entry.Entry.{Entry}
use Rattle.route_table.specs.declared.route.Route.{Route}
use Rattle.route_table.specs.declared.route.RouteRules.{RouteRules}
use Rattle.route_table.specs.Log.{Item, Report, Lock, Round, Failure, broadcast, entry_reports, quality_over}
use Rattle.route_table.specs.Table.{is_good, usable, table, placed}
use Rattle.route_table.specs.Held.{IsGoodLock, StandsFor}
use Rattle.route_table.specs.Places.{Stand, InRows, NoneTwice, AreCounted}
use Rattle.route_table.specs.Rows.{is_same_pair, is_lock_on, fresh, stays, stays_beside, beside, rows_with, with_report, after_reports, older, still_counts, after_round, outlives}
use Rattle.route_table.proofs.Order.{same_pair_sym}
use Rattle.route_table.proofs.Sorting.{placed_moves, filter_moves, in_order_is}
use Rattle.route_table.proofs.Twice.{usable_once}
use Rattle.route_table.proofs.Changing.{report_stand, apart_none, no_lock, older_once}
use Rattle.route_table.proofs.LogSteps.{IsReport, usable-round, usable-failure, usable-reports}

pub good_locks-append : (minq : ℕ) (xs ys : List Item) → AllByRecursion (IsGoodLock minq) xs → AllByRecursion (IsGoodLock minq) ys → AllByRecursion (IsGoodLock minq) (xs ++ ys)
good_locks-append minq [] ys h k = k
good_locks-append minq (x ∷ xs) ys h k = (h.0, good_locks-append minq xs ys h.1 k)

reports_good : (minq : ℕ) (xs : List Item) → AllByRecursion IsReport xs → AllByRecursion (IsGoodLock minq) xs
reports_good minq [] h = tt
reports_good minq (Report d a n q ∷ xs) h = (tt, reports_good minq xs h.1)
reports_good minq (Lock d a n q ∷ xs) h = absurd h.0
reports_good minq (Round ∷ xs) h = absurd h.0
reports_good minq (Failure n ∷ xs) h = absurd h.0

entry_case : (b : Bool) (r : Item) (xs : List Item) → IsReport r → AllByRecursion IsReport xs → AllByRecursion IsReport (cond b xs (r ∷ xs))
entry_case true r xs h k = k
entry_case false r xs h k = (h, k)

entries_report : (own n : Callsign) (path : ℕ) (es : List Entry) → AllByRecursion IsReport (entry_reports own n path es)
entries_report own n path [] = tt
entries_report own n path (e ∷ es) = entry_case (same_call e.dest own || same_call e.dest n) (Report e.dest e.alias n (quality_over own path e)) (entry_reports own n path es) tt (entries_report own n path es)

own_case : (b : Bool) (xs : List Item) → AllByRecursion IsReport xs → AllByRecursion IsReport (cond b [] xs)
own_case true xs h = tt
own_case false xs h = h

broadcast_reports : (own n : Callsign) (a : Alias) (path : ℕ) (es : List Entry) → AllByRecursion IsReport (broadcast own n a path es)
broadcast_reports own n a path es = own_case (same_call n own) (Report n a n path ∷ entry_reports own n path es) (tt, entries_report own n path es)

-- the rows of a table are those of its log, in order
pub table_is : (own : Callsign) (rules : RouteRules) (rows : List Route) (log : List Item) → Stand rows → StandsFor (record { own = own; rules = rules; rows = rows }) log → rows ≡ table rules log
table_is own rules rows log h s = in_order_is (usable rules log) rows (usable_once rules log) h.order s.rows

pub live_is : (own : Callsign) (rules : RouteRules) (rows : List Route) (log : List Item) → StandsFor (record { own = own; rules = rules; rows = rows }) log → length rows ≡ length (usable rules log)
live_is own rules rows log s = length_permutation (usable rules log) rows s.rows

pub filtered : (rules : RouteRules) (rows : List Route) (log : List Item) (p : Route → Bool) → Stand rows → IsPermutation (usable rules log) rows → IsPermutation (filter p (usable rules log)) (filter p rows)
filtered rules rows log p h m = filter_moves p (usable rules log) rows (usable_once rules log) h.order m

-- what the rows of a table come to stands for the log with the items

pub round_stands : (own : Callsign) (rules : RouteRules) (rows new : List Route) (log : List Item) → Stand rows → InRows (map older rows) → new ≡ after_round rows → StandsFor (record { own = own; rules = rules; rows = rows }) log → StandsFor (record { own = own; rules = rules; rows = new }) (log ++ Round ∷ [])
round_stands own rules rows new log h k e s =
    let aged = IsPermutation-map older (usable rules log) rows s.rows in
    let moved : IsPermutation (after_round (usable rules log)) (after_round rows) = filter_moves (λ r. still_counts r.count) (map older (usable rules log)) (map older rows) (older_once (usable rules log) (usable_once rules log)) k aged in
    record {
      locks = good_locks-append rules.minq log (Round ∷ []) s.locks (tt, tt);
      rows = subst (λ xs. IsPermutation xs new) (sym (usable-round rules log)) (subst (λ ys. IsPermutation (after_round (usable rules log)) ys) (sym e) moved);
    }

pub failure_stands : (own : Callsign) (rules : RouteRules) (rows new : List Route) (n : Callsign) (log : List Item) → Stand rows → new ≡ filter (outlives n) rows → StandsFor (record { own = own; rules = rules; rows = rows }) log → StandsFor (record { own = own; rules = rules; rows = new }) (log ++ Failure n ∷ [])
failure_stands own rules rows new n log h e s = record {
  locks = good_locks-append rules.minq log (Failure n ∷ []) s.locks (tt, tt);
  rows = subst (λ xs. IsPermutation xs new) (sym (usable-failure rules n log)) (subst (λ ys. IsPermutation (filter (outlives n) (usable rules log)) ys) (sym e) (filtered rules rows log (outlives n) h s.rows));
}

-- one report

stays_all : (r : Route) (xs : List Route) → list_any (is_same_pair r) xs ≡ false → filter (stays (r ∷ [])) xs ≡ xs
stays_all r [] h = refl
stays_all r (x ∷ xs) h = cases (is_none x.count) (is_same_pair r x) (list_any (is_same_pair r) xs) h (same_pair_sym x r) (stays_all r xs)
  where
    cases : (c b t : Bool) → (b || t) ≡ false → is_same_pair x r ≡ b → (t ≡ false → filter (stays (r ∷ [])) xs ≡ xs) → cond (c || not (is_same_pair x r || false)) (x ∷ filter (stays (r ∷ [])) xs) (filter (stays (r ∷ [])) xs) ≡ x ∷ xs
    cases c true t k e f = absurd (cc)
    cases true false t k e f = ap (λ ys. x ∷ ys) (f k)
    cases false false t k e f = rw e (ap (λ ys. x ∷ ys) (f k))

-- a lock of the report's pair is the only row of it, and stays
stays_locked : (r : Route) (xs : List Route) → NoneTwice xs → list_any (is_lock_on r) xs ≡ true → filter (stays (r ∷ [])) xs ≡ xs
stays_locked r [] n h = refl
stays_locked r (x ∷ xs) n h = cases (is_none x.count) (is_same_pair r x) refl h (same_pair_sym x r) (stays_locked r xs n.1)
  where
    cases : (c b : Bool) → is_same_pair r x ≡ b → ((c && b) || list_any (is_lock_on r) xs) ≡ true → is_same_pair x r ≡ is_same_pair r x → (list_any (is_lock_on r) xs ≡ true → filter (stays (r ∷ [])) xs ≡ xs)
        → cond (c || not (is_same_pair x r || false)) (x ∷ filter (stays (r ∷ [])) xs) (filter (stays (r ∷ [])) xs) ≡ x ∷ xs
    cases true true e k y f = ap (λ ys. x ∷ ys) (stays_all r xs (apart_none r x xs e n.0))
    cases true false e k y f = ap (λ ys. x ∷ ys) (f k)
    cases false true e k y f =
        let none : list_any (is_lock_on r) xs ≡ false = no_lock r xs (apart_none r x xs e n.0) in
        absurd (cc)
    cases false false e k y f = let g : is_same_pair x r ≡ false = y ∙ e in rw g (ap (λ ys. x ∷ ys) (f k))

-- where no row is a lock of the report's pair, what stays is what is beside it
stays_beside_it : (r : Route) (xs : List Route) → list_any (is_lock_on r) xs ≡ false → filter (stays (r ∷ [])) xs ≡ beside r xs
stays_beside_it r [] h = refl
stays_beside_it r (x ∷ xs) h = cases (is_none x.count) (is_same_pair x r) (list_any (is_lock_on r) xs) (ap (λ b. (is_none x.count && b) || list_any (is_lock_on r) xs) (same_pair_sym x r) ∙ h) (stays_beside_it r xs)
  where
    cases : (c b t : Bool) → ((c && b) || t) ≡ false → (t ≡ false → filter (stays (r ∷ [])) xs ≡ beside r xs) → cond (c || not (b || false)) (x ∷ filter (stays (r ∷ [])) xs) (filter (stays (r ∷ [])) xs) ≡ cond (not b) (x ∷ beside r xs) (beside r xs)
    cases true true t k f = absurd (cc)
    cases true false t k f = ap (λ ys. x ∷ ys) (f k)
    cases false true t k f = f k
    cases false false t k f = ap (λ ys. x ∷ ys) (f k)

report_moves : (minq : ℕ) (r : Route) (U rows : List Route) → NoneTwice U → Stand rows → IsPermutation U rows → IsPermutation (beside r U) (beside r rows) → IsPermutation (rows_with minq (r ∷ []) U) (with_report minq r rows)
report_moves minq r U rows n h m b = cases (list_any (is_lock_on r) U) (is_good minq r) refl (sym (list_any-IsPermutation (is_lock_on r) U rows m))
  where
    cases : (L G : Bool) → list_any (is_lock_on r) U ≡ L → list_any (is_lock_on r) rows ≡ list_any (is_lock_on r) U
        → IsPermutation (filter (stays (r ∷ [])) U ++ cond ((G && true) && not L) (r ∷ []) []) (cond (list_any (is_lock_on r) rows) rows (cond G (placed r (beside r rows)) (beside r rows)))
    cases true true l e =
        let k : list_any (is_lock_on r) rows ≡ true = e ∙ l in
        rw (k, stays_locked r U n l, append-nil U) m
    cases true false l e =
        let k : list_any (is_lock_on r) rows ≡ true = e ∙ l in
        rw (k, stays_locked r U n l, append-nil U) m
    cases false true l e =
        let k : list_any (is_lock_on r) rows ≡ false = e ∙ l in
        rw (k, stays_beside_it r U l) (IsPermutation-trans (beside r U ++ r ∷ []) (r ∷ beside r U) (placed r (beside r rows)) (IsPermutation-to_front (beside r U) r)
        (IsPermutation-trans (r ∷ beside r U) (r ∷ beside r rows) (placed r (beside r rows)) (IsPermutation-cons r (beside r U) (beside r rows) b) (placed_moves r (beside r rows))))
    cases false false l e =
        let k : list_any (is_lock_on r) rows ≡ false = e ∙ l in
        rw (k, stays_beside_it r U l, append-nil (beside r U)) b

report_goes_on : (own : Callsign) (rules : RouteRules) (rows : List Route) (x : Item) (log : List Item) (r : Route) → 1 ≤ rules.life → IsReport x → fresh rules.life (x ∷ []) ≡ r ∷ [] → Stand rows → StandsFor (record { own = own; rules = rules; rows = rows }) log
    → StandsFor (record { own = own; rules = rules; rows = with_report rules.minq r rows }) (log ++ x ∷ [])
report_goes_on own rules rows x log r l i f h s =
    let u : usable rules (log ++ x ∷ []) ≡ rows_with rules.minq (r ∷ []) (usable rules log) = usable-reports rules log (x ∷ []) l s.locks (i, tt) ∙ ap (λ rs. rows_with rules.minq rs (usable rules log)) f in
    let m = report_moves rules.minq r (usable rules log) rows (usable_once rules log) h s.rows (filtered rules rows log (stays_beside r) h s.rows) in
    record {
      locks = good_locks-append rules.minq log (x ∷ []) s.locks (reports_good rules.minq (x ∷ []) (i, tt));
      rows = subst (λ xs. IsPermutation xs (with_report rules.minq r rows)) (sym u) m;
    }

reports_go_on : (own : Callsign) (rules : RouteRules) (rows : List Route) (xs log : List Item) → 1 ≤ rules.life → AllByRecursion IsReport xs → Stand rows → StandsFor (record { own = own; rules = rules; rows = rows }) log
    → StandsFor (record { own = own; rules = rules; rows = after_reports rules.minq (fresh rules.life xs) rows }) (log ++ xs)
reports_go_on own rules rows [] log l i h s = subst (λ xs. StandsFor (record { own = own; rules = rules; rows = rows }) xs) (sym (append-nil log)) s
reports_go_on own rules rows (Report d a n q ∷ xs) log l i h s =
    let r : Route = record { dest = d; alias = a; neighbour = n; quality = q; count = Some rules.life } in
    let one = report_goes_on own rules rows (Report d a n q) log r l tt refl h s in
    let more = reports_go_on own rules (with_report rules.minq r rows) xs (log ++ Report d a n q ∷ []) l i.1 (report_stand rules.minq r rows h) one in
    subst (λ ys. StandsFor (record { own = own; rules = rules; rows = after_reports rules.minq (fresh rules.life (Report d a n q ∷ xs)) rows }) ys) (append_assoc log (Report d a n q ∷ []) xs) more
reports_go_on own rules rows (Lock d a n q ∷ xs) log l i h s = absurd i.0
reports_go_on own rules rows (Round ∷ xs) log l i h s = absurd i.0
reports_go_on own rules rows (Failure n ∷ xs) log l i h s = absurd i.0

fresh_counted : (life : ℕ) (xs : List Item) → AllByRecursion IsReport xs → AreCounted (fresh life xs)
fresh_counted life [] h = tt
fresh_counted life (Report d a n q ∷ xs) h = (refl, fresh_counted life xs h.1)
fresh_counted life (Lock d a n q ∷ xs) h = absurd h.0
fresh_counted life (Round ∷ xs) h = absurd h.0
fresh_counted life (Failure n ∷ xs) h = absurd h.0

pub heard_counted : (life : ℕ) (by n : Callsign) (a : Alias) (path : ℕ) (es : List Entry) (reports : List Route) → reports ≡ fresh life (broadcast by n a path es) → AreCounted reports
heard_counted life by n a path es reports e = subst AreCounted (sym e) (fresh_counted life (broadcast by n a path es) (broadcast_reports by n a path es))

pub heard_stands : (own : Callsign) (rules : RouteRules) (rows new reports : List Route) (by n : Callsign) (a : Alias) (path : ℕ) (es : List Entry) (log : List Item) → 1 ≤ rules.life → Stand rows
    → reports ≡ fresh rules.life (broadcast by n a path es) → new ≡ after_reports rules.minq reports rows → StandsFor (record { own = own; rules = rules; rows = rows }) log → StandsFor (record { own = own; rules = rules; rows = new }) (log ++ broadcast by n a path es)
heard_stands own rules rows new reports by n a path es log l h er e s =
    let eq : new ≡ after_reports rules.minq (fresh rules.life (broadcast by n a path es)) rows = e ∙ ap (λ rs. after_reports rules.minq rs rows) er in
    subst (λ xs. StandsFor (record { own = own; rules = rules; rows = xs }) (log ++ broadcast by n a path es)) (sym eq) (reports_go_on own rules rows (broadcast by n a path es) log l (broadcast_reports by n a path es) h s)

-- what the code counts before it changes the rows
pub heard_count : (own : Callsign) (rules : RouteRules) (rows reports : List Route) (by n : Callsign) (a : Alias) (path : ℕ) (es : List Entry) (k : ℕ) → 1 ≤ rules.life → Stand rows
    → reports ≡ fresh rules.life (broadcast by n a path es) → k ≡ length (after_reports rules.minq reports rows)
    → (log : List Item) → StandsFor (record { own = own; rules = rules; rows = rows }) log → k ≡ length (usable rules (log ++ broadcast by n a path es))
heard_count own rules rows reports by n a path es k l h er ek log s =
    ek ∙ live_is own rules (after_reports rules.minq reports rows) (log ++ broadcast by n a path es) (heard_stands own rules rows (after_reports rules.minq reports rows) reports by n a path es log l h er refl s)
