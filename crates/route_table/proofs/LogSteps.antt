-- How the usable routes of a log go on by more items.
use Rattle.std.proofs.Common.{◌≡◌, ◌≤◌, ◌+◌, ◌-◌, ◌++◌, ◌∙◌, ℕ, refl, sym, ap, List, [], ◌∷◌, map, filter, arith, Bool, true, false, cond, append_assoc, append-nil}
use Rattle.std.specs.Prelude.{Some, None, ◌||◌, ◌&&◌, ◌==◌, not, nat_lt, nat_le, is_none}
use Rattle.std.specs.List.{list_any, AllByRecursion}
use Rattle.std.proofs.lemmas.List.Elements.{filter-append}
use Rattle.std.proofs.lemmas.List.Folds.{list_any-append}
use Rattle.std.proofs.lemmas.Bool.Decides.{nat_tests}
use Rattle.std.proofs.lemmas.Bool.{and_parts}
use Rattle.std.proofs.Math.Bool.{or-false}
use Rattle.ax_address.specs.Callsign.{Callsign, same_call}
use Rattle.ax_address.specs.declared.alias.Alias.{Alias}
use Rattle.ax_address.proofs.SameCalls.{same_call-true}
use Rattle.route_table.specs.declared.route.Route.{Route}
use Rattle.route_table.specs.declared.route.RouteRules.{RouteRules}
use Rattle.route_table.specs.Log.{Item, Report, Lock, Round, Failure}
use Rattle.route_table.specs.Table.{is_report_of, is_lock_of, is_failure_of, rounds, is_live, live_of, live_among, live, is_good, usable}
use Rattle.route_table.specs.Held.{IsGoodLock}
use Rattle.route_table.specs.Rows.{is_same_pair, fresh, stays, new_rows, rows_with, older, still_counts, after_round, outlives}

abbrev pub row : Callsign → Alias → Callsign → ℕ → ℕ → Route
row d a n q c = record { dest = d; alias = a; neighbour = n; quality = q; count = Some c }

abbrev pub locked : Callsign → Alias → Callsign → ℕ → Route
locked d a n q = record { dest = d; alias = a; neighbour = n; quality = q; count = None }

-- where more items do the same to what each item of the log gives, they do it to the whole log, and give what they give
pub among-append : (life : ℕ) (log whole more : List Item) (change : List Route → List Route) → change [] ≡ [] → ((a b : List Route) → change (a ++ b) ≡ change a ++ change b) → ((x : Item) (later : List Item) → live_of life whole x (later ++ more) ≡ change (live_of life log x later)) → (xs : List Item) → live_among life whole (xs ++ more) ≡ change (live_among life log xs) ++ live_among life whole more
among-append life log whole more change e s step [] = rw e refl
among-append life log whole more change e s step (x ∷ xs) =
    rw (step x xs, among-append life log whole more change e s step xs, s (live_of life log x xs) (live_among life log xs))
    (sym (append_assoc (change (live_of life log x xs)) (change (live_among life log xs)) (live_among life whole more)))

pub rounds-append : (xs ys : List Item) → rounds (xs ++ ys) ≡ rounds xs + rounds ys
rounds-append [] ys = omega arith
rounds-append (Report d a n q ∷ xs) ys = rounds-append xs ys
rounds-append (Lock d a n q ∷ xs) ys = rounds-append xs ys
rounds-append (Round ∷ xs) ys = omega (arith, rounds-append xs ys)
rounds-append (Failure n ∷ xs) ys = rounds-append xs ys

-- a route that more items end where S holds
pub keep_if : (keep : Route → Bool) (r : Route) (S T : Bool) → keep r ≡ not S → cond (T && not S) (r ∷ []) [] ≡ filter keep (cond T (r ∷ []) [])
keep_if keep r true true k = rw k refl
keep_if keep r true false k = refl
keep_if keep r false true k = rw k refl
keep_if keep r false false k = refl

keep_lock : (keep : Route → Bool) (r : Route) (B : Bool) → keep r ≡ true → cond (B || false) [] (r ∷ []) ≡ filter keep (cond B [] (r ∷ []))
keep_lock keep r true k = refl
keep_lock keep r false k = rw k refl

failure_test : (A L F S W : Bool) → (((not (A || false) && not (L || false)) && not (F || (S || false))) && W) ≡ ((((not A && not L) && not F) && W) && not S)
failure_test true L F S W = refl
failure_test false true F S W = refl
failure_test false false true S W = refl
failure_test false false false true true = refl
failure_test false false false true false = refl
failure_test false false false false true = refl
failure_test false false false false false = refl

failure_step : (life : ℕ) (log : List Item) (n : Callsign) (x : Item) (later : List Item) → live_of life (log ++ Failure n ∷ []) x (later ++ Failure n ∷ []) ≡ filter (outlives n) (live_of life log x later)
failure_step life log n (Report d a m q) later =
    let z : rounds later + 0 ≡ rounds later = omega arith in
    rw (
      list_any-append (is_report_of d m) later (Failure n ∷ []),
      list_any-append (is_lock_of d m) log (Failure n ∷ []),
      list_any-append (is_failure_of m) later (Failure n ∷ []),
      rounds-append later (Failure n ∷ []),
      z,
      failure_test (list_any (is_report_of d m) later) (list_any (is_lock_of d m) log) (list_any (is_failure_of m) later) (same_call m n) (nat_lt (rounds later) life),
    )
    (keep_if (outlives n) (row d a m q (life - rounds later)) (same_call m n) (is_live life log d m later) refl)
failure_step life log n (Lock d a m q) later =
    rw (list_any-append (is_lock_of d m) later (Failure n ∷ [])) (keep_lock (outlives n) (locked d a m q) (list_any (is_lock_of d m) later) refl)
failure_step life log n Round later = refl
failure_step life log n (Failure m) later = refl

live-failure : (life : ℕ) (n : Callsign) (log : List Item) → live life (log ++ Failure n ∷ []) ≡ filter (outlives n) (live life log)
live-failure life n log =
    among-append life log (log ++ Failure n ∷ []) (Failure n ∷ []) (filter (outlives n)) refl (filter-append (outlives n)) (failure_step life log n) log
    ∙ append-nil (filter (outlives n) (live life log))

after_round-append : (xs ys : List Route) → after_round (xs ++ ys) ≡ after_round xs ++ after_round ys
after_round-append [] ys = refl
after_round-append (x ∷ xs) ys = rw (after_round-append xs ys) (cond_append (still_counts (older x).count) (older x) (after_round xs) (after_round ys))
  where
    cond_append : (b : Bool) (x : Route) (xs ys : List Route) → cond b (x ∷ (xs ++ ys)) (xs ++ ys) ≡ cond b (x ∷ xs) xs ++ ys
    cond_append true x xs ys = refl
    cond_append false x xs ys = refl

round_test : (A L F W : Bool) → (((not (A || false) && not (L || false)) && not (F || false)) && W) ≡ (((not A && not L) && not F) && W)
round_test true L F W = refl
round_test false true F W = refl
round_test false false true W = refl
round_test false false false W = refl

round_left : (d : Callsign) (a : Alias) (n : Callsign) (q life k : ℕ) (B C : Bool) → nat_lt k life ≡ B → nat_lt (k + 1) life ≡ C → cond C (row d a n q (life - (k + 1)) ∷ []) [] ≡ after_round (cond B (row d a n q (life - k) ∷ []) [])
round_left d a n q life k true true b c =
    let e : life - (k + 1) ≡ (life - k) - 1 = omega arith in
    let f : (((life - k) - 1) == 0) ≡ false = grind (arith, nat_tests) in
    rw (e, f) refl
round_left d a n q life k true false b c = let f : (((life - k) - 1) == 0) ≡ true = grind (arith, nat_tests) in rw f refl
round_left d a n q life k false true b c = absurd (grind (arith, nat_tests))
round_left d a n q life k false false b c = refl

round_case : (d : Callsign) (a : Alias) (n : Callsign) (q life k : ℕ) (T : Bool) → cond (T && nat_lt (k + 1) life) (row d a n q (life - (k + 1)) ∷ []) [] ≡ after_round (cond (T && nat_lt k life) (row d a n q (life - k) ∷ []) [])
round_case d a n q life k false = refl
round_case d a n q life k true = round_left d a n q life k (nat_lt k life) (nat_lt (k + 1) life) refl refl

round_lock : (d : Callsign) (a : Alias) (n : Callsign) (q : ℕ) (B : Bool) → cond (B || false) [] (locked d a n q ∷ []) ≡ after_round (cond B [] (locked d a n q ∷ []))
round_lock d a n q true = refl
round_lock d a n q false = refl

round_step : (life : ℕ) (log : List Item) (x : Item) (later : List Item) → live_of life (log ++ Round ∷ []) x (later ++ Round ∷ []) ≡ after_round (live_of life log x later)
round_step life log (Report d a n q) later =
    rw (
      list_any-append (is_report_of d n) later (Round ∷ []),
      list_any-append (is_lock_of d n) log (Round ∷ []),
      list_any-append (is_failure_of n) later (Round ∷ []),
      rounds-append later (Round ∷ []),
      round_test (list_any (is_report_of d n) later) (list_any (is_lock_of d n) log) (list_any (is_failure_of n) later) (nat_lt (rounds later + 1) life),
    )
    (round_case d a n q life (rounds later) ((not (list_any (is_report_of d n) later) && not (list_any (is_lock_of d n) log)) && not (list_any (is_failure_of n) later)))
round_step life log (Lock d a n q) later =
    rw (list_any-append (is_lock_of d n) later (Round ∷ [])) (round_lock d a n q (list_any (is_lock_of d n) later))
round_step life log Round later = refl
round_step life log (Failure m) later = refl

live-round : (life : ℕ) (log : List Item) → live life (log ++ Round ∷ []) ≡ after_round (live life log)
live-round life log =
    among-append life log (log ++ Round ∷ []) (Round ∷ []) after_round refl after_round-append (round_step life log) log
    ∙ append-nil (after_round (live life log))

-- items that are reports alone, as those of a broadcast

abbrev pub IsReport : Item → Type 0
IsReport (Report d a n q) = Unit {0}
IsReport _ = ⊥

reports_no_lock : (d n : Callsign) (xs : List Item) → AllByRecursion IsReport xs → list_any (is_lock_of d n) xs ≡ false
reports_no_lock d n [] h = refl
reports_no_lock d n (Report e b m p ∷ xs) h = reports_no_lock d n xs h.1
reports_no_lock d n (Lock e b m p ∷ xs) h = absurd h.0
reports_no_lock d n (Round ∷ xs) h = absurd h.0
reports_no_lock d n (Failure m ∷ xs) h = absurd h.0

reports_no_failure : (n : Callsign) (xs : List Item) → AllByRecursion IsReport xs → list_any (is_failure_of n) xs ≡ false
reports_no_failure n [] h = refl
reports_no_failure n (Report e b m p ∷ xs) h = reports_no_failure n xs h.1
reports_no_failure n (Lock e b m p ∷ xs) h = absurd h.0
reports_no_failure n (Round ∷ xs) h = absurd h.0
reports_no_failure n (Failure m ∷ xs) h = absurd h.0

reports_no_round : (xs : List Item) → AllByRecursion IsReport xs → rounds xs ≡ 0
reports_no_round [] h = refl
reports_no_round (Report e b m p ∷ xs) h = reports_no_round xs h.1
reports_no_round (Lock e b m p ∷ xs) h = absurd h.0
reports_no_round (Round ∷ xs) h = absurd h.0
reports_no_round (Failure m ∷ xs) h = absurd h.0

reports_told : (life : ℕ) (r : Route) (xs : List Item) → AllByRecursion IsReport xs → list_any (is_report_of r.dest r.neighbour) xs ≡ list_any (is_same_pair r) (fresh life xs)
reports_told life r [] h = refl
reports_told life r (Report c b m p ∷ xs) h = ap (λ t. (same_call r.dest c && same_call r.neighbour m) || t) (reports_told life r xs h.1)
reports_told life r (Lock c b m p ∷ xs) h = absurd h.0
reports_told life r (Round ∷ xs) h = absurd h.0
reports_told life r (Failure m ∷ xs) h = absurd h.0

report_test : (A L F S W : Bool) → (((not (A || S) && not (L || false)) && not (F || false)) && W) ≡ ((((not A && not L) && not F) && W) && not S)
report_test true L F S W = refl
report_test false true F true W = refl
report_test false true F false W = refl
report_test false false true true W = refl
report_test false false true false W = refl
report_test false false false true true = refl
report_test false false false true false = refl
report_test false false false false true = refl
report_test false false false false false = refl

report_step : (life : ℕ) (log more : List Item) → AllByRecursion IsReport more → (x : Item) (later : List Item) → live_of life (log ++ more) x (later ++ more) ≡ filter (stays (fresh life more)) (live_of life log x later)
report_step life log more h (Report d a n q) later =
    let z : rounds later + 0 ≡ rounds later = omega arith in
    rw (
      list_any-append (is_report_of d n) later more,
      list_any-append (is_lock_of d n) log more,
      list_any-append (is_failure_of n) later more,
      rounds-append later more,
      reports_no_lock d n more h,
      reports_no_failure n more h,
      reports_no_round more h,
      z,
      reports_told life (row d a n q (life - rounds later)) more h,
      report_test (list_any (is_report_of d n) later) (list_any (is_lock_of d n) log) (list_any (is_failure_of n) later) (list_any (is_same_pair (row d a n q (life - rounds later))) (fresh life more)) (nat_lt (rounds later) life),
    )
    (keep_if (stays (fresh life more)) (row d a n q (life - rounds later)) (list_any (is_same_pair (row d a n q (life - rounds later))) (fresh life more)) (is_live life log d n later) refl)
report_step life log more h (Lock d a n q) later =
    rw (list_any-append (is_lock_of d n) later more, reports_no_lock d n more h) (keep_lock (stays (fresh life more)) (locked d a n q) (list_any (is_lock_of d n) later) refl)
report_step life log more h Round later = refl
report_step life log more h (Failure m) later = refl

live-reports : (life : ℕ) (log more : List Item) → AllByRecursion IsReport more → live life (log ++ more) ≡ filter (stays (fresh life more)) (live life log) ++ live_among life (log ++ more) more
live-reports life log more h =
    among-append life log (log ++ more) more (filter (stays (fresh life more))) refl (filter-append (stays (fresh life more))) (report_step life log more h) log

-- the locks of a log show in its usable routes

abbrev is_locked : Callsign → Callsign → Route → Bool
is_locked d n r = is_none r.count && (same_call d r.dest && same_call n r.neighbour)

skip_case : (good f : Route → Bool) (r : Route) (T G : Bool) (rest : List Route) → f r ≡ false → good r ≡ G → list_any f (filter good (cond T (r ∷ []) [] ++ rest)) ≡ list_any f (filter good rest)
skip_case good f r true true rest e g = rw (g, e) refl
skip_case good f r true false rest e g = rw g refl
skip_case good f r false G rest e g = refl

lock_case : (good f : Route → Bool) (r : Route) (B S X : Bool) (rest : List Route) → good r ≡ true → f r ≡ S → list_any f (filter good rest) ≡ X → (B ≡ true → S ≡ true → X ≡ true) → (S || X) ≡ list_any f (filter good (cond B [] (r ∷ []) ++ rest))
lock_case good f r true true X rest g e x h = sym (h refl refl) ∙ sym x
lock_case good f r true false X rest g e x h = sym x
lock_case good f r false S X rest g e x h = rw (g, e, x) refl

later_lock : (d n e m : Callsign) (xs : List Item) → list_any (is_lock_of e m) xs ≡ true → (same_call d e && same_call n m) ≡ true → list_any (is_lock_of d n) xs ≡ true
later_lock d n e m xs b s =
    let p = and_parts (same_call d e) (same_call n m) s in
    let de : d ≡ e = same_call-true d e p.0 in
    let nm : n ≡ m = same_call-true n m p.1 in
    rw (de, nm) b

locks_show : (life minq : ℕ) (log : List Item) (d n : Callsign) (xs : List Item) → AllByRecursion (IsGoodLock minq) xs → list_any (is_lock_of d n) xs ≡ list_any (is_locked d n) (filter (is_good minq) (live_among life log xs))
locks_show life minq log d n [] h = refl
locks_show life minq log d n (Report e b m p ∷ xs) h =
    locks_show life minq log d n xs h.1
    ∙ sym (skip_case (is_good minq) (is_locked d n) (row e b m p (life - rounds xs)) (is_live life log e m xs) (nat_le minq p) (live_among life log xs) refl refl)
locks_show life minq log d n (Round ∷ xs) h = locks_show life minq log d n xs h.1
locks_show life minq log d n (Failure m ∷ xs) h = locks_show life minq log d n xs h.1
locks_show life minq log d n (Lock e b m p ∷ xs) h =
    let g : nat_le minq p ≡ true = grind (arith, nat_tests, h.0) in
    lock_case (is_good minq) (is_locked d n) (locked e b m p) (list_any (is_lock_of e m) xs) (same_call d e && same_call n m) (list_any (is_lock_of d n) xs) (live_among life log xs) g refl (sym (locks_show life minq log d n xs h.1)) (later_lock d n e m xs)

-- what the reports themselves give

new_case : (good : Route → Bool) (r : Route) (A L G : Bool) (rest ys : List Route) → good r ≡ G → filter good rest ≡ ys → filter good (cond (((not A && not L) && true) && true) (r ∷ []) [] ++ rest) ≡ cond ((G && not A) && not L) (r ∷ ys) ys
new_case good r true L true rest ys g h = h
new_case good r true L false rest ys g h = h
new_case good r false true true rest ys g h = h
new_case good r false true false rest ys g h = h
new_case good r false false true rest ys g h = rw (g, h) refl
new_case good r false false false rest ys g h = rw (g, h) refl

new_among : (life minq : ℕ) (whole : List Item) (rows : List Route) → 1 ≤ life → ((d n : Callsign) → list_any (is_lock_of d n) whole ≡ list_any (is_locked d n) rows) → (xs : List Item) → AllByRecursion IsReport xs → filter (is_good minq) (live_among life whole xs) ≡ new_rows minq rows (fresh life xs)
new_among life minq whole rows h locks [] r = refl
new_among life minq whole rows h locks (Report d a n q ∷ xs) r =
    let z : life - 0 ≡ life = omega arith in
    let w : nat_lt 0 life ≡ true = grind (arith, nat_tests) in
    rw (reports_told life (row d a n q life) xs r.1, locks d n, reports_no_failure n xs r.1, reports_no_round xs r.1, z, w)
    (new_case (is_good minq) (row d a n q life) (list_any (is_same_pair (row d a n q life)) (fresh life xs)) (list_any (is_locked d n) rows) (nat_le minq q) (live_among life whole xs) (new_rows minq rows (fresh life xs)) refl (new_among life minq whole rows h locks xs r.1))
new_among life minq whole rows h locks (Lock d a n q ∷ xs) r = absurd r.0
new_among life minq whole rows h locks (Round ∷ xs) r = absurd r.0
new_among life minq whole rows h locks (Failure n ∷ xs) r = absurd r.0

comm_case : (p r : Route → Bool) (x : Route) (xs : List Route) (A B : Bool) → p x ≡ A → r x ≡ B → filter p (filter r xs) ≡ filter r (filter p xs) → filter p (cond (r x) (x ∷ filter r xs) (filter r xs)) ≡ filter r (cond (p x) (x ∷ filter p xs) (filter p xs))
comm_case p r x xs true true a b h = rw (a, b, a) (ap (λ ys. x ∷ ys) h)
comm_case p r x xs true false a b h = rw (a, b) h
comm_case p r x xs false true a b h = rw (a, b, a) h
comm_case p r x xs false false a b h = rw (a, b) h

pub filter_comm : (p r : Route → Bool) (xs : List Route) → filter p (filter r xs) ≡ filter r (filter p xs)
filter_comm p r [] = refl
filter_comm p r (x ∷ xs) = comm_case p r x xs (p x) (r x) refl refl (filter_comm p r xs)

pushed : (f : Route → Route) (b : Bool) (x : Route) (xs : List Route) → cond b (f x ∷ map f xs) (map f xs) ≡ map f (cond b (x ∷ xs) xs)
pushed f true x xs = refl
pushed f false x xs = refl

filter_older : (minq : ℕ) (xs : List Route) → filter (is_good minq) (map older xs) ≡ map older (filter (is_good minq) xs)
filter_older minq [] = refl
filter_older minq (x ∷ xs) = rw (filter_older minq xs) (pushed older (is_good minq x) x (filter (is_good minq) xs))

pub usable-round : (rules : RouteRules) (log : List Item) → usable rules (log ++ Round ∷ []) ≡ after_round (usable rules log)
usable-round rules log =
    rw (live-round rules.life log)
    (filter_comm (is_good rules.minq) (λ r. still_counts r.count) (map older (live rules.life log)) ∙ ap (filter (λ (r : Route). still_counts r.count)) (filter_older rules.minq (live rules.life log)))

pub usable-failure : (rules : RouteRules) (n : Callsign) (log : List Item) → usable rules (log ++ Failure n ∷ []) ≡ filter (outlives n) (usable rules log)
usable-failure rules n log = rw (live-failure rules.life n log) (filter_comm (is_good rules.minq) (outlives n) (live rules.life log))

locks_known : (rules : RouteRules) (log more : List Item) → AllByRecursion (IsGoodLock rules.minq) log → AllByRecursion IsReport more → (d n : Callsign) → list_any (is_lock_of d n) (log ++ more) ≡ list_any (is_locked d n) (usable rules log)
locks_known rules log more g h d n =
    list_any-append (is_lock_of d n) log more
    ∙ (ap (λ t. list_any (is_lock_of d n) log || t) (reports_no_lock d n more h) ∙ (or-false (list_any (is_lock_of d n) log) ∙ locks_show rules.life rules.minq log d n log g))

pub usable-reports : (rules : RouteRules) (log more : List Item) → 1 ≤ rules.life → AllByRecursion (IsGoodLock rules.minq) log → AllByRecursion IsReport more → usable rules (log ++ more) ≡ rows_with rules.minq (fresh rules.life more) (usable rules log)
usable-reports rules log more l g h =
    ap (filter (is_good rules.minq)) (live-reports rules.life log more h)
    ∙ (filter-append (is_good rules.minq) (filter (stays (fresh rules.life more)) (live rules.life log)) (live_among rules.life (log ++ more) more)
    ∙ (ap (λ xs. xs ++ filter (is_good rules.minq) (live_among rules.life (log ++ more) more)) (filter_comm (is_good rules.minq) (stays (fresh rules.life more)) (live rules.life log))
    ∙ ap (λ ys. filter (stays (fresh rules.life more)) (usable rules log) ++ ys) (new_among rules.life rules.minq (log ++ more) (usable rules log) l (locks_known rules log more g h) more h)))
