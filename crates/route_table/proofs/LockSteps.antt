-- How the usable routes of a log go on by a lock.
use Rattle.std.proofs.Common.{◌≡◌, ◌≤◌, ◌+◌, ◌-◌, ◌++◌, ◌∙◌, ℕ, refl, sym, ap, List, [], ◌∷◌, filter, arith, length, subst, Bool, true, false, cond}
use Rattle.std.specs.Prelude.{◌||◌, ◌&&◌, not, nat_lt, nat_le, IsPermutation}
use Rattle.std.proofs.lemmas.List.Sorted.{IsPermutation-trans, IsPermutation-to_front, IsPermutation-cons}
use Rattle.std.specs.List.{list_any}
use Rattle.std.proofs.lemmas.List.Elements.{filter-append}
use Rattle.std.proofs.lemmas.List.Folds.{list_any-append}
use Rattle.std.proofs.lemmas.Bool.Decides.{nat_tests}
use Rattle.ax_address.specs.Callsign.{Callsign, same_call}
use Rattle.ax_address.specs.declared.alias.Alias.{Alias}
use Rattle.route_table.specs.declared.route.Route.{Route}
use Rattle.route_table.specs.declared.route.RouteRules.{RouteRules}
use Rattle.route_table.specs.Log.{Item, Report, Lock, Round, Failure}
use Rattle.route_table.specs.Table.{is_report_of, is_lock_of, is_failure_of, rounds, is_live, live_of, live, is_good, usable, placed}
use Rattle.route_table.specs.Held.{StandsFor}
use Rattle.route_table.specs.Places.{Stand}
use Rattle.route_table.specs.Rows.{stays_beside, beside, rows_with_lock}
use Rattle.route_table.proofs.LogSteps.{row, locked, among-append, rounds-append, keep_if, filter_comm}
use Rattle.route_table.proofs.Sorting.{placed_moves}
use Rattle.route_table.proofs.Standing.{good_locks-append, filtered, live_is}

lock_test : (A L F S W : Bool) → (((not (A || false) && not (L || (S || false))) && not (F || false)) && W) ≡ ((((not A && not L) && not F) && W) && not S)
lock_test true L F S W = refl
lock_test false true F S W = refl
lock_test false false true true W = refl
lock_test false false true false W = refl
lock_test false false false true true = refl
lock_test false false false true false = refl
lock_test false false false false true = refl
lock_test false false false false false = refl

-- an earlier lock goes where the later one is of its pair
lock_after : (keep : Route → Bool) (r : Route) (B S : Bool) → keep r ≡ not S → cond (B || (S || false)) [] (r ∷ []) ≡ filter keep (cond B [] (r ∷ []))
lock_after keep r true S k = refl
lock_after keep r false true k = rw k refl
lock_after keep r false false k = rw k refl

lock_step : (life : ℕ) (log : List Item) (e : Callsign) (b : Alias) (m : Callsign) (p : ℕ) (x : Item) (later : List Item) → live_of life (log ++ Lock e b m p ∷ []) x (later ++ Lock e b m p ∷ []) ≡ filter (stays_beside (locked e b m p)) (live_of life log x later)
lock_step life log e b m p (Report d a n q) later =
    let z : rounds later + 0 ≡ rounds later = omega arith in
    rw (
      list_any-append (is_report_of d n) later (Lock e b m p ∷ []),
      list_any-append (is_lock_of d n) log (Lock e b m p ∷ []),
      list_any-append (is_failure_of n) later (Lock e b m p ∷ []),
      rounds-append later (Lock e b m p ∷ []),
      z,
      lock_test (list_any (is_report_of d n) later) (list_any (is_lock_of d n) log) (list_any (is_failure_of n) later) (same_call d e && same_call n m) (nat_lt (rounds later) life),
    )
    (keep_if (stays_beside (locked e b m p)) (row d a n q (life - rounds later)) (same_call d e && same_call n m) (is_live life log d n later) refl)
lock_step life log e b m p (Lock d a n q) later =
    rw (list_any-append (is_lock_of d n) later (Lock e b m p ∷ []))
    (lock_after (stays_beside (locked e b m p)) (locked d a n q) (list_any (is_lock_of d n) later) (same_call d e && same_call n m) refl)
lock_step life log e b m p Round later = refl
lock_step life log e b m p (Failure n) later = refl

live-lock : (life : ℕ) (log : List Item) (e : Callsign) (b : Alias) (m : Callsign) (p : ℕ) → live life (log ++ Lock e b m p ∷ []) ≡ rows_with_lock (locked e b m p) (live life log)
live-lock life log e b m p =
    among-append life log (log ++ Lock e b m p ∷ []) (Lock e b m p ∷ []) (filter (stays_beside (locked e b m p))) refl (filter-append (stays_beside (locked e b m p))) (lock_step life log e b m p) log

good_lock : (minq : ℕ) (r : Route) (G : Bool) → G ≡ true → cond G (r ∷ []) [] ≡ r ∷ []
good_lock minq r true h = refl
good_lock minq r false h = absurd (cc)

pub usable-lock : (rules : RouteRules) (log : List Item) (e : Callsign) (b : Alias) (m : Callsign) (p : ℕ) → rules.minq ≤ p → usable rules (log ++ Lock e b m p ∷ []) ≡ rows_with_lock (locked e b m p) (usable rules log)
usable-lock rules log e b m p h =
    let g : nat_le rules.minq p ≡ true = grind (arith, nat_tests) in
    rw (
      live-lock rules.life log e b m p,
      filter-append (is_good rules.minq) (filter (stays_beside (locked e b m p)) (live rules.life log)) (locked e b m p ∷ []),
      filter_comm (is_good rules.minq) (stays_beside (locked e b m p)) (live rules.life log),
      g,
    )
    refl

lock_moves : (r : Route) (U rows : List Route) → IsPermutation (beside r U) (beside r rows) → IsPermutation (rows_with_lock r U) (placed r (beside r rows))
lock_moves r U rows b =
    IsPermutation-trans (beside r U ++ r ∷ []) (r ∷ beside r U) (placed r (beside r rows)) (IsPermutation-to_front (beside r U) r)
    (IsPermutation-trans (r ∷ beside r U) (r ∷ beside r rows) (placed r (beside r rows)) (IsPermutation-cons r (beside r U) (beside r rows) b) (placed_moves r (beside r rows)))

pub lock_stands : (own : Callsign) (rules : RouteRules) (rows new : List Route) (e : Callsign) (b : Alias) (m : Callsign) (p : ℕ) (log : List Item) → rules.minq ≤ p → Stand rows → new ≡ placed (locked e b m p) (beside (locked e b m p) rows) → StandsFor (record { own = own; rules = rules; rows = rows }) log → StandsFor (record { own = own; rules = rules; rows = new }) (log ++ Lock e b m p ∷ [])
lock_stands own rules rows new e b m p log h k eq s =
    let moved = lock_moves (locked e b m p) (usable rules log) rows (filtered rules rows log (stays_beside (locked e b m p)) k s.rows) in
    record {
      locks = good_locks-append rules.minq log (Lock e b m p ∷ []) s.locks (h, tt);
      rows = subst (λ xs. IsPermutation xs new) (sym (usable-lock rules log e b m p h)) (subst (λ ys. IsPermutation (rows_with_lock (locked e b m p) (usable rules log)) ys) (sym eq) moved);
    }

-- what the code counts before it changes the rows
pub lock_count : (own : Callsign) (rules : RouteRules) (rows view : List Route) (e : Callsign) (b : Alias) (m : Callsign) (p k : ℕ)
    → rules.minq ≤ p → Stand rows → view ≡ rows → k ≡ length (placed (locked e b m p) (beside (locked e b m p) view))
    → (log : List Item) → StandsFor (record { own = own; rules = rules; rows = rows }) log → k ≡ length (usable rules (log ++ Lock e b m p ∷ []))
lock_count own rules rows view e b m p k h t v ek log s =
    ek ∙ (ap (λ xs. length (placed (locked e b m p) (beside (locked e b m p) xs))) v
    ∙ live_is own rules _ (log ++ Lock e b m p ∷ []) (lock_stands own rules rows (placed (locked e b m p) (beside (locked e b m p) rows)) e b m p log h t refl s))
