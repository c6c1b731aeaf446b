-- Rows in order, as reports change them.
use Rattle.std.proofs.Common.{◌≡◌, ◌<◌, ◌+◌, ◌-◌, ◌∙◌, ℕ, zero, suc, refl, sym, ap, subst, List, [], ◌∷◌, map, length, arith, Bool, true, false, cond, get_or, filter, Some}
use Rattle.std.specs.Prelude.{remove, not, ◌||◌, ◌&&◌, is_none, slice_set, nat_lt, nat_eq}
use Rattle.std.specs.List.{list_any}
use Rattle.std.proofs.lemmas.List.{get_or_default}
use Rattle.ax_address.specs.Callsign.{same_call, call_lt}
use Rattle.route_table.specs.declared.route.Route.{Route}
use Rattle.route_table.specs.Table.{is_before, stands_before, placed, is_good}
use Rattle.route_table.specs.Rows.{is_same_pair, is_lock_on, stays_beside, beside, with_report, after_reports, older, still_counts, after_round}
use Rattle.route_table.specs.Places.{InRows, NoneTwice, Stand, PairAt, FitsAt}
use Rattle.route_table.proofs.Order.{stands_trans, stands_asym, same_pair_sym, same_pair_over, same_pair_true}
use Rattle.route_table.proofs.Sorting.{Ahead, Apart, pairs_from_rows, placed_all, placed_rows, filter_rows, filter_once}

-- the rows beside a route

pub beside_apart : (r : Route) (xs : List Route) → Apart r (beside r xs)
beside_apart r [] = tt
beside_apart r (x ∷ xs) = cases (is_same_pair x r) refl (beside_apart r xs)
  where
    cases : (b : Bool) → is_same_pair x r ≡ b → Apart r (beside r xs) → Apart r (cond (not b) (x ∷ beside r xs) (beside r xs))
    cases true e ih = ih
    cases false e ih = ((same_pair_sym r x ∙ e), ih)

pub beside_none : (r : Route) (xs : List Route) → list_any (is_same_pair r) xs ≡ false → beside r xs ≡ xs
beside_none r [] h = refl
beside_none r (x ∷ xs) h = cases (is_same_pair r x) (list_any (is_same_pair r) xs) h (same_pair_sym x r) (beside_none r xs)
  where
    cases : (b t : Bool) → (b || t) ≡ false → is_same_pair x r ≡ b → (t ≡ false → beside r xs ≡ xs) → beside r (x ∷ xs) ≡ x ∷ xs
    cases true t k e f = absurd (cc)
    cases false t k e f = rw e (ap (λ ys. x ∷ ys) (f k))

pub no_lock : (r : Route) (xs : List Route) → list_any (is_same_pair r) xs ≡ false → list_any (is_lock_on r) xs ≡ false
no_lock r [] h = refl
no_lock r (x ∷ xs) h = cases (is_none x.count) (is_same_pair r x) (list_any (is_same_pair r) xs) (list_any (is_lock_on r) xs) h (no_lock r xs)
  where
    cases : (c b t u : Bool) → (b || t) ≡ false → (t ≡ false → u ≡ false) → ((c && b) || u) ≡ false
    cases c true t u k f = absurd (cc)
    cases true false t u k f = f k
    cases false false t u k f = f k

pub apart_none : (r x : Route) (xs : List Route) → is_same_pair r x ≡ true → Apart x xs → list_any (is_same_pair r) xs ≡ false
apart_none r x [] s h = refl
apart_none r x (y ∷ ys) s h = let e : is_same_pair r y ≡ false = same_pair_over r x y s ∙ h.0 in rw e (apart_none r x ys s h.1)

at_apart : (x : Route) (xs : List Route) (i : ℕ) (d : Route) → i < length xs → Apart x xs → is_same_pair x (get_or xs i d) ≡ false
at_apart x [] i d w h = absurd (omega arith)
at_apart x (y ∷ ys) zero d w h = h.0
at_apart x (y ∷ ys) (suc i) d w h = at_apart x ys i d (omega arith) h.1

-- a row apart from the one of the route's pair is apart from the route
other_pair : (r x y : Route) → is_same_pair r y ≡ true → is_same_pair x y ≡ false → is_same_pair r x ≡ false
other_pair r x y s a = cases (is_same_pair r x) refl
  where
    cases : (b : Bool) → is_same_pair r x ≡ b → b ≡ false
    cases false e = refl
    cases true e =
        let f : is_same_pair x y ≡ is_same_pair r y = sym (same_pair_over r x y e) in
        absurd (cc)

pub beside_found : (r : Route) (xs : List Route) (i : ℕ) (d : Route) → NoneTwice xs → i < length xs → is_same_pair r (get_or xs i d) ≡ true → beside r xs ≡ remove xs i
beside_found r [] i d n w s = absurd (omega arith)
beside_found r (x ∷ xs) zero d n w s =
    let e : is_same_pair x r ≡ true = same_pair_sym x r ∙ s in
    rw e (beside_none r xs (apart_none r x xs s n.0))
beside_found r (x ∷ xs) (suc i) d n w s =
    let within : i < length xs = omega arith in
    let e : is_same_pair x r ≡ false = same_pair_sym x r ∙ other_pair r x (get_or xs i d) s (at_apart x xs i d within n.0) in
    rw e (ap (λ ys. x ∷ ys) (beside_found r xs i d n.1 within s))

pub lock_found : (r : Route) (xs : List Route) (i : ℕ) (d : Route) → NoneTwice xs → i < length xs → is_same_pair r (get_or xs i d) ≡ true → list_any (is_lock_on r) xs ≡ is_none (get_or xs i d).count
lock_found r [] i d n w s = absurd (omega arith)
lock_found r (x ∷ xs) zero d n w s = rw (s, no_lock r xs (apart_none r x xs s n.0)) (and_or (is_none x.count))
  where
    and_or : (b : Bool) → ((b && true) || false) ≡ b
    and_or true = refl
    and_or false = refl
lock_found r (x ∷ xs) (suc i) d n w s =
    let within : i < length xs = omega arith in
    let e : is_same_pair r x ≡ false = other_pair r x (get_or xs i d) s (at_apart x xs i d within n.0) in
    rw e (none_or (is_none x.count) ∙ lock_found r xs i d n.1 within s)
  where
    none_or : (b : Bool) → ((b && false) || list_any (is_lock_on r) xs) ≡ list_any (is_lock_on r) xs
    none_or true = refl
    none_or false = refl

pub pair_found : (r : Route) (xs : List Route) (i : ℕ) (d : Route) → i < length xs → is_same_pair r (get_or xs i d) ≡ true → list_any (is_same_pair r) xs ≡ true
pair_found r [] i d w s = absurd (omega arith)
pair_found r (x ∷ xs) zero d w s = rw s refl
pair_found r (x ∷ xs) (suc i) d w s = rw (pair_found r xs i d (omega arith) s) (or_true (is_same_pair r x))
  where
    or_true : (b : Bool) → (b || true) ≡ true
    or_true true = refl
    or_true false = refl

-- a route in the place of a row, where it stands between those before and behind it

pub ahead_at : (x : Route) (xs : List Route) (i : ℕ) (d : Route) → i < length xs → Ahead x xs → stands_before x (get_or xs i d) ≡ true
ahead_at x [] i d w h = absurd (omega arith)
ahead_at x (y ∷ ys) zero d w h = h.0
ahead_at x (y ∷ ys) (suc i) d w h = ahead_at x ys i d (omega arith) h.1

first_place : (r : Route) (xs : List Route) → ((d : Route) → 0 < length xs → stands_before r (get_or xs 0 d) ≡ true) → placed r xs ≡ r ∷ xs
first_place r [] h = refl
first_place r (x ∷ xs) h = let e : stands_before r x ≡ true = h x (omega arith) in rw e refl

-- the rows before that place stand before the route
before_it : (r x : Route) (xs : List Route) (i : ℕ) → Ahead x xs → i < length xs → ((d : Route) → stands_before (get_or (x ∷ xs) i d) r ≡ true) → stands_before x r ≡ true
before_it r x xs zero a w h = h x
before_it r x xs (suc i) a w h = stands_trans x (get_or xs i x) r (ahead_at x xs i x (omega arith) a) (h x)

pub placed_over : (r : Route) (xs : List Route) (i : ℕ) → InRows xs → i < length xs
    → ((d : Route) → 0 < i → stands_before (get_or xs (i - 1) d) r ≡ true) → ((d : Route) → i + 1 < length xs → stands_before r (get_or xs (i + 1) d) ≡ true)
    → placed r (remove xs i) ≡ slice_set xs i r
placed_over r [] i h w a b = absurd (omega arith)
placed_over r (x ∷ xs) zero h w a b = first_place r xs (λ d l. b d (omega (arith, l)))
placed_over r (x ∷ xs) (suc i) h w a b =
    let within : i < length xs = omega arith in
    let one : suc i - 1 ≡ i = omega arith in
    let up : stands_before x r ≡ true = before_it r x xs i h.0 within (λ d. rw one at (a d (omega arith))) in
    let e : stands_before r x ≡ false = stands_asym x r up in
    rw e (ap (λ ys. x ∷ ys) (placed_over r xs i h.1 within (over_after i within a) (λ d l. let two : suc i + 1 ≡ suc (i + 1) = omega arith in rw two at (b d (omega (arith, l))))))
  where
    over_after : (i : ℕ) → i < length xs → ((d : Route) → 0 < suc i → stands_before (get_or (x ∷ xs) (suc i - 1) d) r ≡ true) → (d : Route) → 0 < i → stands_before (get_or xs (i - 1) d) r ≡ true
    over_after zero w a d l = absurd (omega arith)
    over_after (suc k) w a d l =
        let two : suc (suc k) - 1 ≡ suc k = omega arith in
        let one : suc k - 1 ≡ k = omega arith in
        rw one (rw two at (a d (omega arith)))

-- a route as good as the row of its pair stands where that one does

before_same : (x r s : Route) → r.dest ≡ s.dest → r.neighbour ≡ s.neighbour → r.quality ≡ s.quality → stands_before x s ≡ true → stands_before x r ≡ true
before_same x r s d n q h =
    ap (λ c. call_lt x.dest c || (same_call x.dest c && is_before x r)) d
    ∙ (ap (λ k. call_lt x.dest s.dest || (same_call x.dest s.dest && (nat_lt k x.quality || (nat_eq x.quality k && call_lt x.neighbour r.neighbour)))) q
    ∙ (ap (λ c. call_lt x.dest s.dest || (same_call x.dest s.dest && (nat_lt s.quality x.quality || (nat_eq x.quality s.quality && call_lt x.neighbour c)))) n ∙ h))

behind_same : (x r s : Route) → r.dest ≡ s.dest → r.neighbour ≡ s.neighbour → r.quality ≡ s.quality → stands_before s x ≡ true → stands_before r x ≡ true
behind_same x r s d n q h =
    ap (λ c. call_lt c x.dest || (same_call c x.dest && is_before r x)) d
    ∙ (ap (λ k. call_lt s.dest x.dest || (same_call s.dest x.dest && (nat_lt x.quality k || (nat_eq k x.quality && call_lt r.neighbour x.neighbour)))) q
    ∙ (ap (λ c. call_lt s.dest x.dest || (same_call s.dest x.dest && (nat_lt x.quality s.quality || (nat_eq s.quality x.quality && call_lt c x.neighbour)))) n ∙ h))

pub fits_same : (r : Route) (rows : List Route) (i : ℕ) → InRows rows → PairAt r rows (Some i) → (get_or rows i r).quality ≡ r.quality → FitsAt r rows i
fits_same r rows i h p q =
    let row = get_or rows i r in
    let pair = same_pair_true r row (p.1 r) in
    record {
      after = λ d l. before_same (get_or rows (i - 1) d) r row pair.0 pair.1 (sym q) (ap (stands_before (get_or rows (i - 1) d)) (get_or_default rows i r d p.0) ∙ pairs_from_rows rows h (i - 1) i d (omega arith) p.0);
      before = λ d l. behind_same (get_or rows (i + 1) d) r row pair.0 pair.1 (sym q) (ap (λ x. stands_before x (get_or rows (i + 1) d)) (get_or_default rows i r d p.0) ∙ pairs_from_rows rows h i (i + 1) d (omega arith) l);
    }

-- what a report comes to, by what is found of its pair

pub report_new : (minq : ℕ) (r : Route) (rows : List Route) → list_any (is_same_pair r) rows ≡ false → with_report minq r rows ≡ cond (is_good minq r) (placed r rows) rows
report_new minq r rows h = rw (no_lock r rows h, beside_none r rows h) refl

pub report_locked : (minq : ℕ) (r : Route) (rows : List Route) (i : ℕ) (d : Route) → NoneTwice rows → i < length rows → is_same_pair r (get_or rows i d) ≡ true → is_none (get_or rows i d).count ≡ true → with_report minq r rows ≡ rows
report_locked minq r rows i d n w s c = let e : list_any (is_lock_on r) rows ≡ true = lock_found r rows i d n w s ∙ c in rw e refl

pub report_over : (minq : ℕ) (r : Route) (rows : List Route) (i : ℕ) (d : Route) → NoneTwice rows → i < length rows → is_same_pair r (get_or rows i d) ≡ true → is_none (get_or rows i d).count ≡ false
    → with_report minq r rows ≡ cond (is_good minq r) (placed r (remove rows i)) (remove rows i)
report_over minq r rows i d n w s c =
    let e : list_any (is_lock_on r) rows ≡ false = lock_found r rows i d n w s ∙ c in
    rw (e, beside_found r rows i d n w s) refl

-- rows go on to stand

pub placed_once : (r : Route) (xs : List Route) → Apart r xs → NoneTwice xs → NoneTwice (placed r xs)
placed_once r [] a h = (tt, tt)
placed_once r (x ∷ xs) a h = cases (stands_before r x) (placed_once r xs a.1 h.1)
  where
    cases : (b : Bool) → NoneTwice (placed r xs) → NoneTwice (cond b (r ∷ x ∷ xs) (x ∷ placed r xs))
    cases true ih = (a, h)
    cases false ih = (placed_all (λ s. is_same_pair x s ≡ false) r xs (same_pair_sym x r ∙ a.0) h.0, ih)

pub placed_stand : (r : Route) (rows : List Route) → Stand rows → Stand (placed r (beside r rows))
placed_stand r rows h = record {
  order = placed_rows r (beside r rows) (beside_apart r rows) (filter_rows (stays_beside r) rows h.order);
  once = placed_once r (beside r rows) (beside_apart r rows) (filter_once (stays_beside r) rows h.once);
}

pub filter_stand : (p : Route → Bool) (rows : List Route) → Stand rows → Stand (filter p rows)
filter_stand p rows h = record { order = filter_rows p rows h.order; once = filter_once p rows h.once }

pub report_stand : (minq : ℕ) (r : Route) (rows : List Route) → Stand rows → Stand (with_report minq r rows)
report_stand minq r rows h = cases (list_any (is_lock_on r) rows) (is_good minq r)
  where
    cases : (L G : Bool) → Stand (cond L rows (cond G (placed r (beside r rows)) (beside r rows)))
    cases true G = h
    cases false true = placed_stand r rows h
    cases false false = filter_stand (stays_beside r) rows h

pub reports_stand : (minq : ℕ) (rs rows : List Route) → Stand rows → Stand (after_reports minq rs rows)
reports_stand minq [] rows h = h
reports_stand minq (r ∷ rs) rows h = reports_stand minq rs (with_report minq r rows) (report_stand minq r rows h)

older_ahead : (x : Route) (xs : List Route) → Ahead x xs → Ahead (older x) (map older xs)
older_ahead x [] h = tt
older_ahead x (y ∷ ys) h = (h.0, older_ahead x ys h.1)

older_apart : (x : Route) (xs : List Route) → Apart x xs → Apart (older x) (map older xs)
older_apart x [] h = tt
older_apart x (y ∷ ys) h = (h.0, older_apart x ys h.1)

pub older_rows : (xs : List Route) → InRows xs → InRows (map older xs)
older_rows [] h = tt
older_rows (x ∷ xs) h = (older_ahead x xs h.0, older_rows xs h.1)

pub older_once : (xs : List Route) → NoneTwice xs → NoneTwice (map older xs)
older_once [] h = tt
older_once (x ∷ xs) h = (older_apart x xs h.0, older_once xs h.1)

pub round_stand : (rows : List Route) → Stand rows → Stand (after_round rows)
round_stand rows h = filter_stand (λ r. still_counts r.count) (map older rows) (record { order = older_rows rows h.order; once = older_once rows h.once })

-- what the code makes of a report whose pair has a row

pub change_bad : (minq : ℕ) (r : Route) (rows : List Route) (i : ℕ) (row : Route) → Stand rows → PairAt r rows (Some i) → row ≡ get_or rows i row → is_none row.count ≡ false → is_good minq r ≡ false → remove rows i ≡ with_report minq r rows
change_bad minq r rows i row s p e c g =
    sym (report_over minq r rows i row s.once p.0 (p.1 row) (ap (λ (x : Route). is_none x.count) (sym e) ∙ c) ∙ ap (λ b. cond b (placed r (remove rows i)) (remove rows i)) g)

pub change_moved : (minq : ℕ) (r : Route) (rows : List Route) (i : ℕ) (row : Route) → Stand rows → PairAt r rows (Some i) → row ≡ get_or rows i row → is_none row.count ≡ false → is_good minq r ≡ true → placed r (remove rows i) ≡ with_report minq r rows
change_moved minq r rows i row s p e c g =
    sym (report_over minq r rows i row s.once p.0 (p.1 row) (ap (λ (x : Route). is_none x.count) (sym e) ∙ c) ∙ ap (λ b. cond b (placed r (remove rows i)) (remove rows i)) g)

pub change_same : (minq : ℕ) (r : Route) (rows : List Route) (i : ℕ) (row : Route) → Stand rows → PairAt r rows (Some i) → row ≡ get_or rows i row → is_none row.count ≡ false → is_good minq r ≡ true → FitsAt r rows i → slice_set rows i r ≡ with_report minq r rows
change_same minq r rows i row s p e c g f =
    sym (placed_over r rows i s.order p.0 f.after f.before) ∙ change_moved minq r rows i row s p e c g

pub remove_rows : (r : Route) (rows : List Route) (i : ℕ) → Stand rows → PairAt r rows (Some i) → InRows (remove rows i)
remove_rows r rows i s p = subst InRows (beside_found r rows i r s.once p.0 (p.1 r)) (filter_rows (stays_beside r) rows s.order)
