-- Routes that wait among rows in order: what a report comes to, and how they enter.
use Rattle.std.proofs.Common.{◌≡◌, ◌≤◌, ◌<◌, ◌+◌, ◌-◌, ◌++◌, ◌∙◌, ℕ, zero, suc, refl, sym, ap, List, [], ◌∷◌, length, take, drop, arith, Bool, true, false, cond, get_or, append_assoc}
use Rattle.std.specs.Prelude.{not, ◌||◌, is_none, slice_set}
use Rattle.std.specs.List.{list_any, AllByRecursion, copy_within}
use Rattle.std.proofs.lemmas.List.{length-append, length-take-le, take-append-le, take-take, drop_at, drop-take, set_split}
use Rattle.std.proofs.lemmas.Bool.{or_parts, not-true}
use Rattle.ax_address.specs.Callsign.{same_call}
use Rattle.ax_address.specs.declared.entry.Entry.{Entry}
use Rattle.route_table.specs.declared.sender.Sender.{Sender}
use Rattle.route_table.specs.declared.route.Route.{Route}
use Rattle.route_table.specs.Table.{stands_before, placed, all_placed, is_good}
use Rattle.route_table.specs.Rows.{is_same_pair, is_lock_on, stays_beside, beside, route_over, reported_by, with_report, after_reports}
use Rattle.route_table.specs.Places.{InRows, NoneTwice, Stand, AreCounted, IsNew, AreWaiting, place_among}
use Rattle.route_table.proofs.Order.{stands_trans, stands_asym, stands_total, same_pair_sym}
use Rattle.route_table.proofs.Sorting.{Apart, placed_all, placed_rows, filter_all, filter_placed}
use Rattle.route_table.proofs.Changing.{beside_apart, beside_none, no_lock, apart_none, ahead_at, report_stand, placed_once}
use Rattle.route_table.proofs.Counting.{any_placed}
use Rattle.route_table.proofs.Placing.{placed-insert, take_rows}

-- two routes of different pairs take their places in whichever order

one_first : (r x : Route) → is_same_pair r x ≡ false → stands_before x r ≡ not (stands_before r x)
one_first r x h = cases (stands_before r x) refl
  where
    cases : (b : Bool) → stands_before r x ≡ b → stands_before x r ≡ not b
    cases true e = stands_asym r x e
    cases false e = stands_total r x e h

placed_swap : (r x : Route) → is_same_pair r x ≡ false → (zs : List Route) → placed r (placed x zs) ≡ placed x (placed r zs)
placed_swap r x h [] = cases (stands_before r x) refl
  where
    cases : (b : Bool) → stands_before r x ≡ b → cond b (r ∷ x ∷ []) (x ∷ r ∷ []) ≡ cond (stands_before x r) (x ∷ r ∷ []) (r ∷ x ∷ [])
    cases true e = let f : stands_before x r ≡ false = one_first r x h ∙ ap not e in rw f refl
    cases false e = let f : stands_before x r ≡ true = one_first r x h ∙ ap not e in rw f refl
placed_swap r x h (z ∷ zs) = cases (stands_before r z) (stands_before x z) (stands_before r x) refl refl refl (placed_swap r x h zs)
  where
    cases : (R X B : Bool) → stands_before r z ≡ R → stands_before x z ≡ X → stands_before r x ≡ B → placed r (placed x zs) ≡ placed x (placed r zs)
        → placed r (cond X (x ∷ z ∷ zs) (z ∷ placed x zs)) ≡ placed x (cond R (r ∷ z ∷ zs) (z ∷ placed r zs))
    cases true true true p q e ih = let f : stands_before x r ≡ false = one_first r x h ∙ ap not e in rw (e, f, q) refl
    cases true true false p q e ih = let f : stands_before x r ≡ true = one_first r x h ∙ ap not e in rw (e, f, p) refl
    cases true false true p q e ih = let f : stands_before x r ≡ false = one_first r x h ∙ ap not e in rw (p, f, q) refl
    cases true false false p q e ih =
        let f : stands_before x r ≡ true = one_first r x h ∙ ap not e in
        let g : stands_before x z ≡ true = stands_trans x r z f p in
        absurd (cc)
    cases false true true p q e ih = let g : stands_before r z ≡ true = stands_trans r x z e q in absurd (cc)
    cases false true false p q e ih = rw (e, p, q) refl
    cases false false B p q e ih = rw (p, q) (ap (λ ys. z ∷ ys) ih)

placed_beneath : (r : Route) (xs ys : List Route) → Apart r xs → placed r (all_placed xs ys) ≡ all_placed xs (placed r ys)
placed_beneath r [] ys h = refl
placed_beneath r (x ∷ xs) ys h = placed_swap r x h.0 (all_placed xs ys) ∙ ap (placed x) (placed_beneath r xs ys h.1)

placed_among : (r : Route) (xs ys : List Route) → Apart r xs → all_placed (placed r xs) ys ≡ placed r (all_placed xs ys)
placed_among r [] ys h = refl
placed_among r (x ∷ xs) ys h = cases (stands_before r x) (placed_among r xs ys h.1)
  where
    cases : (b : Bool) → all_placed (placed r xs) ys ≡ placed r (all_placed xs ys) → all_placed (cond b (r ∷ x ∷ xs) (x ∷ placed r xs)) ys ≡ placed r (placed x (all_placed xs ys))
    cases true ih = refl
    cases false ih = ap (placed x) ih ∙ sym (placed_swap r x h.0 (all_placed xs ys))

-- rows with all that wait stand as rows do

all_placed_apart : (r : Route) (xs ys : List Route) → Apart r xs → Apart r ys → Apart r (all_placed xs ys)
all_placed_apart r [] ys h k = k
all_placed_apart r (x ∷ xs) ys h k = placed_all (λ s. is_same_pair r s ≡ false) x (all_placed xs ys) h.0 (all_placed_apart r xs ys h.1 k)

all_placed_rows : (xs ys : List Route) → NoneTwice xs → AllByRecursion (IsNew ys) xs → InRows ys → InRows (all_placed xs ys)
all_placed_rows [] ys n a h = h
all_placed_rows (x ∷ xs) ys n a h = placed_rows x (all_placed xs ys) (all_placed_apart x xs ys n.0 a.0) (all_placed_rows xs ys n.1 a.1 h)

all_placed_once : (xs ys : List Route) → NoneTwice xs → AllByRecursion (IsNew ys) xs → NoneTwice ys → NoneTwice (all_placed xs ys)
all_placed_once [] ys n a h = h
all_placed_once (x ∷ xs) ys n a h = placed_once x (all_placed xs ys) (all_placed_apart x xs ys n.0 a.0) (all_placed_once xs ys n.1 a.1 h)

pub waiting_stand : (xs ys : List Route) → AreWaiting xs ys → Stand (all_placed xs ys)
waiting_stand xs ys h = record {
  order = all_placed_rows xs ys h.waiting.once h.new h.stand.order;
  once = all_placed_once xs ys h.waiting.once h.new h.stand.once;
}

-- what is beside a route, and the locks

beside_all : (r : Route) (xs ys : List Route) → NoneTwice xs → AllByRecursion (IsNew ys) xs → InRows ys → beside r (all_placed xs ys) ≡ all_placed (beside r xs) (beside r ys)
beside_all r [] ys n a h = refl
beside_all r (x ∷ xs) ys n a h = filter_placed (stays_beside r) x (all_placed xs ys) (all_placed_rows xs ys n.1 a.1 h) ∙ cases (is_same_pair x r) (beside_all r xs ys n.1 a.1 h)
  where
    cases : (b : Bool) → beside r (all_placed xs ys) ≡ all_placed (beside r xs) (beside r ys)
        → cond (not b) (placed x (beside r (all_placed xs ys))) (beside r (all_placed xs ys)) ≡ all_placed (cond (not b) (x ∷ beside r xs) (beside r xs)) (beside r ys)
    cases true ih = ih
    cases false ih = ap (placed x) ih

locks_all : (r : Route) (xs ys : List Route) → AreCounted xs → list_any (is_lock_on r) (all_placed xs ys) ≡ list_any (is_lock_on r) ys
locks_all r [] ys h = refl
locks_all r (x ∷ xs) ys h = any_placed (is_lock_on r) x (all_placed xs ys) ∙ rw h.0 (locks_all r xs ys h.1)

no_locks : (r : Route) (xs : List Route) → AreCounted xs → list_any (is_lock_on r) xs ≡ false
no_locks r [] h = refl
no_locks r (x ∷ xs) h = rw h.0 (no_locks r xs h.1)

apart_from_none : (r : Route) (xs : List Route) → list_any (is_same_pair r) xs ≡ false → Apart r xs
apart_from_none r [] h = tt
apart_from_none r (x ∷ xs) h = let p = or_parts (is_same_pair r x) (list_any (is_same_pair r) xs) h in (p.0, apart_from_none r xs p.1)

none_from_apart : (r : Route) (xs : List Route) → Apart r xs → list_any (is_same_pair r) xs ≡ false
none_from_apart r [] h = refl
none_from_apart r (x ∷ xs) h = rw h.0 (none_from_apart r xs h.1)

-- what all were before a report, all are after it, where the report is so too
report_all : (P : Route → Type 0) (minq : ℕ) (r : Route) (xs : List Route) → P r → AllByRecursion P xs → AllByRecursion P (with_report minq r xs)
report_all P minq r xs p h = cases (list_any (is_lock_on r) xs) (is_good minq r)
  where
    cases : (L G : Bool) → AllByRecursion P (cond L xs (cond G (placed r (beside r xs)) (beside r xs)))
    cases true G = h
    cases false true = placed_all P r (beside r xs) p (filter_all P (stays_beside r) xs h)
    cases false false = filter_all P (stays_beside r) xs h

-- a report of a pair that has a row

known_apart : (r : Route) (rows xs : List Route) → list_any (is_same_pair r) rows ≡ true → AllByRecursion (IsNew rows) xs → Apart r xs
known_apart r rows [] k a = tt
known_apart r rows (x ∷ xs) k a = (cases (is_same_pair r x) refl, known_apart r rows xs k a.1)
  where
    cases : (b : Bool) → is_same_pair r x ≡ b → b ≡ false
    cases false e = refl
    cases true e = let n : list_any (is_same_pair r) rows ≡ false = apart_none r x rows e a.0 in absurd (cc)

pub known_items : (minq : ℕ) (r : Route) (xs rows : List Route) → AreWaiting xs rows → list_any (is_same_pair r) rows ≡ true → all_placed xs (with_report minq r rows) ≡ with_report minq r (all_placed xs rows)
known_items minq r xs rows h k =
    let apart : Apart r xs = known_apart r rows xs k h.new in
    let left : beside r (all_placed xs rows) ≡ all_placed xs (beside r rows) =
    beside_all r xs rows h.waiting.once h.new h.stand.order ∙ ap (λ ys. all_placed ys (beside r rows)) (beside_none r xs (none_from_apart r xs apart))
    in
    rw (locks_all r xs rows h.counted, left) (cases apart (list_any (is_lock_on r) rows) (is_good minq r))
  where
    cases : Apart r xs → (L G : Bool) → all_placed xs (cond L rows (cond G (placed r (beside r rows)) (beside r rows)))
        ≡ cond L (all_placed xs rows) (cond G (placed r (all_placed xs (beside r rows))) (all_placed xs (beside r rows)))
    cases a true G = refl
    cases a false true = sym (placed_beneath r xs (beside r rows) a)
    cases a false false = refl

known_new : (minq : ℕ) (r : Route) (xs rows : List Route) → Apart r xs → AllByRecursion (IsNew rows) xs → AllByRecursion (IsNew (with_report minq r rows)) xs
known_new minq r [] rows k a = tt
known_new minq r (x ∷ xs) rows k a = (report_all (λ s. is_same_pair x s ≡ false) minq r rows (same_pair_sym x r ∙ k.0) a.0, known_new minq r xs rows k.1 a.1)

pub known_waiting : (minq : ℕ) (r : Route) (xs rows : List Route) → AreWaiting xs rows → list_any (is_same_pair r) rows ≡ true → AreWaiting xs (with_report minq r rows)
known_waiting minq r xs rows h k = record {
  stand = report_stand minq r rows h.stand;
  waiting = h.waiting;
  new = known_new minq r xs rows (known_apart r rows xs k h.new) h.new;
  counted = h.counted;
}

-- a report of a pair that has none

pub kept_items : (minq : ℕ) (r : Route) (xs rows : List Route) → AreWaiting xs rows → list_any (is_same_pair r) rows ≡ false → all_placed (with_report minq r xs) rows ≡ with_report minq r (all_placed xs rows)
kept_items minq r xs rows h k =
    let free : list_any (is_lock_on r) (all_placed xs rows) ≡ false = locks_all r xs rows h.counted ∙ no_lock r rows k in
    let left : beside r (all_placed xs rows) ≡ all_placed (beside r xs) rows = beside_all r xs rows h.waiting.once h.new h.stand.order ∙ ap (all_placed (beside r xs)) (beside_none r rows k) in
    rw (free, no_locks r xs h.counted, left) (cases (is_good minq r))
  where
    cases : (G : Bool) → all_placed (cond G (placed r (beside r xs)) (beside r xs)) rows ≡ cond G (placed r (all_placed (beside r xs) rows)) (all_placed (beside r xs) rows)
    cases true = placed_among r (beside r xs) rows (beside_apart r xs)
    cases false = refl

-- an entry that reports a route is taken in as that route
pub entry_told : (minq : ℕ) (s : Sender) (e : Entry) (later : List Entry) (rows now : List Route) → not (same_call e.dest s.own || same_call e.dest s.neighbour) ≡ true
    → now ≡ with_report minq (route_over s e) rows → after_reports minq (reported_by s later) now ≡ after_reports minq (reported_by s (e ∷ later)) rows
entry_told minq s e later rows now h k = let other = not-true (same_call e.dest s.own || same_call e.dest s.neighbour) h in rw (other, k) refl

-- such a report becomes a row if it is good enough, and else changes nothing

pub new_entered : (minq : ℕ) (r : Route) (rows : List Route) → list_any (is_same_pair r) rows ≡ false → is_good minq r ≡ true → placed r rows ≡ with_report minq r rows
new_entered minq r rows k g = rw (no_lock r rows k, g, beside_none r rows k) refl

pub poor_dropped : (minq : ℕ) (r : Route) (rows : List Route) → list_any (is_same_pair r) rows ≡ false → is_good minq r ≡ false → rows ≡ with_report minq r rows
poor_dropped minq r rows k g = rw (no_lock r rows k, g) (sym (beside_none r rows k))

pub kept_waiting : (minq : ℕ) (r : Route) (xs rows : List Route) → is_none r.count ≡ false → AreWaiting xs rows → list_any (is_same_pair r) rows ≡ false → AreWaiting (with_report minq r xs) rows
kept_waiting minq r xs rows c h k = record {
  stand = h.stand;
  waiting = report_stand minq r xs h.waiting;
  new = report_all (IsNew rows) minq r xs (apart_from_none r rows k) h.new;
  counted = report_all (λ (s : Route). is_none s.count ≡ false) minq r xs c h.counted;
}

pub kept_where : (minq : ℕ) (r : Route) (xs : List Route) → AreCounted xs → with_report minq r xs ≡ cond (is_good minq r) (placed r (beside r xs)) (beside r xs)
kept_where minq r xs h = rw (no_locks r xs h) refl

-- entering from the back

placed_front : (x b : Route) (before after : List Route) → stands_before x b ≡ true → placed x (before ++ b ∷ after) ≡ placed x before ++ b ∷ after
placed_front x b [] after e = rw e refl
placed_front x b (a ∷ more) after e = cases (stands_before x a) (placed_front x b more after e)
  where
    cases : (t : Bool) → placed x (more ++ b ∷ after) ≡ placed x more ++ b ∷ after → cond t (x ∷ a ∷ (more ++ b ∷ after)) (a ∷ placed x (more ++ b ∷ after)) ≡ cond t (x ∷ a ∷ more) (a ∷ placed x more) ++ b ∷ after
    cases true ih = refl
    cases false ih = ap (λ ys. a ∷ ys) ih

all_placed_front : (xs : List Route) (b : Route) (before after : List Route) → AllByRecursion (λ x. stands_before x b ≡ true) xs → all_placed xs (before ++ b ∷ after) ≡ all_placed xs before ++ b ∷ after
all_placed_front [] b before after h = refl
all_placed_front (x ∷ xs) b before after h = ap (placed x) (all_placed_front xs b before after h.1) ∙ placed_front x b (all_placed xs before) after h.0

all_placed_last : (xs : List Route) (i : ℕ) (d : Route) (ys : List Route) → i < length xs → all_placed (take (suc i) xs) ys ≡ all_placed (take i xs) (placed (get_or xs i d) ys)
all_placed_last [] i d ys w = absurd (omega arith)
all_placed_last (x ∷ xs) zero d ys w = refl
all_placed_last (x ∷ xs) (suc i) d ys w = ap (placed x) (all_placed_last xs i d ys (omega arith))

all_before : (xs : List Route) (i : ℕ) (d : Route) → InRows xs → i < length xs → AllByRecursion (λ x. stands_before x (get_or xs i d) ≡ true) (take i xs)
all_before [] i d h w = absurd (omega arith)
all_before (x ∷ xs) zero d h w = tt
all_before (x ∷ xs) (suc i) d h w = (ahead_at x xs i d (omega arith) h.0, all_before xs i d h.1 (omega arith))

-- The rows before `end` and those behind the gap come to `all` with the first routes, one for each place of the gap.
pub record Entering (routes rows all : List Route) (end gap : ℕ) : Type 0 where
  pub told : all_placed (take gap routes) (take end rows) ++ drop (end + gap) rows ≡ all
  pub order : InRows (take end rows)
  pub within : end + gap ≤ length rows

pub enter_step : (routes rows now all : List Route) (end gap at : ℕ) (r : Route) → InRows routes → gap < length routes → r ≡ get_or routes gap r → Entering routes rows all end (gap + 1) → at ≡ place_among r (take end rows) → at ≤ end
    → now ≡ take (at + gap) rows ++ r ∷ (drop at (take end rows) ++ drop (end + gap + 1) rows) → Entering routes now all at gap
enter_step routes rows now all end gap at r h w e s p b n =
    let short : at + gap ≤ length rows = omega (arith, s.within, b) in
    let size : length (take (at + gap) rows) ≡ at + gap = length-take-le (at + gap) rows short in
    let front : take at now ≡ take at (take end rows) =
    ap (take at) n
    ∙ (take-append-le at (take (at + gap) rows) (r ∷ (drop at (take end rows) ++ drop (end + gap + 1) rows)) (omega (arith, size))
    ∙ (take-take at (at + gap) rows (omega arith) ∙ sym (take-take at end rows b)))
    in
    let back : drop (at + gap) now ≡ r ∷ (drop at (take end rows) ++ drop (end + gap + 1) rows) =
    ap (drop (at + gap)) n ∙ drop_at (take (at + gap) rows) (r ∷ (drop at (take end rows) ++ drop (end + gap + 1) rows)) (at + gap) size
    in
    let one : gap + 1 ≡ suc gap = omega arith in
    let sum : end + (gap + 1) ≡ end + gap + 1 = omega arith in
    let last : all_placed (take (gap + 1) routes) (take end rows) ≡ all_placed (take gap routes) (take at (take end rows)) ++ r ∷ drop at (take end rows) =
    ap (λ k. all_placed (take k routes) (take end rows)) one
    ∙ (all_placed_last routes gap r (take end rows) w
    ∙ (ap (λ x. all_placed (take gap routes) (placed x (take end rows))) (sym e)
    ∙ (ap (all_placed (take gap routes)) (placed-insert r (take end rows) ∙ ap (λ k. take k (take end rows) ++ r ∷ drop k (take end rows)) (sym p))
    ∙ all_placed_front (take gap routes) r (take at (take end rows)) (drop at (take end rows)) (rw e (all_before routes gap r h w)))))
    in
    record {
      told =
          ap (λ xs. all_placed (take gap routes) xs ++ drop (at + gap) now) front
          ∙ (ap (λ ys. all_placed (take gap routes) (take at (take end rows)) ++ ys) back
          ∙ (sym (append_assoc (all_placed (take gap routes) (take at (take end rows))) (r ∷ drop at (take end rows)) (drop (end + gap + 1) rows))
          ∙ (ap (λ xs. xs ++ drop (end + gap + 1) rows) (sym last)
          ∙ (ap (λ k. all_placed (take (gap + 1) routes) (take end rows) ++ drop k rows) (sym sum) ∙ s.told))));
      order = rw front (take_rows at (take end rows) s.order);
      within = omega (arith, size, ap length n ∙ length-append (take (at + gap) rows) (r ∷ (drop at (take end rows) ++ drop (end + gap + 1) rows)));
    }

-- what the rows are once those behind the route's place have moved, and the route stands before them
pub moved : (rows now : List Route) (at end gap : ℕ) (r : Route) → at ≤ end → end + gap < length rows → length now ≡ length rows → now ≡ copy_within rows at end (at + gap + 1)
    → slice_set now (at + gap) r ≡ take (at + gap) rows ++ r ∷ (drop at (take end rows) ++ drop (end + gap + 1) rows)
moved rows now at end gap r b w l e =
    let size : length (take (at + gap + 1) rows) ≡ at + gap + 1 = length-take-le (at + gap + 1) rows (omega (arith, b, w)) in
    let behind : List Route = take (end - at) (drop at rows) ++ drop (at + gap + 1 + (end - at)) rows in
    let parted : now ≡ take (at + gap + 1) rows ++ behind = e ∙ append_assoc (take (at + gap + 1) rows) (take (end - at) (drop at rows)) (drop (at + gap + 1 + (end - at)) rows) in
    let front : take (at + gap) now ≡ take (at + gap) rows =
    ap (take (at + gap)) parted ∙ (take-append-le (at + gap) (take (at + gap + 1) rows) behind (omega (arith, size)) ∙ take-take (at + gap) (at + gap + 1) rows (omega arith))
    in
    let next : suc (at + gap) ≡ at + gap + 1 = omega arith in
    let back : drop (suc (at + gap)) now ≡ behind = ap (λ k. drop k now) next ∙ (ap (drop (at + gap + 1)) parted ∙ drop_at (take (at + gap + 1) rows) behind (at + gap + 1) size) in
    let whole : at + (end - at) ≡ end = omega (arith, b) in
    let rest : at + gap + 1 + (end - at) ≡ end + gap + 1 = omega (arith, b) in
    let mid : take (end - at) (drop at rows) ≡ drop at (take end rows) = sym (drop-take at (end - at) rows) ∙ ap (λ k. drop at (take k rows)) whole in
    let parts : behind ≡ drop at (take end rows) ++ drop (end + gap + 1) rows = ap (λ xs. xs ++ drop (at + gap + 1 + (end - at)) rows) mid ∙ ap (λ k. drop at (take end rows) ++ drop k rows) rest in
    set_split now (at + gap) r (omega (arith, l, w, b))
    ∙ (ap (λ xs. xs ++ r ∷ drop (suc (at + gap)) now) front
    ∙ ap (λ ys. take (at + gap) rows ++ r ∷ ys) (back ∙ parts))
