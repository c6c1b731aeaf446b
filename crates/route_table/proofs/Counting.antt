-- How many rows there are after reports.
use Rattle.std.proofs.Common.{◌≡◌, ◌<◌, ◌≤◌, ◌+◌, ◌∙◌, ℕ, zero, suc, refl, sym, ap, List, [], ◌∷◌, length, take, arith, Bool, true, false, cond, get_or, drop, drop-cons, add-one}
use Rattle.std.specs.Prelude.{not, ◌||◌, ◌&&◌, is_none}
use Rattle.std.specs.List.{list_any}
use Rattle.std.proofs.lemmas.List.Sorted.{list_any-IsPermutation, length_permutation}
use Rattle.ax_address.specs.Callsign.{same_call}
use Rattle.ax_address.specs.declared.entry.Entry.{Entry}
use Rattle.route_table.specs.declared.sender.Sender.{Sender}
use Rattle.route_table.specs.declared.route.Route.{Route}
use Rattle.route_table.specs.Log.{Report, entry_reports, quality_over}
use Rattle.route_table.specs.Table.{placed, is_good}
use Rattle.route_table.specs.Rows.{is_same_pair, is_lock_on, beside, with_report, after_reports, fresh, reported, reported_by, is_held_after, changed}
use Rattle.route_table.specs.Places.{NoneTwice, Stand, AreCounted}
use Rattle.route_table.proofs.Order.{same_pair_sym, same_pair_over}
use Rattle.route_table.proofs.Sorting.{Apart, placed_moves}
use Rattle.route_table.proofs.Changing.{beside_none, reports_stand}

pub any_placed : (p : Route → Bool) (r : Route) (xs : List Route) → list_any p (placed r xs) ≡ (p r || list_any p xs)
any_placed p r xs = sym (list_any-IsPermutation p (r ∷ xs) (placed r xs) (placed_moves r xs))

pub length_placed : (r : Route) (xs : List Route) → length (placed r xs) ≡ suc (length xs)
length_placed r xs = length_permutation (r ∷ xs) (placed r xs) (placed_moves r xs)

-- locks stay through a report

lock_pair : (r s : Route) → is_same_pair r s ≡ true → (xs : List Route) → list_any (is_lock_on r) xs ≡ list_any (is_lock_on s) xs
lock_pair r s e [] = refl
lock_pair r s e (x ∷ xs) = rw (same_pair_over r s x e, lock_pair r s e xs) refl

locks_beside : (r s : Route) (xs : List Route) → list_any (is_lock_on s) xs ≡ false → list_any (is_lock_on r) (beside s xs) ≡ list_any (is_lock_on r) xs
locks_beside r s [] h = refl
locks_beside r s (x ∷ xs) h = cases (is_none x.count) (is_same_pair x s) (list_any (is_lock_on s) xs) refl refl (ap (λ b. (is_none x.count && b) || list_any (is_lock_on s) xs) (same_pair_sym x s) ∙ h) (locks_beside r s xs)
  where
    cases : (c b t : Bool) → is_none x.count ≡ c → is_same_pair x s ≡ b → ((c && b) || t) ≡ false → (t ≡ false → list_any (is_lock_on r) (beside s xs) ≡ list_any (is_lock_on r) xs)
        → list_any (is_lock_on r) (cond (not b) (x ∷ beside s xs) (beside s xs)) ≡ ((is_none x.count && is_same_pair r x) || list_any (is_lock_on r) xs)
    cases true true t e f k g = absurd (cc)
    cases true false t e f k g = rw (g k) refl
    cases false true t e f k g = rw (e, g k) refl
    cases false false t e f k g = rw (g k) refl

pub locks_stay : (minq : ℕ) (r s : Route) (rows : List Route) → is_none s.count ≡ false → list_any (is_lock_on r) (with_report minq s rows) ≡ list_any (is_lock_on r) rows
locks_stay minq r s rows h = cases (list_any (is_lock_on s) rows) (is_good minq s) refl
  where
    cases : (L G : Bool) → list_any (is_lock_on s) rows ≡ L → list_any (is_lock_on r) (cond L rows (cond G (placed s (beside s rows)) (beside s rows))) ≡ list_any (is_lock_on r) rows
    cases true G l = refl
    cases false true l = any_placed (is_lock_on r) s (beside s rows) ∙ rw h (locks_beside r s rows l)
    cases false false l = locks_beside r s rows l

pub locks_stay_all : (minq : ℕ) (r : Route) (rs rows : List Route) → AreCounted rs → list_any (is_lock_on r) (after_reports minq rs rows) ≡ list_any (is_lock_on r) rows
locks_stay_all minq r [] rows h = refl
locks_stay_all minq r (s ∷ rs) rows h = locks_stay_all minq r rs (with_report minq s rows) h.1 ∙ locks_stay minq r s rows h.0

-- whether a pair that isn't locked has a row

gone : (r s : Route) → is_same_pair r s ≡ true → (xs : List Route) → list_any (is_same_pair r) (beside s xs) ≡ false
gone r s e [] = refl
gone r s e (x ∷ xs) = cases (is_same_pair x s) refl (gone r s e xs)
  where
    cases : (b : Bool) → is_same_pair x s ≡ b → list_any (is_same_pair r) (beside s xs) ≡ false → list_any (is_same_pair r) (cond (not b) (x ∷ beside s xs) (beside s xs)) ≡ false
    cases true f ih = ih
    cases false f ih = let g : is_same_pair r x ≡ false = same_pair_over r s x e ∙ (same_pair_sym s x ∙ f) in rw g ih

kept : (r s : Route) → is_same_pair r s ≡ false → (xs : List Route) → list_any (is_same_pair r) (beside s xs) ≡ list_any (is_same_pair r) xs
kept r s e [] = refl
kept r s e (x ∷ xs) = cases (is_same_pair x s) refl (kept r s e xs)
  where
    cases : (b : Bool) → is_same_pair x s ≡ b → list_any (is_same_pair r) (beside s xs) ≡ list_any (is_same_pair r) xs → list_any (is_same_pair r) (cond (not b) (x ∷ beside s xs) (beside s xs)) ≡ (is_same_pair r x || list_any (is_same_pair r) xs)
    cases true f ih =
        let g : is_same_pair r x ≡ false = same_pair_sym r x ∙ (same_pair_over x s r f ∙ (same_pair_sym s r ∙ e)) in
        rw g ih
    cases false f ih = ap (λ t. is_same_pair r x || t) ih

held_next : (minq : ℕ) (r s : Route) (rows : List Route) → list_any (is_lock_on r) rows ≡ false → list_any (is_same_pair r) (with_report minq s rows) ≡ cond (is_same_pair r s) (is_good minq s) (list_any (is_same_pair r) rows)
held_next minq r s rows h = cases (is_same_pair r s) (list_any (is_lock_on s) rows) (is_good minq s) refl refl
  where
    cases : (P L G : Bool) → is_same_pair r s ≡ P → list_any (is_lock_on s) rows ≡ L → list_any (is_same_pair r) (cond L rows (cond G (placed s (beside s rows)) (beside s rows))) ≡ cond P G (list_any (is_same_pair r) rows)
    cases true true G p l = let e : list_any (is_lock_on r) rows ≡ true = lock_pair r s p rows ∙ l in absurd (cc)
    cases true false true p l = any_placed (is_same_pair r) s (beside s rows) ∙ rw p refl
    cases true false false p l = gone r s p rows
    cases false true G p l = refl
    cases false false true p l = any_placed (is_same_pair r) s (beside s rows) ∙ rw p (kept r s p rows)
    cases false false false p l = kept r s p rows

pub held_after : (minq : ℕ) (r : Route) (rs rows : List Route) → AreCounted rs → list_any (is_lock_on r) rows ≡ false → list_any (is_same_pair r) (after_reports minq rs rows) ≡ is_held_after minq r rs (list_any (is_same_pair r) rows)
held_after minq r [] rows c h = refl
held_after minq r (s ∷ rs) rows c h =
    held_after minq r rs (with_report minq s rows) c.1 (locks_stay minq r s rows c.0 ∙ h) ∙ ap (is_held_after minq r rs) (held_next minq r s rows h)

-- the length

beside_length : (r : Route) (xs : List Route) → NoneTwice xs → length (beside r xs) + cond (list_any (is_same_pair r) xs) 1 0 ≡ length xs
beside_length r [] h = omega arith
beside_length r (x ∷ xs) h = cases (is_same_pair x r) refl (beside_length r xs h.1)
  where
    apart_any : (ys : List Route) → is_same_pair x r ≡ true → Apart x ys → list_any (is_same_pair r) ys ≡ false
    apart_any [] e a = refl
    apart_any (y ∷ ys) e a = let f : is_same_pair r y ≡ false = sym (same_pair_over x r y e) ∙ a.0 in rw f (apart_any ys e a.1)

    cases : (b : Bool) → is_same_pair x r ≡ b → length (beside r xs) + cond (list_any (is_same_pair r) xs) 1 0 ≡ length xs
        → length (cond (not b) (x ∷ beside r xs) (beside r xs)) + cond (is_same_pair r x || list_any (is_same_pair r) xs) 1 0 ≡ suc (length xs)
    cases true e ih =
        let s : is_same_pair r x ≡ true = same_pair_sym r x ∙ e in
        let n : list_any (is_same_pair r) xs ≡ false = apart_any xs e h.0 in
        let same : length (beside r xs) ≡ length xs = ap length (beside_none r xs n) in
        rw s (omega (arith, same))
    cases false e ih =
        let s : is_same_pair r x ≡ false = same_pair_sym r x ∙ e in
        rw s (omega (arith, ih))

length_case : (k n m : ℕ) (W G : Bool) → k + cond W 1 0 ≡ n → cond G (suc k) k ≡ m → m ≡ changed n W G
length_case k n m true true h e = sym e ∙ omega (arith, h)
length_case k n m true false h e = sym e ∙ omega (arith, h)
length_case k n m false true h e = sym e ∙ omega (arith, h)
length_case k n m false false h e = sym e ∙ omega (arith, h)

pub report_length : (minq : ℕ) (r : Route) (rows : List Route) → NoneTwice rows → list_any (is_lock_on r) rows ≡ false → length (with_report minq r rows) ≡ changed (length rows) (list_any (is_same_pair r) rows) (is_good minq r)
report_length minq r rows h l = rw l (length_case (length (beside r rows)) (length rows) _ (list_any (is_same_pair r) rows) (is_good minq r) (beside_length r rows h) (sizes (is_good minq r)))
  where
    sizes : (G : Bool) → cond G (suc (length (beside r rows))) (length (beside r rows)) ≡ length (cond G (placed r (beside r rows)) (beside r rows))
    sizes true = sym (length_placed r (beside r rows))
    sizes false = refl

beside_bound : (r : Route) (xs : List Route) → length (beside r xs) ≤ length xs
beside_bound r [] = omega arith
beside_bound r (x ∷ xs) = cases (is_same_pair x r) (beside_bound r xs)
  where
    cases : (b : Bool) → length (beside r xs) ≤ length xs → length (cond (not b) (x ∷ beside r xs) (beside r xs)) ≤ suc (length xs)
    cases true ih = omega (arith, ih)
    cases false ih = omega (arith, ih)

pub report_bound : (minq : ℕ) (r : Route) (rows : List Route) → length (with_report minq r rows) ≤ length rows + 1
report_bound minq r rows = cases (list_any (is_lock_on r) rows) (is_good minq r)
  where
    cases : (L G : Bool) → length (cond L rows (cond G (placed r (beside r rows)) (beside r rows))) ≤ length rows + 1
    cases true G = omega arith
    cases false true = omega (arith, length_placed r (beside r rows), beside_bound r rows)
    cases false false = omega (arith, beside_bound r rows)

-- each report is at most a row more
pub reports_bound : (minq : ℕ) (rs rows : List Route) → length (after_reports minq rs rows) ≤ length rows + length rs
reports_bound minq [] rows = omega arith
reports_bound minq (r ∷ rs) rows = omega (arith, reports_bound minq rs (with_report minq r rows), report_bound minq r rows)

-- a broadcast reports at most a route to its sender and one for each entry

entries_bound : (s : Sender) (es : List Entry) → length (reported_by s es) ≤ length es
entries_bound s [] = omega arith
entries_bound s (e ∷ es) = cases (same_call e.dest s.own || same_call e.dest s.neighbour) (entries_bound s es)
  where
    cases : (b : Bool) → length (reported_by s es) ≤ length es
        → length (fresh s.life (cond b (entry_reports s.own s.neighbour s.path_quality es) (Report e.dest e.alias s.neighbour (quality_over s.own s.path_quality e) ∷ entry_reports s.own s.neighbour s.path_quality es))) ≤ length (e ∷ es)
    cases true h = omega (arith, h)
    cases false h = omega (arith, h)

pub reported_bound : (s : Sender) (es : List Entry) → length (reported s es) ≤ 1 + length es
reported_bound s es = cases (same_call s.neighbour s.own)
  where
    cases : (b : Bool) → length (fresh s.life (cond b [] (Report s.neighbour s.alias s.neighbour s.path_quality ∷ entry_reports s.own s.neighbour s.path_quality es))) ≤ 1 + length es
    cases true = omega arith
    cases false = omega (arith, entries_bound s es)

-- what the code counts with one report more

pub count_locked : (minq : ℕ) (r : Route) (rs rows : List Route) (n : ℕ) → AreCounted rs → list_any (is_lock_on r) rows ≡ true → n ≡ length (after_reports minq rs rows) → n ≡ length (with_report minq r (after_reports minq rs rows))
count_locked minq r rs rows n c h e = let l : list_any (is_lock_on r) (after_reports minq rs rows) ≡ true = locks_stay_all minq r rs rows c ∙ h in rw l e

pub count_more : (minq : ℕ) (r : Route) (rs rows : List Route) (n : ℕ) → Stand rows → AreCounted rs → list_any (is_lock_on r) rows ≡ false → n ≡ length (after_reports minq rs rows)
    → changed n (is_held_after minq r rs (list_any (is_same_pair r) rows)) (is_good minq r) ≡ length (with_report minq r (after_reports minq rs rows))
count_more minq r rs rows n s c h e =
    let l : list_any (is_lock_on r) (after_reports minq rs rows) ≡ false = locks_stay_all minq r rs rows c ∙ h in
    let p = report_length minq r (after_reports minq rs rows) (reports_stand minq rs rows s).once l in
    sym (p ∙ rw (held_after minq r rs rows c h, ← e) refl)

pub after_more : (minq : ℕ) (rs rows : List Route) (i : ℕ) (d : Route) → i < length rs → after_reports minq (take (suc i) rs) rows ≡ with_report minq (get_or rs i d) (after_reports minq (take i rs) rows)
after_more minq [] rows i d w = absurd (omega arith)
after_more minq (r ∷ rs) rows zero d w = refl
after_more minq (r ∷ rs) rows (suc i) d w = after_more minq rs (with_report minq r rows) i d (omega arith)

pub take_counted : (rs : List Route) (i : ℕ) → AreCounted rs → AreCounted (take i rs)
take_counted rs zero h = tt
take_counted [] (suc i) h = tt
take_counted (r ∷ rs) (suc i) h = (h.0, take_counted rs i h.1)

pub lock_length : (r : Route) (rows : List Route) → NoneTwice rows → length (placed r (beside r rows)) ≡ changed (length rows) (list_any (is_same_pair r) rows) true
lock_length r rows h = length_placed r (beside r rows) ∙ length_case (length (beside r rows)) (length rows) _ (list_any (is_same_pair r) rows) true (beside_length r rows h) refl

-- one report more, as the loops go on

pub held_step : (minq : ℕ) (r : Route) (rs : List Route) (i : ℕ) (s : Route) (held now : Bool) → i < length rs → s ≡ get_or rs i s → now ≡ is_held_after minq r (s ∷ []) held → is_held_after minq r (drop (i + 1) rs) now ≡ is_held_after minq r (drop i rs) held
held_step minq r rs i s held now w e h = rw (h, drop-cons rs i s w, ← e, add-one) refl

pub reports_step : (minq : ℕ) (rs : List Route) (i : ℕ) (s : Route) (rows now : List Route) → i < length rs → s ≡ get_or rs i s → now ≡ with_report minq s rows → after_reports minq (drop (i + 1) rs) now ≡ after_reports minq (drop i rs) rows
reports_step minq rs i s rows now w e h = rw (h, drop-cons rs i s w, ← e, add-one) refl
