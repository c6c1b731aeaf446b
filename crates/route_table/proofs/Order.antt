-- The order of routes is total on pairs that differ.
use Rattle.std.proofs.Common.{◌≡◌, ◌∙◌, refl, sym, ap, Bool, true, false, cond}
use Rattle.std.specs.Prelude.{◌&&◌, ◌||◌, ◌==◌, nat_lt}
use Rattle.std.specs.Cmp.{IsTotalOrder}
use Rattle.std.specs.Ordering.{nat_cmp, ordering_then, ordering_reverse, is_lt}
use Rattle.std.specs.declared.cmp.Ordering.{Ordering}
use Rattle.std.specs.declared.cmp.Ordering.TheVariants.{Less, Equal, Greater}
use Rattle.std.proofs.lemmas.Bool.{and_parts}
use Rattle.std.proofs.lemmas.Cmp.{then_total, on_total, back_total, nat_cmp_total, tied_itself}
use Rattle.ax_address.specs.Callsign.{Callsign, same_call, call_lt, call_cmp}
use Rattle.ax_address.proofs.SameCalls.{same_call-true, same_call-equal}
use Rattle.ax_address.proofs.SameNumbers.{nat_case}
use Rattle.route_table.specs.declared.route.Route.{Route}
use Rattle.route_table.specs.Table.{is_before, stands_before}
use Rattle.route_table.specs.Rows.{is_same_pair}
use Rattle.route_table.proofs.Calls.{call_total, call_cmp-Equal, then_equal, less_from_lt, greater_apart}

abbrev rank_cmp : Route → Route → Ordering
rank_cmp a b = ordering_then (nat_cmp b.quality a.quality) (call_cmp a.neighbour b.neighbour)

abbrev row_cmp : Route → Route → Ordering
row_cmp a b = ordering_then (call_cmp a.dest b.dest) (rank_cmp a b)

rank_total : IsTotalOrder rank_cmp
rank_total = then_total (on_total (λ (r : Route). r.quality) (back_total nat_cmp_total)) (on_total (λ (r : Route). r.neighbour) call_total)

row_total : IsTotalOrder row_cmp
row_total = then_total (on_total (λ (r : Route). r.dest) call_total) rank_total

first_or_both : (L E : Bool) (o : Ordering) → (L || (E && is_lt o)) ≡ is_lt (ordering_then (cond L Less (cond E Equal Greater)) o)
first_or_both true E o = refl
first_or_both false true o = refl
first_or_both false false o = refl

is_before-cmp : (a b : Route) → is_before a b ≡ is_lt (rank_cmp a b)
is_before-cmp a b =
    ap (λ e. nat_lt b.quality a.quality || (e && call_lt a.neighbour b.neighbour)) (nat_case a.quality b.quality (a.quality == b.quality) (b.quality == a.quality) refl refl)
    ∙ first_or_both (nat_lt b.quality a.quality) (b.quality == a.quality) (call_cmp a.neighbour b.neighbour)

stands_case : (a b : Callsign) (o p : Ordering) (S : Bool) → call_cmp a b ≡ o → same_call a b ≡ S → (is_lt o || (S && is_lt p)) ≡ is_lt (ordering_then o p)
stands_case a b Less p S e s = refl
stands_case a b Equal p S e s = let t : S ≡ true = sym s ∙ same_call-equal a b (call_cmp-Equal a b e) in rw t refl
stands_case a b Greater p S e s = let t : S ≡ false = sym s ∙ greater_apart a b e in rw t refl

pub stands-cmp : (a b : Route) → stands_before a b ≡ is_lt (row_cmp a b)
stands-cmp a b =
    ap (λ t. call_lt a.dest b.dest || (same_call a.dest b.dest && t)) (is_before-cmp a b)
    ∙ stands_case a.dest b.dest (call_cmp a.dest b.dest) (rank_cmp a b) (same_call a.dest b.dest) refl refl

stands_less : (a b : Route) → stands_before a b ≡ true → row_cmp a b ≡ Less
stands_less a b h = less_from_lt (row_cmp a b) (sym (stands-cmp a b) ∙ h)

pub stands_trans : (a b c : Route) → stands_before a b ≡ true → stands_before b c ≡ true → stands_before a c ≡ true
stands_trans a b c h k = stands-cmp a c ∙ ap is_lt (row_total.trans a b c (stands_less a b h) (stands_less b c k))

pub stands_irrefl : (a : Route) → stands_before a a ≡ false
stands_irrefl a = stands-cmp a a ∙ ap is_lt (tied_itself row_total a)

reversed : (o p : Ordering) → o ≡ ordering_reverse p → is_lt p ≡ true → is_lt o ≡ false
reversed o Less e h = ap is_lt e
reversed o Equal e h = absurd (cc)
reversed o Greater e h = absurd (cc)

pub stands_asym : (a b : Route) → stands_before a b ≡ true → stands_before b a ≡ false
stands_asym a b h = stands-cmp b a ∙ reversed (row_cmp b a) (row_cmp a b) (row_total.antisymm b a) (sym (stands-cmp a b) ∙ h)

total_case : (a b : Route) (o : Ordering) → row_cmp a b ≡ o → is_lt o ≡ false → is_same_pair a b ≡ false → row_cmp b a ≡ Less
total_case a b Less e h s = absurd (cc)
total_case a b Equal e h s =
    let p = then_equal (call_cmp a.dest b.dest) (rank_cmp a b) e in
    let q = then_equal (nat_cmp b.quality a.quality) (call_cmp a.neighbour b.neighbour) p.1 in
    let k = same_call-equal a.dest b.dest (call_cmp-Equal a.dest b.dest p.0) in
    let l = same_call-equal a.neighbour b.neighbour (call_cmp-Equal a.neighbour b.neighbour q.1) in
    let both : is_same_pair a b ≡ true = rw (k, l) refl in
    absurd (cc)
total_case a b Greater e h s = row_total.antisymm b a ∙ ap ordering_reverse e

pub stands_total : (a b : Route) → stands_before a b ≡ false → is_same_pair a b ≡ false → stands_before b a ≡ true
stands_total a b h s = stands-cmp b a ∙ ap is_lt (total_case a b (row_cmp a b) refl (sym (stands-cmp a b) ∙ h) s)

-- pairs

pub same_pair_true : (a b : Route) → is_same_pair a b ≡ true → (a.dest ≡ b.dest) × (a.neighbour ≡ b.neighbour)
same_pair_true a b h =
    let p = and_parts (same_call a.dest b.dest) (same_call a.neighbour b.neighbour) h in
    (same_call-true a.dest b.dest p.0, same_call-true a.neighbour b.neighbour p.1)

pub same_pair_equal : (a b : Route) → a.dest ≡ b.dest → a.neighbour ≡ b.neighbour → is_same_pair a b ≡ true
same_pair_equal a b d n = rw (same_call-equal a.dest b.dest d, same_call-equal a.neighbour b.neighbour n) refl

pub same_pair_sym : (a b : Route) → is_same_pair a b ≡ is_same_pair b a
same_pair_sym a b = cases (is_same_pair a b) (is_same_pair b a) refl refl
  where
    cases : (s t : Bool) → is_same_pair a b ≡ s → is_same_pair b a ≡ t → s ≡ t
    cases true true p q = refl
    cases false false p q = refl
    cases true false p q =
        let e = same_pair_true a b p in
        let f = same_pair_equal b a (sym e.0) (sym e.1) in
        absurd (cc)
    cases false true p q =
        let e = same_pair_true b a q in
        let f = same_pair_equal a b (sym e.0) (sym e.1) in
        absurd (cc)

-- what is of a pair with one is of a pair with the other
pub same_pair_over : (a b c : Route) → is_same_pair a b ≡ true → is_same_pair a c ≡ is_same_pair b c
same_pair_over a b c h =
    let e = same_pair_true a b h in
    ap (λ d. same_call d c.dest && same_call a.neighbour c.neighbour) e.0 ∙ ap (λ n. same_call b.dest c.dest && same_call n c.neighbour) e.1
