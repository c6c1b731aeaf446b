-- The routes of a log to a destination, ranked: in order, and the same routes.
use Rattle.std.proofs.Common.{◌≡◌, ◌∙◌, refl, sym, List, [], ◌∷◌, filter, arith, Bool, true, false, cond}
use Rattle.std.specs.Prelude.{◌&&◌, ◌||◌, AllPairs, IsPermutation}
use Rattle.std.specs.List.{AllByRecursion}
use Rattle.std.proofs.lemmas.List.Elements.{All-from_recursion}
use Rattle.std.proofs.lemmas.List.Kept.{AllPairs-cons}
use Rattle.ax_address.specs.Callsign.{Callsign, same_call, call_lt}
use Rattle.ax_address.proofs.SameCalls.{same_call-true}
use Rattle.route_table.specs.declared.route.Route.{Route}
use Rattle.route_table.specs.declared.route.RouteRules.{RouteRules}
use Rattle.route_table.specs.Log.{Item}
use Rattle.route_table.specs.Table.{is_before, stands_before, usable, table, is_to, all_routes_to}
use Rattle.route_table.specs.Places.{InRows}
use Rattle.route_table.proofs.Calls.{call_lt_equal}
use Rattle.route_table.proofs.Sorting.{Ahead, in_order_rows, in_order_moves, filter_moves}
use Rattle.route_table.proofs.Twice.{usable_once}

ranks_case : (a b : Route) (L S : Bool) → call_lt a.dest b.dest ≡ L → (L || (S && is_before a b)) ≡ true → a.dest ≡ b.dest → is_before a b ≡ true
ranks_case a b true S l h e = let n = call_lt_equal a.dest b.dest e in absurd (cc)
ranks_case a b false true l h e = h
ranks_case a b false false l h e = absurd (cc)

ranks : (c : Callsign) (a b : Route) → stands_before a b ≡ true → same_call a.dest c ≡ true → same_call b.dest c ≡ true → is_before a b ≡ true
ranks c a b h k l = ranks_case a b (call_lt a.dest b.dest) (same_call a.dest b.dest) refl h (same_call-true a.dest c k ∙ sym (same_call-true b.dest c l))

abbrev Better : Route → List Route → Type 0
Better r xs = AllByRecursion (λ s. is_before r s ≡ true) xs

abbrev InRank : List Route → Type 0
InRank [] = Unit {0}
InRank (r ∷ rs) = Better r rs × InRank rs

better : (c : Callsign) (r : Route) → same_call r.dest c ≡ true → (xs : List Route) → Ahead r xs → Better r (filter (is_to c) xs)
better c r k [] h = tt
better c r k (x ∷ xs) h = cases (same_call x.dest c) refl (better c r k xs h.1)
  where
    cases : (b : Bool) → same_call x.dest c ≡ b → Better r (filter (is_to c) xs) → Better r (cond b (x ∷ filter (is_to c) xs) (filter (is_to c) xs))
    cases true e ih = (ranks c r x h.0 k e, ih)
    cases false e ih = ih

in_rank : (c : Callsign) (xs : List Route) → InRows xs → InRank (filter (is_to c) xs)
in_rank c [] h = tt
in_rank c (x ∷ xs) h = cases (same_call x.dest c) refl (in_rank c xs h.1)
  where
    cases : (b : Bool) → same_call x.dest c ≡ b → InRank (filter (is_to c) xs) → InRank (cond b (x ∷ filter (is_to c) xs) (filter (is_to c) xs))
    cases true e ih = (better c x e xs h.0, ih)
    cases false e ih = ih

pairs_from_rank : (rs : List Route) → InRank rs → AllPairs (λ a b. is_before a b ≡ true) rs
pairs_from_rank [] h = λ i j d lo hi. absurd (omega arith)
pairs_from_rank (r ∷ rs) h = AllPairs-cons (λ a b. is_before a b ≡ true) r rs (All-from_recursion (λ s. is_before r s ≡ true) rs h.0) (pairs_from_rank rs h.1)

pub routes_ranked : (rules : RouteRules) (log : List Item) (dest : Callsign) → AllPairs (λ a b. is_before a b ≡ true) (all_routes_to rules log dest)
routes_ranked rules log dest = pairs_from_rank (all_routes_to rules log dest) (in_rank dest (table rules log) (in_order_rows (usable rules log) (usable_once rules log)))

pub routes_rearranged : (rules : RouteRules) (log : List Item) (dest : Callsign) → IsPermutation (filter (is_to dest) (usable rules log)) (all_routes_to rules log dest)
routes_rearranged rules log dest =
    filter_moves (is_to dest) (usable rules log) (table rules log) (usable_once rules log) (in_order_rows (usable rules log) (usable_once rules log)) (in_order_moves (usable rules log))
