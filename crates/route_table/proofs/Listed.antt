-- The destinations of a log are those of its usable routes.
use Rattle.std.proofs.Common.{◌≡◌, ◌∙◌, refl, sym, subst, ap, map, List, [], ◌∷◌, get_or, Bool, true, false, cond}
use Rattle.std.specs.Prelude.{◌||◌, ◌↔◌, Any, Contains}
use Rattle.std.specs.List.{list_any, dedup_from}
use Rattle.std.proofs.lemmas.List.Sorted.{list_any-IsPermutation}
use Rattle.std.proofs.lemmas.List.Folds.{Any-from_list_any, list_any-from_Any}
use Rattle.ax_address.specs.Callsign.{Callsign, same_call}
use Rattle.ax_address.proofs.SameCalls.{same_call-true, call_refl, same_call-equal}
use Rattle.route_table.specs.declared.route.Route.{Route}
use Rattle.route_table.specs.declared.route.RouteRules.{RouteRules}
use Rattle.route_table.specs.Log.{Item}
use Rattle.route_table.specs.Rows.{calls_of}
use Rattle.route_table.specs.Table.{usable, table, destinations}
use Rattle.route_table.proofs.Sorting.{in_order_moves}

abbrev pub among : Callsign → List Callsign → Bool
among c ds = list_any (λ d. same_call d c) ds

abbrev pub leads : Callsign → List Route → Bool
leads c rs = list_any (λ (r : Route). same_call r.dest c) rs

dedup_among : (c k : Callsign) (rs : List Route) → among c (dedup_from same_call k (map (λ (r : Route). r.dest) rs)) ≡ (same_call k c || leads c rs)
dedup_among c k [] = refl
dedup_among c k (x ∷ xs) = cases (same_call x.dest k) refl (dedup_among c k xs) (dedup_among c x.dest xs)
  where
    or_again : (a b t : Bool) → a ≡ b → (a || t) ≡ (a || (b || t))
    or_again true b t h = refl
    or_again false false t h = refl
    or_again false true t h = absurd (cc)

    cases : (b : Bool) → same_call x.dest k ≡ b
        → among c (dedup_from same_call k (map (λ (r : Route). r.dest) xs)) ≡ (same_call k c || leads c xs)
        → among c (dedup_from same_call x.dest (map (λ (r : Route). r.dest) xs)) ≡ (same_call x.dest c || leads c xs)
        → among c (cond b (dedup_from same_call k (map (λ (r : Route). r.dest) xs)) (k ∷ dedup_from same_call x.dest (map (λ (r : Route). r.dest) xs))) ≡ (same_call k c || (same_call x.dest c || leads c xs))
    cases true e h g = h ∙ or_again (same_call k c) (same_call x.dest c) (leads c xs) (ap (λ d. same_call d c) (sym (same_call-true x.dest k e)))
    cases false e h g = ap (λ t. same_call k c || t) g

pub calls_among : (c : Callsign) (rs : List Route) → among c (calls_of rs) ≡ leads c rs
calls_among c [] = refl
calls_among c (r ∷ rs) = dedup_among c r.dest rs

pub leads_table : (rules : RouteRules) (log : List Item) (c : Callsign) → leads c (table rules log) ≡ leads c (usable rules log)
leads_table rules log c = sym (list_any-IsPermutation (λ (r : Route). same_call r.dest c) (usable rules log) (table rules log) (in_order_moves (usable rules log)))

pub destinations_among : (rules : RouteRules) (log : List Item) (c : Callsign) → among c (destinations rules log) ≡ leads c (usable rules log)
destinations_among rules log c = calls_among c (table rules log) ∙ leads_table rules log c

contained : (c : Callsign) (ds : List Callsign) → Contains ds c → among c ds ≡ true
contained c ds h = list_any-from_Any (λ d. same_call d c) ds (h.0, c, h.1, h.2, call_refl c)

contains : (c : Callsign) (ds : List Callsign) → among c ds ≡ true → Contains ds c
contains c ds h =
    let a = Any-from_list_any (λ d. same_call d c) ds h in
    (a.0, a.2, subst (λ d. get_or ds a.0 d ≡ d) (same_call-true a.1 c a.4) a.3)

led : (c : Callsign) (rs : List Route) → Any (λ (r : Route). r.dest ≡ c) rs → leads c rs ≡ true
led c rs h = list_any-from_Any (λ (r : Route). same_call r.dest c) rs (h.0, h.1, h.2, h.3, same_call-equal h.1.dest c h.4)

pub leading : (c : Callsign) (rs : List Route) → leads c rs ≡ true → Any (λ (r : Route). r.dest ≡ c) rs
leading c rs h =
    let a = Any-from_list_any (λ (r : Route). same_call r.dest c) rs h in
    (a.0, a.1, a.2, a.3, same_call-true a.1.dest c a.4)

pub destinations_exact : (rules : RouteRules) (log : List Item) (call : Callsign) → Contains (destinations rules log) call ↔ Any (λ (r : Route). r.dest ≡ call) (usable rules log)
destinations_exact rules log call = (
  (λ h. leading call (usable rules log) (sym (destinations_among rules log call) ∙ contained call (destinations rules log) h)),
  (λ h. contains call (destinations rules log) (destinations_among rules log call ∙ led call (usable rules log) h)),
)
