-- The entries to broadcast tell of first routes, each of them, in call order.
use Rattle.std.proofs.Common.{◌≡◌, ◌<◌, ◌∙◌, ℕ, zero, suc, refl, sym, ap, subst, List, [], ◌∷◌, length, filter, take, get_or, arith, Bool, true, false, cond}
use Rattle.std.specs.Prelude.{Option, Some, None, slice_get, filter_map, AllPairs, Contains, ◌↔◌}
use Rattle.std.specs.List.{cons_option, AllByRecursion}
use Rattle.std.proofs.lemmas.List.Elements.{All-from_recursion}
use Rattle.std.proofs.lemmas.List.Kept.{AllPairs-cons}
use Rattle.std.proofs.lemmas.Bool.{or_parts}
use Rattle.ax_address.specs.Callsign.{Callsign, same_call, call_lt}
use Rattle.ax_address.specs.declared.entry.Entry.{Entry}
use Rattle.route_table.specs.declared.route.Route.{Route}
use Rattle.route_table.specs.declared.route.RouteRules.{RouteRules}
use Rattle.route_table.specs.Log.{Item}
use Rattle.route_table.specs.Table.{usable, table, is_to, routes_to, destinations, is_fresh, entry_by, entry_to, to_broadcast}
use Rattle.route_table.specs.Laws.{TellsFirstRoute}
use Rattle.route_table.proofs.Groups.{Below, InOrder, calls_rise}
use Rattle.route_table.proofs.Sorting.{in_order_rows}
use Rattle.route_table.proofs.Twice.{usable_once}
use Rattle.route_table.proofs.Listed.{leads, leading, leads_table, destinations_exact}

abbrev said : Callsign → Route → Entry
said c r = record { dest = c; alias = r.alias; best = r.neighbour; quality = r.quality }

-- what an entry tells of a destination
record Tells (least : ℕ) (c : Callsign) (o : Option Route) (e : Entry) : Type 0 where
  route : Route
  first : o ≡ Some route
  fresh : is_fresh least route.count ≡ true
  says : e ≡ said c route

fresh_case : (least : ℕ) (c : Callsign) (r : Route) (e : Entry) (b : Bool) → is_fresh least r.count ≡ b → cond b (Some (said c r)) None ≡ Some e → Tells least c (Some r) e
fresh_case least c r e true f h = let s : e ≡ said c r = cc in record { route = r; first = refl; fresh = f; says = s }
fresh_case least c r e false f h = absurd (cc)

tells : (least : ℕ) (c : Callsign) (o : Option Route) (e : Entry) → entry_by least c o ≡ Some e → Tells least c o e
tells least c None e h = absurd (cc)
tells least c (Some r) e h = fresh_case least c r e (is_fresh least r.count) refl h

told : (least : ℕ) (c : Callsign) (o : Option Route) (r : Route) → o ≡ Some r → is_fresh least r.count ≡ true → entry_by least c o ≡ Some (said c r)
told least c o r h f = rw (h, f) refl

-- what filter_map keeps

abbrev From : (Callsign → Option Entry) → Entry → Type 0
From f e = (c : Callsign) × (f c ≡ Some e)

found_case : (f : Callsign → Option Entry) (d : Callsign) (rest : List Entry) (e : Entry) (o : Option Entry) → f d ≡ o → ((i : ℕ) → i < length rest → get_or rest i e ≡ e → From f e) → (i : ℕ) → i < length (cons_option o rest) → get_or (cons_option o rest) i e ≡ e → From f e
found_case f d rest e None q ih i w h = ih i w h
found_case f d rest e (Some y) q ih zero w h = (d, q ∙ ap Some h)
found_case f d rest e (Some y) q ih (suc i) w h = ih i (omega arith) h

found_in : (f : Callsign → Option Entry) (ds : List Callsign) (e : Entry) (i : ℕ) → i < length (filter_map f ds) → get_or (filter_map f ds) i e ≡ e → From f e
found_in f [] e i w h = absurd (omega arith)
found_in f (d ∷ ds) e i w h = found_case f d (filter_map f ds) e (f d) refl (found_in f ds e) i w h

put_here : (o : Option Entry) (rest : List Entry) (e : Entry) → o ≡ Some e → Contains (cons_option o rest) e
put_here None rest e h = absurd (cc)
put_here (Some y) rest e h = let s : y ≡ e = cc in (0, omega arith, s)

put_later : (o : Option Entry) (rest : List Entry) (e : Entry) → Contains rest e → Contains (cons_option o rest) e
put_later None rest e h = h
put_later (Some y) rest e h = (suc h.0, (let w = h.1 in omega arith), h.2)

put_in : (f : Callsign → Option Entry) (ds : List Callsign) (c : Callsign) (e : Entry) → f c ≡ Some e → (i : ℕ) → i < length ds → get_or ds i c ≡ c → Contains (filter_map f ds) e
put_in f [] c e h i w g = absurd (omega arith)
put_in f (d ∷ ds) c e h zero w g = put_here (f d) (filter_map f ds) e (ap f g ∙ h)
put_in f (d ∷ ds) c e h (suc i) w g = put_later (f d) (filter_map f ds) e (put_in f ds c e h i (omega arith) g)

-- a destination with a first route is one of the table's

none_case : (b : Bool) (r : Route) (rest : List Route) → b ≡ false → rest ≡ [] → cond b (r ∷ rest) rest ≡ []
none_case b r rest h e = rw (h, e) refl

none_led : (c : Callsign) (rs : List Route) → leads c rs ≡ false → filter (is_to c) rs ≡ []
none_led c [] h = refl
none_led c (r ∷ rs) h =
    let p = or_parts (same_call r.dest c) (leads c rs) h in
    none_case (same_call r.dest c) r (filter (is_to c) rs) p.0 (none_led c rs p.1)

led_case : (c : Callsign) (rs : List Route) (r : Route) (b : Bool) → leads c rs ≡ b → slice_get (take 3 (filter (is_to c) rs)) 0 ≡ Some r → b ≡ true
led_case c rs r true l h = refl
led_case c rs r false l h =
    let none : slice_get (take 3 (filter (is_to c) rs)) 0 ≡ None = ap (λ xs. slice_get (take 3 xs) 0) (none_led c rs l) in
    absurd (cc)

is_destination : (rules : RouteRules) (log : List Item) (c : Callsign) (r : Route) → slice_get (routes_to rules log c) 0 ≡ Some r → Contains (destinations rules log) c
is_destination rules log c r h = (destinations_exact rules log c).1 (leading c (usable rules log) (sym (leads_table rules log c) ∙ led_case c (table rules log) r (leads c (table rules log)) refl h))

tells_first : (rules : RouteRules) (log : List Item) (e : Entry) → Contains (to_broadcast rules log) e → TellsFirstRoute rules log e
tells_first rules log e h =
    let from = found_in (entry_to rules log) (destinations rules log) e h.0 h.1 h.2 in
    let t = tells rules.least from.0 (slice_get (routes_to rules log from.0) 0) e from.1 in
    let dest : from.0 ≡ e.dest = ap (λ (x : Entry). x.dest) (sym t.says) in
    record {
      route = t.route;
      first = subst (λ c. slice_get (routes_to rules log c) 0 ≡ Some t.route) dest t.first;
      fresh = t.fresh;
      alias = ap (λ (x : Entry). x.alias) t.says;
      best = ap (λ (x : Entry). x.best) t.says;
      quality = ap (λ (x : Entry). x.quality) t.says;
    }

is_said : (e : Entry) (r : Route) → e.alias ≡ r.alias → e.best ≡ r.neighbour → e.quality ≡ r.quality → said e.dest r ≡ e
is_said e r a b q = λ i. record { dest = e.dest; alias = sym a i; best = sym b i; quality = sym q i }

is_told : (rules : RouteRules) (log : List Item) (e : Entry) → TellsFirstRoute rules log e → Contains (to_broadcast rules log) e
is_told rules log e t =
    let at = is_destination rules log e.dest t.route t.first in
    let says = told rules.least e.dest (slice_get (routes_to rules log e.dest) 0) t.route t.first t.fresh ∙ ap Some (is_said e t.route t.alias t.best t.quality) in
    put_in (entry_to rules log) (destinations rules log) e.dest e says at.0 at.1 at.2

pub broadcast_exact : (rules : RouteRules) (log : List Item) (e : Entry) → Contains (to_broadcast rules log) e ↔ TellsFirstRoute rules log e
broadcast_exact rules log e = (tells_first rules log e, is_told rules log e)

-- the order

abbrev Under : Callsign → List Entry → Type 0
Under c es = AllByRecursion (λ (e : Entry). call_lt c e.dest ≡ true) es

abbrev Ordered : List Entry → Type 0
Ordered [] = Unit {0}
Ordered (e ∷ es) = Under e.dest es × Ordered es

abbrev Named : (Callsign → Option Entry) → Type 0
Named f = (c : Callsign) (e : Entry) → f c ≡ Some e → e.dest ≡ c

under_case : (b d : Callsign) (o : Option Entry) (rest : List Entry) → call_lt b d ≡ true → ((e : Entry) → o ≡ Some e → e.dest ≡ d) → Under b rest → Under b (cons_option o rest)
under_case b d None rest l n u = u
under_case b d (Some e) rest l n u = (ap (call_lt b) (n e refl) ∙ l, u)

under : (f : Callsign → Option Entry) → Named f → (b : Callsign) (ds : List Callsign) → Below b ds → Under b (filter_map f ds)
under f n b [] h = tt
under f n b (d ∷ ds) h = under_case b d (f d) (filter_map f ds) h.0 (n d) (under f n b ds h.1)

ordered_case : (d : Callsign) (o : Option Entry) (rest : List Entry) → ((e : Entry) → o ≡ Some e → e.dest ≡ d) → Under d rest → Ordered rest → Ordered (cons_option o rest)
ordered_case d None rest n u h = h
ordered_case d (Some e) rest n u h = (subst (λ c. Under c rest) (sym (n e refl)) u, h)

ordered : (f : Callsign → Option Entry) → Named f → (ds : List Callsign) → InOrder ds → Ordered (filter_map f ds)
ordered f n [] h = tt
ordered f n (d ∷ ds) h = ordered_case d (f d) (filter_map f ds) (n d) (under f n d ds h.0) (ordered f n ds h.1)

pairs_from_order : (es : List Entry) → Ordered es → AllPairs (λ (a b : Entry). call_lt a.dest b.dest ≡ true) es
pairs_from_order [] h = λ i j d lo hi. absurd (omega arith)
pairs_from_order (e ∷ es) h = AllPairs-cons (λ (a b : Entry). call_lt a.dest b.dest ≡ true) e es (All-from_recursion (λ (d : Entry). call_lt e.dest d.dest ≡ true) es h.0) (pairs_from_order es h.1)

named : (rules : RouteRules) (log : List Item) → Named (entry_to rules log)
named rules log c e h = let t = tells rules.least c (slice_get (routes_to rules log c) 0) e h in ap (λ (x : Entry). x.dest) t.says

pub broadcast_rises : (rules : RouteRules) (log : List Item) → AllPairs (λ (a b : Entry). call_lt a.dest b.dest ≡ true) (to_broadcast rules log)
broadcast_rises rules log =
    pairs_from_order (to_broadcast rules log) (ordered (entry_to rules log) (named rules log) (destinations rules log) (calls_rise (table rules log) (in_order_rows (usable rules log) (usable_once rules log))))
