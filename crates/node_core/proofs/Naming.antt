-- The next hop of a node is a call, where all that bears on its routes names calls.
use Rattle.std.proofs.Common.{◌≡◌, ℕ, zero, suc, subst, List, [], ◌∷◌, ◌++◌, take, filter, cond}
use Rattle.std.specs.Prelude.{Bool, true, false, ◌-◌, if◌then◌else◌, slice_get, Some, None}
use Rattle.std.specs.List.{AllByRecursion, list_any}
use Rattle.std.specs.Option.{option_map}
use Rattle.ax_address.specs.Callsign.{Callsign}
use Rattle.link_table.specs.Reaching.{IsCall}
use Rattle.route_table.specs.Table.{is_live, is_lock_of, live, live_among, live_of, rounds, in_order, placed, stands_before, is_good, is_to, next_hop, table}
use Rattle.route_table.specs.Log as logs
use Rattle.route_table.specs.Log.{Item}
use Rattle.route_table.specs.declared.route.Route.{Route}
use Rattle.route_table.specs.declared.route.RouteRules.{RouteRules}
use Rattle.node_core.specs.Carried.{NamesCall}

abbrev ByCall : Route → Type 0
ByCall r = IsCall r.neighbour

both : (xs ys : List Route) → AllByRecursion ByCall xs → AllByRecursion ByCall ys → AllByRecursion ByCall (xs ++ ys)
both [] ys a b = b
both (x ∷ xs) ys a b = (a.0, both xs ys a.1 b)

filtered : (test : Route → Bool) (rs : List Route) → AllByRecursion ByCall rs → AllByRecursion ByCall (filter test rs)
filtered test [] a = tt
filtered test (r ∷ rs) a = by (test r) (filtered test rs a.1)
  where
    by : (b : Bool) → AllByRecursion ByCall (filter test rs) → AllByRecursion ByCall (cond b (r ∷ filter test rs) (filter test rs))
    by true rest = (a.0, rest)
    by false rest = rest

placed_all : (r : Route) (rs : List Route) → ByCall r → AllByRecursion ByCall rs → AllByRecursion ByCall (placed r rs)
placed_all r [] p a = (p, tt)
placed_all r (x ∷ xs) p a = by (stands_before r x) (placed_all r xs p a.1)
  where
    by : (b : Bool) → AllByRecursion ByCall (placed r xs) → AllByRecursion ByCall (if b then r ∷ x ∷ xs else x ∷ placed r xs)
    by true rest = (p, a)
    by false rest = (a.0, rest)

ordered : (rs : List Route) → AllByRecursion ByCall rs → AllByRecursion ByCall (in_order rs)
ordered [] a = tt
ordered (r ∷ rs) a = placed_all r (in_order rs) a.0 (ordered rs a.1)

of_item : (life : ℕ) (log : List Item) (item : Item) (later : List Item) → NamesCall item → AllByRecursion ByCall (live_of life log item later)
of_item life log (logs.Report d a n q) later c = by (is_live life log d n later)
  where
    by : (b : Bool) → AllByRecursion ByCall (if b then record { dest = d; alias = a; neighbour = n; quality = q; count = Some (life - rounds later) } ∷ [] else [])
    by true = (c, tt)
    by false = tt
of_item life log (logs.Lock d a n q) later c = by (list_any (is_lock_of d n) later)
  where
    by : (b : Bool) → AllByRecursion ByCall (if b then [] else record { dest = d; alias = a; neighbour = n; quality = q; count = None } ∷ [])
    by true = tt
    by false = (c, tt)
of_item life log logs.Round later c = tt
of_item life log (logs.Failure n) later c = tt

among : (life : ℕ) (log items : List Item) → AllByRecursion NamesCall items → AllByRecursion ByCall (live_among life log items)
among life log [] a = tt
among life log (item ∷ later) a = both (live_of life log item later) (live_among life log later) (of_item life log item later a.0) (among life log later a.1)

taken : (k : ℕ) (rs : List Route) → AllByRecursion ByCall rs → AllByRecursion ByCall (take k rs)
taken zero rs a = tt
taken (suc k) [] a = tt
taken (suc k) (r ∷ rs) a = (a.0, taken k rs a.1)

first_hop : (rs : List Route) (c : Callsign) → AllByRecursion ByCall rs → option_map (λ (r : Route). r.neighbour) (slice_get rs 0) ≡ Some c → IsCall c
first_hop [] c a e = absurd (cc e)
first_hop (r ∷ rs) c a e = let same : r.neighbour ≡ c = cc e in subst IsCall same a.0

pub hop_is_call : (rules : RouteRules) (log : List Item) (dest c : Callsign) → AllByRecursion NamesCall log → next_hop rules log dest ≡ Some c → IsCall c
hop_is_call rules log dest c a e =
    first_hop (take 3 (filter (is_to dest) (table rules log))) c
    (taken 3 (filter (is_to dest) (table rules log)) (filtered (is_to dest) (table rules log) (ordered _ (filtered (is_good rules.minq) (live rules.life log) (among rules.life log log a))))) e
