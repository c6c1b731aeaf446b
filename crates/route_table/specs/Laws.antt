-- Laws of the definitions of a log's table.
use Rattle.std.specs.Prelude.{◌≡◌, ◌↔◌, List, filter, slice_get, Some, true, false, AllPairs, Contains, Any, IsPermutation}
use Rattle.ax_address.specs.Callsign.{Callsign, call_lt}
use Rattle.ax_address.specs.declared.entry.Entry.{Entry}
use Rattle.route_table.specs.declared.route.RouteRules.{RouteRules}
use Rattle.route_table.specs.declared.route.Route.{Route}
use Rattle.route_table.specs.Log.{Item}
use Rattle.route_table.specs.Table.{is_before, AreInOrder, Rise, usable, table, is_to, all_routes_to, routes_to, destinations, is_fresh, to_broadcast}
use Rattle.route_table.specs.Rows.{is_same_pair}

-- no two usable routes lead to one destination by one neighbour
abbrev pub NoPairTwice : Type 0
NoPairTwice = (rules : RouteRules) (log : List Item) → AllPairs (λ a b. is_same_pair a b ≡ false) (usable rules log)

-- each route of a table stands before those behind it
abbrev pub TableIsInOrder : Type 0
TableIsInOrder = (rules : RouteRules) (log : List Item) → AreInOrder (table rules log)

-- a table has the usable routes, in another order
abbrev pub TableIsRearranged : Type 0
TableIsRearranged = (rules : RouteRules) (log : List Item) → IsPermutation (usable rules log) (table rules log)

-- each route to a destination comes before those behind it
abbrev pub AreRanked : Type 0
AreRanked =
    (rules : RouteRules) (log : List Item) (dest : Callsign) → AllPairs (λ a b. is_before a b ≡ true) (all_routes_to rules log dest)

-- the routes to a destination are its usable routes in another order
abbrev pub AreRearranged : Type 0
AreRearranged =
    (rules : RouteRules) (log : List Item) (dest : Callsign) → IsPermutation (filter (is_to dest) (usable rules log)) (all_routes_to rules log dest)

-- each destination is below those behind it, so none stands twice
abbrev pub DestinationsRise : Type 0
DestinationsRise = (rules : RouteRules) (log : List Item) → Rise (destinations rules log)

-- a call is among the destinations exactly where a usable route leads to it
abbrev pub DestinationsAreExact : Type 0
DestinationsAreExact =
    (rules : RouteRules) (log : List Item) (call : Callsign) → Contains (destinations rules log) call ↔ Any (λ (r : Route). r.dest ≡ call) (usable rules log)

-- the destinations that are broadcast rise in call order, so none stands twice
abbrev pub BroadcastRises : Type 0
BroadcastRises = (rules : RouteRules) (log : List Item) → AllPairs (λ (a b : Entry). call_lt a.dest b.dest ≡ true) (to_broadcast rules log)

-- the entry says what the first route to its destination is, and that route is locked or has enough rounds left
pub record TellsFirstRoute (rules : RouteRules) (log : List Item) (e : Entry) : Type 0 where
  pub route : Route
  pub first : slice_get (routes_to rules log e.dest) 0 ≡ Some route
  pub fresh : is_fresh rules.least route.count ≡ true
  pub alias : e.alias ≡ route.alias
  pub best : e.best ≡ route.neighbour
  pub quality : e.quality ≡ route.quality

-- an entry is broadcast exactly where it tells of such a route
abbrev pub BroadcastIsExact : Type 0
BroadcastIsExact = (rules : RouteRules) (log : List Item) (e : Entry) → Contains (to_broadcast rules log) e ↔ TellsFirstRoute rules log e
