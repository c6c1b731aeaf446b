-- Rows in order, by recursion, and places in them. No public clause cites it: not for the reader of a contract.
use Rattle.std.specs.Prelude.{ℕ, ◌+◌, ◌-◌, ◌<◌, ◌≤◌, List, [], ◌∷◌, length, slice_index_or, ◌≡◌, true, false, not, Option, Some, None, is_none}
use Rattle.std.specs.List.{AllByRecursion, list_any, prefix_len}
use Rattle.ax_address.specs.Callsign.{Callsign, call_lt}
use Rattle.route_table.specs.declared.route.Route.{Route}
use Rattle.route_table.specs.Table.{stands_before}
use Rattle.route_table.specs.Rows.{is_same_pair}

-- each row stands before those behind it
abbrev pub InRows : List Route → Type 0
InRows [] = Unit {0}
InRows (r ∷ rs) = AllByRecursion (λ s. stands_before r s ≡ true) rs × InRows rs

-- no two rows are of one pair
abbrev pub NoneTwice : List Route → Type 0
NoneTwice [] = Unit {0}
NoneTwice (r ∷ rs) = AllByRecursion (λ s. is_same_pair r s ≡ false) rs × NoneTwice rs

-- how the rows of a table stand
pub record Stand (rows : List Route) : Type 0 where
  pub order : InRows rows
  pub once : NoneTwice rows

-- none of the routes is a lock
abbrev pub AreCounted : List Route → Type 0
AreCounted routes = AllByRecursion (λ (r : Route). is_none r.count ≡ false) routes

-- no row is of the route's pair
abbrev pub IsNew : List Route → Route → Type 0
IsNew rows r = AllByRecursion (λ s. is_same_pair r s ≡ false) rows

-- routes in order wait for their places among rows: no row is of the pair of one, and none is a lock
pub record AreWaiting (routes rows : List Route) : Type 0 where
  pub stand : Stand rows
  pub waiting : Stand routes
  pub new : AllByRecursion (IsNew rows) routes
  pub counted : AreCounted routes

-- how many rows lead to lower destinations
abbrev pub start_of : Callsign → List Route → ℕ
start_of dest rows = prefix_len (λ r. call_lt r.dest dest) rows

-- how many rows don't have the route before them
abbrev pub place_among : Route → List Route → ℕ
place_among r rows = prefix_len (λ x. not (stands_before r x)) rows

-- where a row of the route's pair is
abbrev pub PairAt : Route → List Route → Option ℕ → Type 0
PairAt r rows None = list_any (is_same_pair r) rows ≡ false
PairAt r rows (Some at) = (at < length rows) × ((d : Route) → is_same_pair r (slice_index_or rows at d) ≡ true)

-- the route stands between the rows before and behind the one at that place
pub record FitsAt (r : Route) (rows : List Route) (at : ℕ) : Type 0 where
  pub after : (d : Route) → 0 < at → stands_before (slice_index_or rows (at - 1) d) r ≡ true
  pub before : (d : Route) → at + 1 < length rows → stands_before r (slice_index_or rows (at + 1) d) ≡ true

-- what is said of how many rows there are: nothing where a table holds so many, and else the number
abbrev pub IsSurplus : ℕ → Option ℕ → Type 0
IsSurplus rows None = rows ≤ 16384
IsSurplus rows (Some count) = (count ≡ rows) × (16384 < rows)
