-- What a table's rows come to by each kind of item; `usable` of the log says the same afresh. A law cites `is_same_pair`; no public
-- clause cites the rest.
use Rattle.std.specs.Prelude.{ℕ, ◌+◌, ◌-◌, List, [], ◌∷◌, ◌++◌, filter, map, take, drop, slice_get, Option, Some, None, Bool, true, false, ◌&&◌, ◌||◌, ◌==◌, not, is_none, if◌then◌else◌}
use Rattle.std.specs.List.{list_any, dedup, prefix_len}
use Rattle.ax_address.specs.Callsign.{Callsign, same_call}
use Rattle.ax_address.specs.declared.entry.Entry.{Entry}
use Rattle.route_table.specs.declared.route.Route.{Route}
use Rattle.route_table.specs.declared.sender.Sender.{Sender}
use Rattle.route_table.specs.Log.{Item, Report, broadcast, entry_reports, quality_over}
use Rattle.route_table.specs.Table.{is_good, is_to, placed, entry_by}

-- both routes lead to one destination by one neighbour
abbrev pub is_same_pair : Route → Route → Bool
is_same_pair a b = same_call a.dest b.dest && same_call a.neighbour b.neighbour

-- the routes of the reports among the items, with a whole life before them
abbrev pub fresh : ℕ → List Item → List Route
fresh life [] = []
fresh life (Report d a n q ∷ items) =
    record { dest = d; alias = a; neighbour = n; quality = q; count = Some life } ∷ fresh life items
fresh life (_ ∷ items) = fresh life items

-- the route that a broadcast reports to its sender
abbrev pub route_to : Sender → Route
route_to s = record { dest = s.neighbour; alias = s.alias; neighbour = s.neighbour; quality = s.path_quality; count = Some s.life }

-- the route that an entry of it reports
abbrev pub route_over : Sender → Entry → Route
route_over s e = record { dest = e.dest; alias = e.alias; neighbour = s.neighbour; quality = quality_over s.own s.path_quality e; count = Some s.life }

-- the routes that the entries of a broadcast report
abbrev pub reported_by : Sender → List Entry → List Route
reported_by s entries = fresh s.life (entry_reports s.own s.neighbour s.path_quality entries)

-- the routes that a broadcast reports
abbrev pub reported : Sender → List Entry → List Route
reported s entries = fresh s.life (broadcast s.own s.neighbour s.alias s.path_quality entries)

-- a row stays beside these reports: it is locked, or none of them is of its pair
abbrev pub stays : List Route → Route → Bool
stays reports row = is_none row.count || not (list_any (is_same_pair row) reports)

-- the row is a lock of the route's pair
abbrev pub is_lock_on : Route → Route → Bool
is_lock_on r row = is_none row.count && is_same_pair r row

-- a report becomes a row: it is good enough, the last of its pair, and no row is a lock of that pair
abbrev pub is_new : ℕ → List Route → Route → List Route → Bool
is_new minq rows r later = (is_good minq r && not (list_any (is_same_pair r) later)) && not (list_any (is_lock_on r) rows)

-- the reports that become rows
abbrev pub new_rows : ℕ → List Route → List Route → List Route
new_rows minq rows [] = []
new_rows minq rows (r ∷ later) = if is_new minq rows r later then r ∷ new_rows minq rows later else new_rows minq rows later

-- the rows after a broadcast
abbrev pub rows_with : ℕ → List Route → List Route → List Route
rows_with minq reports rows = filter (stays reports) rows ++ new_rows minq rows reports

-- a row stays beside a lock: it is of another pair
abbrev pub stays_beside : Route → Route → Bool
stays_beside lock row = not (is_same_pair row lock)

-- the rows after a lock
abbrev pub rows_with_lock : Route → List Route → List Route
rows_with_lock lock rows = filter (stays_beside lock) rows ++ lock ∷ []

-- the rows without those of the route's pair
abbrev pub beside : Route → List Route → List Route
beside r rows = filter (stays_beside r) rows

-- rows in order after one report: a lock of its pair stays as it is, and else the report stands at its place, if it is good enough
abbrev pub with_report : ℕ → Route → List Route → List Route
with_report minq r rows =
    if list_any (is_lock_on r) rows then rows
    else (if is_good minq r then placed r (beside r rows) else beside r rows)

-- rows in order after one report after another
abbrev pub after_reports : ℕ → List Route → List Route → List Route
after_reports minq [] rows = rows
after_reports minq (r ∷ rs) rows = after_reports minq rs (with_report minq r rows)

-- whether a row of the route's pair is there after these reports, where no lock of it is: as the last of them of its pair has it
abbrev pub is_held_after : ℕ → Route → List Route → Bool → Bool
is_held_after minq r [] held = held
is_held_after minq r (s ∷ rs) held = is_held_after minq r rs (if is_same_pair r s then is_good minq s else held)

-- a count, one round later
abbrev pub count_down : Option ℕ → Option ℕ
count_down None = None
count_down (Some n) = Some (n - 1)

-- a row, one round later
abbrev pub older : Route → Route
older r = record { dest = r.dest; alias = r.alias; neighbour = r.neighbour; quality = r.quality; count = count_down r.count }

-- the row is locked, or its count has not run out
abbrev pub still_counts : Option ℕ → Bool
still_counts None = true
still_counts (Some n) = not (n == 0)

-- the rows after a round
abbrev pub after_round : List Route → List Route
after_round rows = filter (λ r. still_counts r.count) (map older rows)

-- a row outlives the failure of the link to a neighbour
abbrev pub outlives : Callsign → Route → Bool
outlives neighbour row = is_none row.count || not (same_call row.neighbour neighbour)

-- the destinations of rows in order, each once
abbrev pub calls_of : List Route → List Callsign
calls_of rows = dedup same_call (map (λ r. r.dest) rows)

-- the best routes of rows in order to a destination
abbrev pub best_of : List Route → Callsign → List Route
best_of rows dest = take 3 (filter (is_to dest) rows)

-- the rows behind those that lead where the first one does
abbrev pub behind : List Route → List Route
behind [] = []
behind (r ∷ rs) = drop (prefix_len (is_to r.dest) rs) rs

-- the best routes of rows in order to the destination of the first one
abbrev pub best_of_first : List Route → List Route
best_of_first [] = []
best_of_first (r ∷ rs) = take 3 (r ∷ take (prefix_len (is_to r.dest) rs) rs)

-- what is said of a destination that has these rows among others
abbrev pub entry_from : ℕ → List Route → Callsign → Option Entry
entry_from least rows dest = entry_by least dest (slice_get (best_of rows dest) 0)

-- so many rows, where one of a pair was there or not and now is there or not
abbrev pub changed : ℕ → Bool → Bool → ℕ
changed n true true = n
changed n true false = n - 1
changed n false true = n + 1
changed n false false = n
