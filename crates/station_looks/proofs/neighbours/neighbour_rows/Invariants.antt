use Rattle.std.proofs.Common.{◌≡◌, flat_map, map}
use Rattle.std.specs.List.{range_with_len}
use Rattle.station_members.specs.Standing.{MembersStand}
use Rattle.station_members.specs.States.{State}
use Rattle.station_lists.specs.Lists as lists
use Rattle.station_looks.specs.Rows as rows
use Rattle.station_looks.proofs.neighbours.neighbour_rows.Given as goal

abbrev pub invariant-loop-at : goal.invariant-loop-at
invariant-loop-at l =
    (s : State) → MembersStand l.members s → map lists.neighbour_line l.all.items
    ≡ flat_map (λ at. map lists.neighbour_line (rows.by_member (rows.neighbour_rows_at l.about s) s at)) (range_with_len 0 l.at)
