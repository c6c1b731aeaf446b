use Rattle.std.proofs.Common.{◌≡◌, ◌++◌, flat_map, map, take}
use Rattle.station_members.specs.Standing.{MembersStand}
use Rattle.station_members.specs.States.{State}
use Rattle.station_lists.specs.Lists as lists
use Rattle.station_looks.specs.Rows as rows
use Rattle.station_looks.proofs.neighbours.add_rows.Given as goal

abbrev pub invariant-loop-route : goal.invariant-loop-route
invariant-loop-route l =
    (s : State) → MembersStand l.members s → map lists.neighbour_line l.all.items
    ≡ map lists.neighbour_line l.fn.all.items ++ map lists.neighbour_line (flat_map (rows.neighbour_by l.about s l.at l.member) (take l.route-index l.routes))
