use Rattle.std.proofs.Common.{◌≡◌, ◌++◌, drop, length, map}
use Rattle.std.specs.List.{range_with_len}
use Rattle.station_members.specs.Standing.{MembersStand}
use Rattle.station_members.specs.States.{State}
use Rattle.station_lists.specs.Lists as lists
use Rattle.station_looks.specs.Rows as rows
use Rattle.station_looks.proofs.ports.port_rows.Given as goal

abbrev pub invariant-loop-at : goal.invariant-loop-at
invariant-loop-at l =
    (s : State) → MembersStand l.members s → map rows.items_of l.standing ≡ map (λ port. rows.on_port port s) (range_with_len 0 (length l.names))
    → map lists.port_line l.all.items ++ map lists.port_line (rows.port_rows_from s l.at (drop l.at l.names))
    ≡ map lists.port_line (rows.port_rows_from s 0 l.names)
