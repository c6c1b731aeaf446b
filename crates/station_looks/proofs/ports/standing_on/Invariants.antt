use Rattle.std.proofs.Common.{◌≡◌, length, map}
use Rattle.std.specs.List.{range_with_len}
use Rattle.station_members.specs.Standing.{MembersStand}
use Rattle.station_members.specs.States.{State}
use Rattle.station_looks.specs.Rows as rows
use Rattle.station_looks.proofs.ports.standing_on.Given as goal

abbrev pub invariant-loop-port : goal.invariant-loop-port
invariant-loop-port l =
    (length l.all.items ≡ l.port)
    × ((s : State) → MembersStand l.members s → map rows.items_of l.all.items ≡ map (λ port. rows.on_port port s) (range_with_len 0 l.port))
