use Rattle.std.proofs.Common.{◌≡◌, ◌++◌, flat_map, take}
use Rattle.station_members.specs.Standing.{MembersStand}
use Rattle.station_members.specs.States.{State}
use Rattle.station_looks.specs.Rows as rows
use Rattle.station_looks.proofs.known.add_known.Given as goal

abbrev pub invariant-loop-dest : goal.invariant-loop-dest
invariant-loop-dest l =
    (s : State) → MembersStand l.members s → l.all.items ≡ l.fn.all.items ++ flat_map (rows.known_to s l.at) (take l.dest-index l.dests)
