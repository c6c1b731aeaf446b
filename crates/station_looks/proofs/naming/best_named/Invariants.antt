use Rattle.std.proofs.Common.{◌≡◌, flat_map, take}
use Rattle.station_members.specs.Standing.{MembersStand}
use Rattle.station_members.specs.States.{State}
use Rattle.station_looks.specs.Naming as naming
use Rattle.station_looks.proofs.naming.best_named.Given as goal

abbrev pub invariant-loop-dest : goal.invariant-loop-dest
invariant-loop-dest l =
    (s : State) → MembersStand l.members s → l.best ≡ naming.best_of (flat_map (naming.ways_named_to l.word s l.at) (take l.dest-index l.dests))
