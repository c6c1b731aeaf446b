use Rattle.std.proofs.Common.{◌≡◌, flat_map}
use Rattle.std.specs.List.{range_with_len}
use Rattle.station_members.specs.Standing.{MembersStand}
use Rattle.station_members.specs.States.{State}
use Rattle.station_looks.specs.Naming as naming
use Rattle.station_looks.proofs.naming.way_named.Given as goal

abbrev pub invariant-loop-at : goal.invariant-loop-at
invariant-loop-at l =
    (s : State) → MembersStand l.members s → l.best ≡ naming.best_of (flat_map (naming.ways_named_at l.but l.word s) (range_with_len 0 l.at))
