use Rattle.std.proofs.Common.{◌≡◌, ◌-◌, flat_map, length}
use Rattle.std.specs.List.{range_with_len}
use Rattle.station_members.specs.Standing.{MembersStand}
use Rattle.station_members.specs.States.{State}
use Rattle.std.specs.Prelude.{None, slice_get}
use Rattle.station_looks.specs.Naming as naming
use Rattle.station_looks.proofs.ways.first_way.Given as goal

abbrev pub invariant-loop-at : goal.invariant-loop-at
invariant-loop-at l =
    (s : State) → MembersStand l.members s → slice_get (naming.ways_to None l.dest s) 0
    ≡ slice_get (flat_map (naming.ways_at None l.dest s) (range_with_len l.at (length s.nodes - l.at))) 0
