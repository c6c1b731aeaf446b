use Rattle.std.proofs.Common.{◌≡◌, ◌-◌, length}
use Rattle.std.specs.List.{range_with_len}
use Rattle.station_members.specs.Standing.{MembersStand}
use Rattle.station_members.specs.States.{State}
use Rattle.std.specs.List.{find}
use Rattle.station_looks.specs.Naming as naming
use Rattle.station_looks.proofs.naming.member_named.Given as goal

abbrev pub invariant-loop-at : goal.invariant-loop-at
invariant-loop-at l =
    (s : State) → MembersStand l.members s → naming.member_named l.word s ≡ find (naming.is_member_named l.word s) (range_with_len l.at (length s.nodes - l.at))
