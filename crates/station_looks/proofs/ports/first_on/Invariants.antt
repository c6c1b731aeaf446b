use Rattle.std.proofs.Common.{◌≡◌, ◌-◌, length}
use Rattle.std.specs.List.{range_with_len}
use Rattle.station_members.specs.Standing.{MembersStand}
use Rattle.station_members.specs.States.{State}
use Rattle.std.specs.List.{find}
use Rattle.station_looks.specs.Ports as ports
use Rattle.station_looks.proofs.ports.first_on.Given as goal

abbrev pub invariant-loop-at : goal.invariant-loop-at
invariant-loop-at l =
    (s : State) → MembersStand l.members s → ports.first_on l.port s ≡ find (ports.is_on l.port s) (range_with_len l.at (length s.nodes - l.at))
