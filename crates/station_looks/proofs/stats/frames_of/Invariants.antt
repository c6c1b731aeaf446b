use Rattle.std.proofs.Common.{◌≡◌, map}
use Rattle.std.specs.List.{range_with_len}
use Rattle.station_members.specs.Standing.{MembersStand}
use Rattle.station_members.specs.States.{State}
use Rattle.station_members.specs.Looks.{came_at, went_at}
use Rattle.station_looks.specs.Rows as rows
use Rattle.station_looks.proofs.stats.frames_of.Given as goal

abbrev pub invariant-loop-port : goal.invariant-loop-port
invariant-loop-port l =
    (s : State) → MembersStand l.members s → (l.came ≡ rows.total (map (λ port. came_at port s) (range_with_len 0 l.port)))
    × (l.went ≡ rows.total (map (λ port. went_at port s) (range_with_len 0 l.port)))
