use Rattle.std.proofs.Common.{◌≡◌, flat_map, map, take}
use Rattle.station_members.specs.Standing.{MembersStand}
use Rattle.station_members.specs.States.{State}
use Rattle.station_lists.specs.Lists as lists
use Rattle.station_looks.specs.Rows as rows
use Rattle.station_looks.proofs.users.user_rows.Given as goal

abbrev pub invariant-loop-session : goal.invariant-loop-session
invariant-loop-session l =
    (s : State) → MembersStand l.members s → map lists.user_line l.all.items
    ≡ map lists.user_line (flat_map (rows.user_by l.about s) (take l.session-index l.sessions))
