use Rattle.std.proofs.Common.{◌≡◌, ◌≤◌, take}
use Rattle.std.specs.Prelude.{count_by}
use Rattle.station_members.specs.Standing.{MembersStand}
use Rattle.station_members.specs.States.{State}
use Rattle.station_looks.specs.Ended.{is_user}
use Rattle.station_looks.proofs.users.count_users.Given as goal

abbrev pub invariant-loop-session : goal.invariant-loop-session
invariant-loop-session l =
    record {
      counted : (s : State) → MembersStand l.members s → l.count ≡ count_by (is_user s) (take l.session-index l.sessions);
      within : l.count ≤ l.session-index;
    }
