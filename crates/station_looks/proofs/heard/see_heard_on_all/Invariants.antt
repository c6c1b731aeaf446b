use Rattle.std.proofs.Common.{◌≡◌, ◌++◌, drop}
use Rattle.station_members.specs.Standing.{MembersStand}
use Rattle.station_members.specs.States.{State}
use Rattle.station_looks.specs.Replies as replies
use Rattle.station_looks.proofs.heard.see_heard_on_all.Given as goal

abbrev pub invariant-loop-at : goal.invariant-loop-at
invariant-loop-at l =
    (s : State) → MembersStand l.members s → l.text ++ replies.heard_from s l.now.0 l.at (drop l.at l.names) ≡ l.fn.text ++ replies.heard_from s l.now.0 0 l.names
