use Rattle.std.proofs.Common.{◌≡◌, ◌-◌, length}
use Rattle.std.specs.Prelude.{◌||◌}
use Rattle.station_members.specs.Standing.{PlaneStands}
use Rattle.station_members.specs.States.{State, each_from, send_all, send_waiting, sends_any, sends_from}
use Rattle.station_members.proofs.backplane.Backplane.send_all.Given as goal

abbrev pub invariant-loop-at : goal.invariant-loop-at
invariant-loop-at l = (s : State) → PlaneStands l.fn.self s
    → (v : State) × PlaneStands l.self v
    × ((each_from (send_waiting l.now) l.at (length s.nodes - l.at) v ≡ send_all l.now s)
    × (l.sent || sends_from l.now l.at (length s.nodes - l.at) v ≡ sends_any l.now s))
