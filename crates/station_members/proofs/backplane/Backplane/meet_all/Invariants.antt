use Rattle.std.proofs.Common.{◌≡◌, ◌-◌}
use Rattle.station_members.specs.Standing.{PlaneStands}
use Rattle.station_members.specs.States.{State, each_from, meet_all, meet_both}
use Rattle.station_members.proofs.backplane.Backplane.meet_all.Given as goal

abbrev pub invariant-loop-at : goal.invariant-loop-at
invariant-loop-at l = (s : State) → PlaneStands l.fn.self s
    → (v : State) × PlaneStands l.self v × (each_from (meet_both l.last) l.at (l.last - l.at) v ≡ meet_all l.last s)
