use Rattle.std.proofs.Common.{◌≡◌, drop}
use Rattle.station_members.specs.Standing.{PlaneStands}
use Rattle.station_members.specs.States.{State, send_each}
use Rattle.station_members.proofs.backplane.Backplane.send_each.Given as goal

abbrev pub invariant-loop-frame : goal.invariant-loop-frame
invariant-loop-frame l = (s : State) → PlaneStands l.fn.self s
    → (v : State) × PlaneStands l.self v × (send_each l.now l.from (drop l.frame-index l.frames) v ≡ send_each l.now l.from l.frames s)
