use Rattle.std.proofs.Common.{◌≡◌, length}
use Rattle.link_table.specs.declared.written.Written.{Written}
use Rattle.node_core.specs.Standing.{Holds}
use Rattle.node_model.specs.States.{State, put}
use Rattle.node_core.proofs.station.Station.put.Given as goal

-- it stands for a node from which putting a frame out comes to the same
abbrev pub invariant-loop-earlier : goal.invariant-loop-earlier
invariant-loop-earlier l = (n : State) → Holds l.fn.self n → (m : State) × Holds l.self m × ((f : Written) → put f n ≡ put f m)

abbrev pub decreases-loop-earlier : goal.decreases-loop-earlier
decreases-loop-earlier l = length l.self.set.router.carrier.frames
