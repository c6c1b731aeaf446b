use Rattle.std.proofs.Common.{◌≡◌, length}
use Rattle.node_model.specs.Serving.{enter_notices}
use Rattle.node_core.specs.Standing.{Holds}
use Rattle.node_model.specs.States.{State}
use Rattle.node_core.proofs.station.Station.enter_each.Given as goal

-- it stands for a node of which entering the notices comes to the same
abbrev pub invariant-loop-told : goal.invariant-loop-told
invariant-loop-told l = (n : State) → Holds l.fn.self n → (m : State) × Holds l.self m × (enter_notices n ≡ enter_notices m)

abbrev pub decreases-loop-told : goal.decreases-loop-told
decreases-loop-told l = length l.self.set.router.carrier.notices
