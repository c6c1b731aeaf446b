use Rattle.std.proofs.Common.{◌≡◌}
use Rattle.circuit_table.specs.CircuitSets.{untold_by}
use Rattle.node_model.specs.Pumping.{pump}
use Rattle.node_core.specs.Standing.{Holds}
use Rattle.node_model.specs.States.{State}
use Rattle.node_core.proofs.station.Station.pump_on.Given as goal

-- it stands for a node that is pumped to the same
abbrev pub invariant-loop-now : goal.invariant-loop-now
invariant-loop-now l = (n : State) → Holds l.fn.self n → (m : State) × Holds l.self m × (pump l.now.0 n ≡ pump l.now.0 m)

abbrev pub decreases-loop-now : goal.decreases-loop-now
decreases-loop-now l = untold_by l.self.set.router.carrier.lost l.self.set.router.carrier.waiting l.self.set
