use Rattle.std.proofs.Common.{◌≡◌}
use Rattle.node_model.specs.Pumping.{pending}
use Rattle.node_core.specs.Inputs.{after_input}
use Rattle.node_core.specs.Standing.{Holds}
use Rattle.node_model.specs.States.{State}
use Rattle.node_core.proofs.Weighing.{weight}
use Rattle.node_core.proofs.station.Station.settle.Given as goal

-- it stands for a node that settles to the same, and nothing of its circuits is untold
abbrev pub invariant-loop : goal.invariant-loop
invariant-loop l = record {
  some : (n : State) × Holds l.self n × (pending n ≡ 0);
  stands : (n : State) → Holds l.fn.self n → (m : State) × Holds l.self m × (after_input l.now.0 n ≡ after_input l.now.0 m);
}

abbrev pub decreases-loop : goal.decreases-loop
decreases-loop l = weight l.self
