use Rattle.std.proofs.Common.{◌≡◌}
use Rattle.link_table.specs.Kept.{kept_payloads}
use Rattle.node_model.specs.Serving.{drop_texts}
use Rattle.node_core.specs.Going.{StandsForSome}
use Rattle.node_core.specs.Standing.{Holds, IsDrained}
use Rattle.node_model.specs.States.{State}
use Rattle.node_core.proofs.station.Station.drop_texts.Given as goal

-- it stands for a node of which dropping the texts comes to the same
abbrev pub invariant-loop : goal.invariant-loop
invariant-loop l = record {
  some : StandsForSome l.self;
  stands : (n : State) → Holds l.fn.self n → (m : State) × Holds l.self m × (drop_texts l.now.0 n ≡ drop_texts l.now.0 m);
  drained : IsDrained l.fn.self → IsDrained l.self;
}

abbrev pub decreases-loop : goal.decreases-loop
decreases-loop l = kept_payloads l.self.set.router.carrier
