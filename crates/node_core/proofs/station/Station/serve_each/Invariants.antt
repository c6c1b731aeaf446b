use Rattle.std.proofs.Common.{◌≡◌, ◌+◌, ℕ, length}
use Rattle.node_model.specs.Serving.{serve_all}
use Rattle.node_core.specs.Going.{HoldsTold, StandsTold}
use Rattle.node_model.specs.States.{State}
use Rattle.node_core.proofs.Serving.{IsLeft}
use Rattle.node_core.proofs.station.Station.serve_each.Given as goal

-- those from this place on are left, from the state that there is now
abbrev pub invariant-loop-nth : goal.invariant-loop-nth
invariant-loop-nth l = record {
  some : StandsTold l.self;
  stands : (n : State) → HoldsTold l.fn.self n
      → (m : State) × (k : ℕ) × HoldsTold l.self m × (l.nth + k ≡ length n.sessions) × IsLeft l.now.0 (serve_all l.now.0 n) l.nth k l.served m;
}
