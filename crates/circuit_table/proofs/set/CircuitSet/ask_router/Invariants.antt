use Rattle.std.specs.Prelude.{◌≡◌, None}
use Rattle.circuit_table.specs.CircuitSets.{untold_by}
use Rattle.circuit_table.specs.SetTurns.{SoFar}
use Rattle.circuit_table.proofs.set.CircuitSet.ask_router.Given as goal

-- nothing was told so far
abbrev pub invariant-loop-told : goal.invariant-loop-told
invariant-loop-told g l = SoFar g.C.Carrier.made g.C.Carrier.lost g.C.Carrier.waiting l.fn.self l.self l.now.0 × (l.told ≡ None)

abbrev pub decreases-loop-told : goal.decreases-loop-told
decreases-loop-told g l = untold_by (g.C.Carrier.lost l.self.router.carrier) (g.C.Carrier.waiting l.self.router.carrier) l.self
