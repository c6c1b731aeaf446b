use Rattle.std.proofs.Common.{subst}
use Rattle.circuit_table.specs.CircuitSets.{SetStands}
use Rattle.circuit_table.specs.Pumps.{Waiting}
use Rattle.node_core.proofs.node.Node.circuits.Goals as goal

pub returns-clause-stands : goal.returns-clause-stands
returns-clause-stands c =
    rw (← c.self.view_is) (λ n t. subst (λ (w : Waiting). SetStands c.self.inside.station.set w) t.told t.station.parts.set)
