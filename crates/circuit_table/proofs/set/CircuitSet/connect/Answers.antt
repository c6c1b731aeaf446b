use Rattle.std.proofs.Common.{ap}
use Rattle.circuit_table.specs.CircuitSets.{Circuits}
use Rattle.circuit_table.proofs.Connecting.{own_user}
use Rattle.circuit_table.proofs.set.CircuitSet.connect.Goals as goal

pub returns-clause-goes : goal.returns-clause-goes
returns-clause-goes g c =
    own_user c.connect_for.result c.args.self.now c.connect_for.new.self c.self.inside.held.user c.args.node.now c.args.now.0
    (ap (λ (x : Circuits g.row.C.Denot). x.held.user) c.self.view_is) c.connect_for.ensures.goes
