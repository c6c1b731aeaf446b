use Rattle.circuit_table.specs.CircuitSets.{Circuits}
use Rattle.circuit_table.proofs.Looking.{unchanged_on}
use Rattle.circuit_table.specs.Sets as sets
use Rattle.circuit_table.proofs.Kept.{held_keeps_ok}
use Rattle.circuit_table.proofs.set.CircuitSet.write.Goals as goal

pub returns-clause-err : goal.returns-clause-err
returns-clause-err g c =
    let old : Circuits g.row.C.Denot = record { router = c.self.inside.router; held = c.self.inside.held; lost = c.self.inside.lost; spent = c.self.inside.spent } in
    rw (← c.self.view_is) (unchanged_on old c.write.new.self c.write.result c.write.ensures.same c.write.ensures.err)

pub returns-clause-kept : goal.returns-clause-kept
returns-clause-kept g c =
    let old : Circuits g.row.C.Denot = record { router = c.self.inside.router; held = c.self.inside.held; lost = c.self.inside.lost; spent = c.self.inside.spent } in
    rw (← c.self.view_is) (held_keeps_ok old c.write.new.self (λ s. sets.set_step s (sets.Calls c.args.id (sets.Writes c.args.message.now) c.args.now.0)) c.write.result c.write.ensures.goes)
