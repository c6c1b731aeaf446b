use Rattle.circuit_table.specs.CircuitSets.{Circuits}
use Rattle.circuit_table.specs.Sets as sets
use Rattle.circuit_table.proofs.Kept.{held_keeps}
use Rattle.circuit_table.proofs.set.CircuitSet.close.Goals as goal

pub returns-clause-kept : goal.returns-clause-kept
returns-clause-kept g c =
    let old : Circuits g.row.C.Denot = record { router = c.self.inside.router; held = c.self.inside.held; lost = c.self.inside.lost; spent = c.self.inside.spent } in
    rw (← c.self.view_is) (held_keeps old c.close.new.self (λ s. sets.set_step s (sets.Calls c.args.id sets.Closes c.args.now.0)) c.close.ensures.goes)
