use Rattle.circuit_table.specs.CircuitSets.{Circuits}
use Rattle.circuit_table.proofs.Looking.{ticks_goes}
use Rattle.circuit_table.specs.Pumps.{after_ticks}
use Rattle.circuit_table.proofs.Kept.{held_keeps}
use Rattle.circuit_table.proofs.set.CircuitSet.tick.Goals as goal

pub returns-clause-goes : goal.returns-clause-goes
returns-clause-goes g c =
    let old : Circuits g.row.C.Denot = record { router = c.self.inside.router; held = c.self.inside.held; lost = c.self.inside.lost; spent = c.self.inside.spent } in
    rw (← c.self.view_is) (ticks_goes old c.tick.new.self c.args.now.0 c.tick.ensures.goes)

pub returns-clause-kept : goal.returns-clause-kept
returns-clause-kept g c =
    let old : Circuits g.row.C.Denot = record { router = c.self.inside.router; held = c.self.inside.held; lost = c.self.inside.lost; spent = c.self.inside.spent } in
    rw (← c.self.view_is) (held_keeps old c.tick.new.self (after_ticks c.args.now.0) c.tick.ensures.goes)
