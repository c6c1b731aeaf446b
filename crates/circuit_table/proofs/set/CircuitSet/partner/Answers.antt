use Rattle.std.proofs.Common.{sym}
use Rattle.circuit_table.specs.CircuitSets.{Circuits}
use Rattle.circuit_table.proofs.Looking.{no_partner, some_partner}
use Rattle.circuit_table.proofs.set.CircuitSet.partner.Goals as goal

pub returns-in-Some : goal.returns-in-Some
returns-in-Some g c =
    let now : Circuits g.row.C.Denot = record { router = c.self.inside.router; held = c.self.inside.held; lost = c.self.inside.lost; spent = c.self.inside.spent } in
    rw (← c.self.view_is) (λ w st. some_partner now w st c.args.id c.in-Some.holder.now (sym c.in-Some.ensures.value))

pub returns-in-None : goal.returns-in-None
returns-in-None g c =
    let now : Circuits g.row.C.Denot = record { router = c.self.inside.router; held = c.self.inside.held; lost = c.self.inside.lost; spent = c.self.inside.spent } in
    rw (← c.self.view_is) (λ w st. no_partner now w st c.args.id (sym c.in-None.ensures.value))
