use Rattle.std.proofs.Common.{◌∙◌, sym}
use Rattle.circuit_table.specs.CircuitSets.{Circuits}
use Rattle.circuit_table.proofs.GoingOn.{is_none_by, tells_nothing}
use Rattle.circuit_table.proofs.set.CircuitSet.is_idle.Goals as goal

pub returns-clause-pumps : goal.returns-clause-pumps
returns-clause-pumps g c = λ quiet now.
    let old : Circuits g.row.C.Denot = record { router = c.self.inside.router; held = c.self.inside.held; lost = c.self.inside.lost; spent = c.self.inside.spent } in
    let carrier = c.self.inside.router.carrier in
    let idle = c.is_idle.ensures.0 c.if-not-is_idle.false in
    rw (← c.self.view_is)
    (tells_nothing g.C.Carrier.made g.met.C.Carrier.none_made old (g.C.Carrier.lost carrier) (g.C.Carrier.waiting carrier) now idle.0 idle.1
    (is_none_by c.self.inside.lost (sym c.if-is_some.false ∙ c.is_some.ensures)) (λ s ts h. sym (c.is_quiet.ensures.exact s ts h) ∙ quiet))
