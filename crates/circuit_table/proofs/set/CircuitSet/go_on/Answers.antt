use Rattle.std.proofs.Common.{◌∙◌, subst, sym}
use Rattle.circuit_table.specs.CircuitSets.{Circuits}
use Rattle.circuit_table.specs.Standing.{FirstLoud}
use Rattle.circuit_table.proofs.GoingOn.{asks_quiet, is_none_by}
use Rattle.circuit_table.proofs.set.CircuitSet.go_on.Goals as goal

pub returns-in-None-clause-pumps : goal.returns-in-None-clause-pumps
returns-in-None-clause-pumps g c =
    let old : Circuits g.row.C.Denot = record { router = c.self.inside.router; held = c.self.inside.held; lost = c.self.inside.lost; spent = c.self.inside.spent } in
    let carrier = c.self.inside.router.carrier in
    let none = is_none_by c.self.inside.lost (sym c.if-is_some.false ∙ c.is_some.ensures) in
    let first = subst (λ r. FirstLoud r c.self.inside.held.ends.entries) c.in-None.is c.first_loud.ensures.first in
    let asks = rw (← c.self.view_is) at c.ask_router.ensures.asks in
    rw (← c.self.view_is)
    (asks_quiet g.C.Carrier.made g.met.C.Carrier.none_made old (g.C.Carrier.lost carrier) (g.C.Carrier.waiting carrier) c.args.now.0 c.ask_router.new.self c.ask_router.new.told c.ask_router.result none first asks)
