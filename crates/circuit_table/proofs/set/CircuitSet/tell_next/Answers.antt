use Rattle.circuit_table.specs.CircuitSets.{Circuits}
use Rattle.circuit_table.proofs.GoingOn.{tells_on}
use Rattle.circuit_table.proofs.set.CircuitSet.tell_next.Goals as goal

pub returns-clause-pumps : goal.returns-clause-pumps
returns-clause-pumps g c =
    let old : Circuits g.row.C.Denot = record { router = c.self.inside.router; held = c.self.inside.held; lost = c.self.inside.lost; spent = c.self.inside.spent } in
    let carrier = c.self.inside.router.carrier in
    let none = rw (← c.self.view_is) at c.requires.lost in
    rw (← c.self.view_is)
    (tells_on g.C.Carrier.made g.met.C.Carrier.none_made old (g.C.Carrier.lost carrier) (g.C.Carrier.waiting carrier) c.args.now.0 c.tell.new.self c.next_from.new.self c.in-Some.untold c.next_from.new.untold c.tell.new.told c.tell.result
    none c.in-Some.is c.next_from.ensures.gives c.tell.ensures.tells)
