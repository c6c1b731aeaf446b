use Rattle.std.proofs.Common.{◌≡◌, ◌∙◌, ap, false, is_some, sym}
use Rattle.circuit_table.specs.CircuitSets.{Circuits}
use Rattle.circuit_table.proofs.GoingOn.{tells_lost}
use Rattle.circuit_table.proofs.set.CircuitSet.tell_lost.Goals as goal
use Rattle.circuit_table.proofs.set.CircuitSet.tell_lost.Goals.{in-Some, in_default}

pub returns-clause-pumps : goal.returns-clause-pumps
returns-clause-pumps g c = λ now.
    let old : Circuits g.row.C.Denot = record { router = c.self.inside.router; held = c.self.inside.held; lost = c.self.inside.lost; spent = c.self.inside.spent } in
    let carrier = c.self.inside.router.carrier in
    let some = rw (← c.self.view_is) at c.requires in
    elim c.match-take.branch [
      | in-Some w ↦ rw (← c.self.view_is, w.told-is)
          (tells_lost g.C.Carrier.made g.met.C.Carrier.none_made old (g.C.Carrier.lost carrier) (g.C.Carrier.waiting carrier) now w.in-Some.routed c.take.new.self (sym w.in-Some.ensures.value) w.in-Some.ensures.after)
      | in_default w ↦ (let none : is_some c.self.inside.lost ≡ false = ap is_some (sym w.in_default.ensures.value) in absurd (cc (sym some ∙ none)))
    ]
