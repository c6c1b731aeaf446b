use Rattle.std.proofs.Common.{◌∙◌, ap, ℕ, Option}
use Rattle.std.specs.Option.{option_map}
use Rattle.circuit_table.specs.declared.holder.Holder.{Holder}
use Rattle.circuit_table.specs.CircuitSets.{Circuits}
use Rattle.circuit_table.proofs.Looking.{nth_held}
use Rattle.circuit_table.proofs.set.CircuitSet.held.Goals as goal

pub returns-in-Some : goal.returns-in-Some
returns-in-Some g c =
    let now : Circuits g.row.C.Denot = record { router = c.self.inside.router; held = c.self.inside.held; lost = c.self.inside.lost; spent = c.self.inside.spent } in
    let e = c.in-Some.ensures.entry in
    rw (← c.self.view_is) (λ w st. ap (λ (o : Option (ℕ × Holder)). option_map (λ (x : ℕ × Holder). x.0) o) e ∙ nth_held now w st c.args.nth)

pub returns-in-None : goal.returns-in-None
returns-in-None g c =
    let now : Circuits g.row.C.Denot = record { router = c.self.inside.router; held = c.self.inside.held; lost = c.self.inside.lost; spent = c.self.inside.spent } in
    let e = c.in-None.ensures.entry in
    rw (← c.self.view_is) (λ w st. ap (λ (o : Option (ℕ × Holder)). option_map (λ (x : ℕ × Holder). x.0) o) e ∙ nth_held now w st c.args.nth)
