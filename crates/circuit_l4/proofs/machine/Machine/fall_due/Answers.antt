use Rattle.std.proofs.Common.{inl, inr, sym, subst}
use Rattle.circuit_l4.specs.declared.phase.EndPhase.{EndPhase}
use Rattle.circuit_l4.specs.Table.{due_in}
use Rattle.circuit_l4.specs.Standing.{EndView, KeepsEffect, effect_of, view_of}
use Rattle.circuit_l4.specs.Table.{fall_due}
use Rattle.circuit_l4.proofs.Standings.{itself, standing}
use Rattle.circuit_l4.proofs.machine.Machine.fall_due.Goals as goal

pub returns-in-Connecting-clause-does : goal.returns-in-Connecting-clause-does
returns-in-Connecting-clause-does c =
    let k : EndView = view_of c.args.self.now in
    standing k _ (fall_due c.args.now) (λ s r a b.
    let expires = c.expire.ensures.does _ (itself k s r a b) in
    elim c.in-Connecting.is [
      | inl e ↦ subst (λ (p : EndPhase). KeepsEffect (view_of c.expire.new.self) (due_in p c.args.now (effect_of k s r))) (sym e) expires
      | inr e ↦ subst (λ (p : EndPhase). KeepsEffect (view_of c.expire.new.self) (due_in p c.args.now (effect_of k s r))) (sym e) expires
    ])

pub returns-in-Up-clause-does : goal.returns-in-Up-clause-does
returns-in-Up-clause-does c =
    let k : EndView = view_of c.args.self.now in
    standing k _ (fall_due c.args.now) (λ s r a b.
    subst (λ (p : EndPhase). KeepsEffect (view_of c.fall_due_up.new.self) (due_in p c.args.now (effect_of k s r))) (sym c.in-Up.is)
    (c.fall_due_up.ensures.does _ (itself k s r a b)))
