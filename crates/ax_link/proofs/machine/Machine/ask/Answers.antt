use Rattle.std.proofs.Common.{ℕ, ◌%◌, true, false, ap, sym, ◌∙◌, subst}
use Rattle.ax_link.specs.declared.kind.Kind.TheVariants.{Rej}
use Rattle.ax_link.specs.Moves.{ask, emit}
use Rattle.ax_link.specs.Standing.{LinkView, KeepsEffect, effect_of}
use Rattle.ax_link.specs.Calls.{view_of}
use Rattle.ax_link.proofs.Standings.{itself, standing}
use Rattle.ax_link.proofs.machine.Machine.ask.Goals as goal

pub returns-clause-does : goal.returns-clause-does
returns-clause-does g c =
    let self = view_of c.args.self.now in
    standing _ self _ (ask c.args.pf) (λ before received a b.
    let asked : LinkView = record self { rej_sent = true } in
    subst (λ (n : ℕ). KeepsEffect g.M.Modulus.SIZE (view_of c.emit.new.self) (emit false (Rej n c.args.pf) (effect_of g.M.Modulus.SIZE asked before received)))
    (c.wire-nr.ensures ∙ ap (λ n. n % g.M.Modulus.SIZE) (sym b))
    (c.emit.ensures.does _ (itself g.M.Modulus.SIZE asked before received a b)))
