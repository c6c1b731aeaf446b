use Rattle.std.proofs.Common.{None, ℕ, ap, refl, sym}
use Rattle.circuit_l4.specs.declared.phase.EndPhase.TheVariants.{Up}
use Rattle.circuit_l4.specs.Moves.{on_state}
use Rattle.circuit_l4.specs.Table.{on_accept}
use Rattle.circuit_l4.specs.Standing.{EndView, effect_of, view_of}
use Rattle.circuit_l4.proofs.Standings.{changes, itself, standing}
use Rattle.circuit_l4.proofs.machine.Machine.on_accept.Goals as goal

pub returns-clause-does : goal.returns-clause-does
returns-clause-does c =
    let k : EndView = view_of c.args.self.now in
    let up : ℕ → EndView = λ at. record k { to = c.args.own; window = c.common_window-self.result; phase = Up; answer_due = None; last_active = at } in
    standing k _ (on_accept c.args.now c.args.own c.args.window) (λ s r a b.
    rw (← c.common_window-self.ensures) (c.finish.ensures.does _ (c.note.ensures.does _
    (changes k (up c.ms-self.result) (on_state (λ x. record x { to = c.args.own; window = c.common_window-self.result; phase = Up; answer_due = None; last_active = c.args.now }))
    refl refl (λ x y. ap (λ at. effect_of (up at) x y) (sym c.ms-self.ensures.value)) (effect_of k s r) (itself k s r a b)))))
