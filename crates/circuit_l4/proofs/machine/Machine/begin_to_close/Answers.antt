use Rattle.std.proofs.Common.{false, refl}
use Rattle.circuit_l4.specs.declared.phase.EndPhase.TheVariants.{Closing}
use Rattle.circuit_l4.specs.Moves.{on_state, begin_to_close}
use Rattle.circuit_l4.specs.Standing.{EndView, view_of}
use Rattle.circuit_l4.proofs.Standings.{changes, itself, standing}
use Rattle.circuit_l4.proofs.machine.Machine.begin_to_close.Goals as goal

pub returns-clause-does : goal.returns-clause-does
returns-clause-does c =
    let k : EndView = view_of c.args.self.now in
    let told : EndView = view_of c.emit.new.self in
    standing k _ (begin_to_close c.args.now) (λ s r a b.
    c.wait.ensures.does _
    (changes told (record told { phase = Closing; choked = false; tries = 0 }) (on_state (λ x. record x { phase = Closing; choked = false; tries = 0 }))
    refl refl (λ _ _. refl) _ (c.emit.ensures.does _ (itself k s r a b))))
