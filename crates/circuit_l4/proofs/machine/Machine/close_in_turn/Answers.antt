use Rattle.std.proofs.Common.{true, refl}
use Rattle.circuit_l4.specs.Moves.{on_state}
use Rattle.circuit_l4.specs.Standing.{EndView, view_of}
use Rattle.circuit_l4.proofs.Standings.{changes}
use Rattle.circuit_l4.proofs.machine.Machine.close_in_turn.Goals as goal

pub returns-clause-does : goal.returns-clause-does
returns-clause-does c = λ g h.
    let k : EndView = view_of c.args.self.now in
    c.finish.ensures.does _ (changes k (record k { closing = true }) (on_state (λ x. record x { closing = true })) refl refl (λ _ _. refl) g h)
