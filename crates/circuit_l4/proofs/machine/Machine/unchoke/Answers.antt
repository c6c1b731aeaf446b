use Rattle.std.proofs.Common.{None, false, refl}
use Rattle.circuit_l4.specs.Moves.{on_state}
use Rattle.circuit_l4.specs.Standing.{EndView, view_of}
use Rattle.circuit_l4.proofs.Standings.{changes}
use Rattle.circuit_l4.proofs.machine.Machine.unchoke.Goals as goal

pub returns-clause-does : goal.returns-clause-does
returns-clause-does c = λ g h.
    let k : EndView = view_of c.args.self.now in
    c.wait_if_out.ensures.does _ (c.fill.ensures.does _ (c.again.ensures.does _
    (changes k (record k { choked = false; answer_due = None }) (on_state (λ x. record x { choked = false; answer_due = None })) refl refl (λ _ _. refl) g h)))
