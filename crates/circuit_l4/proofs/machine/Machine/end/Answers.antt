use Rattle.std.proofs.Common.{refl}
use Rattle.circuit_l4.specs.declared.phase.EndPhase.TheVariants.{Ended}
use Rattle.circuit_l4.specs.Moves.{on_state}
use Rattle.circuit_l4.specs.Standing.{EndView, view_of}
use Rattle.circuit_l4.proofs.Standings.{changes}
use Rattle.circuit_l4.proofs.machine.Machine.end.Goals as goal

pub returns-clause-does : goal.returns-clause-does
returns-clause-does c = λ g h.
    let k : EndView = view_of c.args.self.now in
    c.note.ensures.does _ (changes k (record k { phase = Ended }) (on_state (λ s. record s { phase = Ended })) refl refl (λ s r. refl) g h)
