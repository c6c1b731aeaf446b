use Rattle.std.proofs.Common.{sym, ◌∙◌}
use Rattle.circuit_l4.specs.Moves.{answer}
use Rattle.circuit_l4.specs.Standing.{EndView, view_of}
use Rattle.circuit_l4.proofs.Standings.{itself, standing}
use Rattle.circuit_l4.proofs.Answered.{silent_by, told_by, untold_by}
use Rattle.circuit_l4.proofs.machine.Machine.answer.Goals.{then-nak-via-then-nak, then-nak-via-else-nak+then-is_silent}
use Rattle.circuit_l4.proofs.machine.Machine.answer.Goals as goal

pub returns-then-nak-clause-does : goal.returns-then-nak-clause-does
returns-then-nak-clause-does c =
    let k : EndView = view_of c.args.self.now in
    elim c.then-nak.branch [
      | then-nak-via-then-nak w ↦ λ g h. told_by c.args.nak _ _ _ _ w.if-nak.true (c.emit_ack.ensures.does g h)
      | then-nak-via-else-nak+then-is_silent w ↦
          standing k _ (answer c.args.nak c.args.owed) (λ s r a b.
          silent_by c.args.nak _ _ _ _ (sym (w.is_silent.ensures s r a) ∙ w.if-is_silent.true) (c.emit_ack.ensures.does _ (itself k s r a b)))
    ]

pub returns-else-is_silent-clause-does : goal.returns-else-is_silent-clause-does
returns-else-is_silent-clause-does c =
    let k : EndView = view_of c.args.self.now in
    standing k k (answer c.args.nak c.args.owed) (λ s r a b.
    untold_by c.args.nak _ _ _ _ c.if-nak.false (sym (c.is_silent.ensures s r a) ∙ c.if-is_silent.false) (itself k s r a b))
