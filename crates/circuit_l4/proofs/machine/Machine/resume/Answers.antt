use Rattle.std.proofs.Common.{sym, ◌∙◌}
use Rattle.circuit_l4.specs.State.{follow}
use Rattle.circuit_l4.specs.Standing.{EndView, view_of}
use Rattle.circuit_l4.specs.Table.{resume}
use Rattle.circuit_l4.proofs.Answered.{moved_fails, moved_fits}
use Rattle.circuit_l4.proofs.Standings.{itself, standing}
use Rattle.circuit_l4.proofs.machine.Machine.resume.Goals as goal

pub returns-in-Ok-clause-does : goal.returns-in-Ok-clause-does
returns-in-Ok-clause-does c =
    let k : EndView = view_of c.args.self.now in
    standing k _ resume (λ s r a b.
    rw (moved_fits (follow r) _ (sym (c.move_on.ensures.answer r b) ∙ c.in-Ok.is))
    (c.emit_ack.ensures.does _ (itself (record k { incoming = c.move_on.new.self }) s (follow r).half a (c.move_on.ensures.does r b))))

pub returns-in-Err-clause-does : goal.returns-in-Err-clause-does
returns-in-Err-clause-does c =
    let k : EndView = view_of c.args.self.now in
    standing k _ resume (λ s r a b.
    rw (moved_fails (follow r) _ (sym (c.move_on.ensures.answer r b) ∙ c.in-Err.is))
    (c.end.ensures.does _ (itself (record k { incoming = c.move_on.new.self }) s (follow r).half a (c.move_on.ensures.does r b))))
