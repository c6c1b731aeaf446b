use Rattle.std.proofs.Common.{sym, ◌∙◌}
use Rattle.circuit_l4.specs.Moves.{finish}
use Rattle.circuit_l4.specs.Standing.{EndView, view_of}
use Rattle.circuit_l4.proofs.Standings.{itself, standing}
use Rattle.circuit_l4.proofs.machine.Machine.finish.Goals as goal

pub returns-then-is_done-clause-does : goal.returns-then-is_done-clause-does
returns-then-is_done-clause-does c =
    let k : EndView = view_of c.args.self.now in
    standing k _ (finish c.args.now) (λ s r a b.
    rw (sym (c.is_done.ensures s r a) ∙ c.if-is_done.true) (c.begin_to_close.ensures.does _ (itself k s r a b)))

pub returns-else-is_done-clause-does : goal.returns-else-is_done-clause-does
returns-else-is_done-clause-does c =
    let k : EndView = view_of c.args.self.now in
    standing k _ (finish c.args.now) (λ s r a b. rw (sym (c.is_done.ensures s r a) ∙ c.if-is_done.false) (itself k s r a b))
