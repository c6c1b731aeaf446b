use Rattle.std.proofs.Common.{false}
use Rattle.circuit_l4.specs.Moves.{on_state, hold}
use Rattle.circuit_l4.specs.Standing.{EndView, view_of}
use Rattle.circuit_l4.proofs.Standings.{itself, standing}
use Rattle.circuit_l4.proofs.machine.Machine.hold.Goals as goal

pub returns-then-self-clause-does : goal.returns-then-self-clause-does
returns-then-self-clause-does c =
    let k : EndView = view_of c.args.self.now in
    standing k _ (on_state (hold c.args.now c.args.choke)) (λ s r a b.
    rw (c.if-choke.false, c.if-self.true) (c.wait_if_out.ensures.does _ (itself (record k { choked = false }) s r a b)))
