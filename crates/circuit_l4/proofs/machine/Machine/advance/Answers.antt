use Rattle.std.proofs.Common.{◌≡◌, ◌-◌, nat_lt, true, List, arith}
use Rattle.std.proofs.lemmas.Bool.Decides.{nat_tests}
use Rattle.circuit_l4.specs.State.{Out}
use Rattle.circuit_l4.specs.Moves.{advance, on_state}
use Rattle.circuit_l4.specs.Halves.{Outbox}
use Rattle.circuit_l4.specs.Outputs.{outs_of}
use Rattle.circuit_l4.specs.Standing.{EndView, view_of}
use Rattle.circuit_l4.proofs.Standings.{itself, standing}
use Rattle.circuit_l4.proofs.Waiting.{same_none}
use Rattle.circuit_l4.proofs.machine.Machine.advance.Goals as goal

pub returns-then-acked-below-clause-does : goal.returns-then-acked-below-clause-does
returns-then-acked-below-clause-does c =
    let k : EndView = view_of c.args.self.now in
    let o : Outbox = c.acknowledge.new.self in
    let outs : List Out = outs_of o.queue (o.acked - o.done) c.args.self.now.outs.items in
    let same : k.outs ≡ outs = same_none _ _ _ _ c.args.self.now.outs.items c.requires.outs in
    standing k _ (on_state (advance c.args.now c.args.below)) (λ s r a b.
    let test : nat_lt s.acked c.args.below ≡ true = grind (arith, nat_tests, c.if-acked-below.true, c.acked.ensures, a.acked) in
    rw (test, same)
    (c.wait_if_out.ensures.does _
    (itself (record k { outgoing = o; tries = 0; outs = outs }) (record s { acked = c.args.below }) r (c.acknowledge.ensures.does s a) b)))
