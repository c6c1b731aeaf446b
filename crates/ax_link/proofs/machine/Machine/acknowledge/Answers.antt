use Rattle.std.proofs.Common.{refl, ap, ◌≤◌, ◌+◌, length, arith}
use Rattle.ax_link.specs.Calls.{view_of}
use Rattle.ax_link.proofs.Standings.{acknowledges}
use Rattle.ax_link.proofs.machine.Machine.acknowledge.Goals as goal

pub returns-then-self-below-clause-does : goal.returns-then-self-below-clause-does
returns-then-self-below-clause-does g c =
    let self = c.args.self.now in
    let within : c.args.below ≤ self.acked + length self.queue.items = omega (arith, self.sent_is_given, c.requires.below) in
    rw c.ms.ensures.value
    (acknowledges g.M.Modulus.SIZE (view_of self) (view_of c.update_t1.new.self) _ c.args.now c.args.below c.t1_runs-ran.result c.drop_front.new.queue.items
    c.if-self-below.true within c.t1_runs-ran.ensures (ap (λ ring. ring.items) c.drop_front.ensures) c.update_t1.ensures refl)
