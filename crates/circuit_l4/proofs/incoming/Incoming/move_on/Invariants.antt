use Rattle.std.proofs.Common.{◌≡◌, ◌-◌, length}
use Rattle.circuit_l4.specs.State.{Receiving, follow}
use Rattle.circuit_l4.specs.Halves.{IsReceiving, IsFew}
use Rattle.circuit_l4.proofs.Following.{Goes}
use Rattle.circuit_l4.proofs.incoming.Incoming.move_on.Given as goal

abbrev pub invariant-loop-done : goal.invariant-loop-done
invariant-loop-done l =
    record {
      goes : (r : Receiving) → IsReceiving l.fn.self r → Goes l.self (length l.fn.self.early - l.done) (follow r);
      places : length l.self.early ≡ length l.fn.self.early;
      few : IsFew l.self;
    }
