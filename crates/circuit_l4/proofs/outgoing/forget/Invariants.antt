use Rattle.std.proofs.Common.{◌≡◌, length}
use Rattle.circuit_l4.proofs.Acknowledged.{Forgot}
use Rattle.circuit_l4.proofs.outgoing.forget.Given as goal

abbrev pub invariant-loop : goal.invariant-loop
invariant-loop l = Forgot l.fn.queue.messages l.fn.done l.queue.messages l.done × (l.queue.room ≡ l.fn.queue.room)

abbrev pub decreases-loop : goal.decreases-loop
decreases-loop l = length l.queue.messages
