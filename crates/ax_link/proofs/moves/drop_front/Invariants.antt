use Rattle.std.proofs.Common.{◌≡◌, drop}
use Rattle.circular_buffer.specs.Buffer.{buffer}
use Rattle.ax_link.proofs.moves.drop_front.Given as goal

abbrev pub invariant-loop-done : goal.invariant-loop-done
invariant-loop-done l = l.queue ≡ buffer (drop l.done l.fn.queue.items) l.fn.queue.capacity
