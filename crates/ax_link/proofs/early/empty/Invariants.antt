use Rattle.std.proofs.Common.{◌≡◌, replicate, None}
use Rattle.circular_buffer.specs.Buffer.{buffer}
use Rattle.ax_link.proofs.early.empty.Given as goal

abbrev pub invariant-loop-done : goal.invariant-loop-done
invariant-loop-done l = l.early ≡ buffer (replicate l.done None) l.fn.early.capacity
