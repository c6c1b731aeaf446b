use Rattle.std.proofs.Common.{◌≡◌, replicate, None}
use Rattle.circular_buffer.specs.Buffer.{buffer}
use Rattle.circuit_l4.proofs.incoming.empty_places.Given as goal

abbrev pub invariant-loop-done : goal.invariant-loop-done
invariant-loop-done l = l.early ≡ buffer (replicate l.done None) l.many
