use Rattle.std.proofs.Common.{◌≡◌, slice_get}
use Rattle.circuit_l4.specs.State.{fragments_of_all}
use Rattle.circuit_l4.specs.Queued.{cut}
use Rattle.circuit_l4.proofs.Rings.{Left, fragments_from}
use Rattle.circuit_l4.proofs.messages.fragment_of.Given as goal

-- it is one of the messages that weren't looked at
abbrev pub invariant-loop-len : goal.invariant-loop-len
invariant-loop-len l =
    record {
      left : Left l.len-iterator l.bytes.items l.start;
      same : slice_get (fragments_of_all (cut l.lengths.items l.bytes.items)) l.nth ≡ slice_get (fragments_from l.len-iterator l.bytes.items l.start) l.left;
    }
