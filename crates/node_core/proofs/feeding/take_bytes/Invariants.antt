use Rattle.std.proofs.Common.{ℕ, List, ◌≤◌, ◌-◌, ◌++◌, length, take}
use Rattle.kiss_framing.specs.Stream as kiss
use Rattle.node_core.specs.Taking.{Takes}
use Rattle.node_core.specs.Going.{StandsForSome}
use Rattle.node_core.specs.Standing.{IsDrained}
use Rattle.node_core.proofs.feeding.take_bytes.Given as goal

-- the front was taken in, and the items that it completes were settled
abbrev pub invariant-loop-taken : goal.invariant-loop-taken
invariant-loop-taken l = record {
  within : l.taken ≤ length l.bytes;
  some : StandsForSome l.station;
  drained : IsDrained l.fn.station → IsDrained l.station;
  fed : (stream : List ℕ) → kiss.StandsFor l.fn.deframer stream → kiss.StandsFor l.deframer (stream ++ take l.taken l.bytes);
  taken : (stream : List ℕ) → kiss.StandsFor l.fn.deframer stream → Takes l.now.0 l.fn.station l.station stream (take l.taken l.bytes);
}

abbrev pub decreases-loop-taken : goal.decreases-loop-taken
decreases-loop-taken l = length l.bytes - l.taken
