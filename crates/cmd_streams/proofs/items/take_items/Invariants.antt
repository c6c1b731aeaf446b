use Rattle.std.proofs.Common.{◌≡◌, ◌≤◌, ◌-◌, ◌++◌, ℕ, List, length, take}
use Rattle.kiss_framing.specs.Stream.{StandsFor, items}
use Rattle.cmd_streams.proofs.items.take_items.Given as goal

-- the front was taken in, and its items were answered
abbrev pub invariant-loop-taken : goal.invariant-loop-taken
invariant-loop-taken g l = record {
  within : l.taken ≤ length l.bytes;
  added : (more : List ℕ) × (l.answer ≡ l.fn.answer ++ more);
  fed : (stream : List ℕ) → StandsFor l.fn.deframer stream → StandsFor l.deframer (stream ++ take l.taken l.bytes);
  takes : (stream : List ℕ) → StandsFor l.fn.deframer stream → (first : g.row.T.Denot) (text more : List ℕ)
      → l.answer ≡ l.fn.answer ++ more
      → g.T.ItemTaker.took first l.fn.taker (items stream) text
      → g.T.ItemTaker.took first l.taker (items (stream ++ take l.taken l.bytes)) (text ++ more);
}

abbrev pub decreases-loop-taken : goal.decreases-loop-taken
decreases-loop-taken g l = length l.bytes - l.taken
