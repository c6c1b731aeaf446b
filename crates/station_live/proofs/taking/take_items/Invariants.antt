use Rattle.std.proofs.Common.{◌≡◌, ◌≤◌, ◌-◌, ◌++◌, ℕ, List, length, take}
use Rattle.kiss_framing.specs.Stream.{Item, StandsFor, items}
use Rattle.station.specs.Standing.{StationGo}
use Rattle.station_live.specs.Lives.{after_items}
use Rattle.station_live.proofs.taking.take_items.Given as goal

-- the front was taken in, with its items
abbrev pub invariant-loop-taken : goal.invariant-loop-taken
invariant-loop-taken l = record {
  within : l.taken ≤ length l.bytes;
  fed : (stream : List ℕ) → StandsFor l.fn.deframer stream → StandsFor l.deframer (stream ++ take l.taken l.bytes);
  goes : (stream : List ℕ) → StandsFor l.fn.deframer stream
      → (given : List Item) × (items (stream ++ take l.taken l.bytes) ≡ items stream ++ given)
      × StationGo (after_items l.now given) l.fn.station l.station;
}

abbrev pub decreases-loop-taken : goal.decreases-loop-taken
decreases-loop-taken l = length l.bytes - l.taken
