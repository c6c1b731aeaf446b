use Rattle.std.proofs.Common.{◌≡◌, ◌≤◌, ◌-◌, ◌++◌, length, take, drop}
use Rattle.std.specs.List.{flat_map}
use Rattle.kiss_framing.specs.Stream.{escape_of}
use Rattle.kiss_framing.proofs.enframing.push_payload.Given as goal

-- what stood there at first still stands in front, and with what is left to come it's the whole
abbrev pub invariant-loop-taken : goal.invariant-loop-taken
invariant-loop-taken g l =
    record {
      within : l.taken ≤ length l.payload;
      front : take (length l.fn.out.items) l.out.items ≡ l.fn.out.items;
      rest : l.out.items ++ flat_map escape_of (drop l.taken l.payload) ≡ l.fn.out.items ++ flat_map escape_of l.fn.payload;
    }

abbrev pub decreases-loop-taken : goal.decreases-loop-taken
decreases-loop-taken g l = length l.payload - l.taken
