use Rattle.std.proofs.Common.{◌≤◌, ◌-◌, length, take}
use Rattle.kiss_framing.specs.Stepping.{held_at, Leads}
use Rattle.kiss_framing.proofs.piece.Piece.take_in_some.Given as goal

-- the front was taken in and gave no item
abbrev pub invariant-loop-taken : goal.invariant-loop-taken
invariant-loop-taken l = record {
  within : l.taken ≤ length l.bytes;
  led : Leads (held_at l.fn.self.place l.fn.self.bytes.items) (take l.taken l.bytes) (held_at l.self.place l.self.bytes.items);
}

abbrev pub decreases-loop-taken : goal.decreases-loop-taken
decreases-loop-taken l = length l.bytes - l.taken
