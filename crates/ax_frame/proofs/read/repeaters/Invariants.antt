use Rattle.std.proofs.Common.{◌≡◌, ◌+◌, ◌*◌, ◌-◌, length}
use Rattle.ax_frame.specs.Reading as reading
use Rattle.ax_frame.proofs.Addresses.{SpellsFirst}
use Rattle.ax_frame.proofs.read.repeaters.Given as goal

abbrev pub invariant-loop-nth : goal.invariant-loop-nth
invariant-loop-nth l = record {
  count : length l.path.items ≡ l.nth;
  so_far : SpellsFirst 14 l.bytes l.path.items;
  judged : reading.addresses_end (8 - l.nth) (14 + 7 * l.nth) l.bytes ≡ reading.addresses_end 8 14 l.bytes;
}
