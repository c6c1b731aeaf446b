use Rattle.std.proofs.Common.{◌≡◌, ◌+◌, ◌-◌, ◌*◌, ◌/◌, ◌++◌, List, length}
use Rattle.ax_address.specs.declared.entry.Entry.{Entry}
use Rattle.nodes_broadcast.specs.Nodes.{SpellsEntries, entries_at}
use Rattle.nodes_broadcast.proofs.Turns.{behind}
use Rattle.nodes_broadcast.proofs.read.read_entries.Given as goal

abbrev pub invariant-loop-nth : goal.invariant-loop-nth
invariant-loop-nth l = record {
  count : length l.entries.items ≡ l.nth;
  left : length l.rest ≡ 21 * (length l.octets / 21 - l.nth);
  found : (more : List Entry) → SpellsEntries more l.rest → SpellsEntries (l.entries.items ++ more) l.octets;
  exact : behind l.entries.items (entries_at (length l.octets / 21 - l.nth) (7 + 21 * l.nth) l.rest) ≡ entries_at (length l.octets / 21) 7 l.octets;
}
