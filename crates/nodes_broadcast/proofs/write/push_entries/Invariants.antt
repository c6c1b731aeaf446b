use Rattle.std.proofs.Common.{◌≡◌, ◌+◌, ◌*◌, ◌++◌, length, take, drop}
use Rattle.std.specs.List.{AllByRecursion}
use Rattle.nodes_broadcast.specs.Nodes.{IsEntry, entries_octets}
use Rattle.nodes_broadcast.proofs.write.push_entries.Given as goal

abbrev pub invariant-loop-entry : goal.invariant-loop-entry
invariant-loop-entry g l = record {
  told : l.out.items ++ entries_octets (drop l.entry-index l.entries) ≡ l.fn.out.items ++ entries_octets l.entries;
  every : AllByRecursion IsEntry (take l.entry-index l.entries);
  room : length l.out.items ≡ length l.fn.out.items + 21 * l.entry-index;
}
