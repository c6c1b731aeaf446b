use Rattle.std.proofs.Common.{◌≡◌, ◌++◌, take}
use Rattle.std.specs.Prelude.{flat_map}
use Rattle.frame_lines.specs.NodesLines as lines
use Rattle.frame_lines.proofs.nodes.write_entries.Given as goal

abbrev pub invariant-loop-entry : goal.invariant-loop-entry
invariant-loop-entry l = l.out ≡ l.fn.out ++ flat_map lines.entry_line (take l.entry-index l.entries)
