use Rattle.std.proofs.Common.{◌≡◌, ◌++◌, take}
use Rattle.std.specs.Prelude.{flat_map}
use Rattle.trace_lines.specs.Heads.{node_line}
use Rattle.trace_lines.proofs.heads.write_nodes.Given as goal

abbrev pub invariant-loop-one : goal.invariant-loop-one
invariant-loop-one l = l.out ≡ l.fn.out ++ flat_map node_line (take l.one-index l.declared)
