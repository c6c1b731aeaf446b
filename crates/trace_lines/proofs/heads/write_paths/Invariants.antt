use Rattle.std.proofs.Common.{◌≡◌, ◌++◌, take}
use Rattle.std.specs.Prelude.{flat_map}
use Rattle.trace_lines.specs.Heads.{path_line}
use Rattle.trace_lines.proofs.heads.write_paths.Given as goal

abbrev pub invariant-loop-via : goal.invariant-loop-via
invariant-loop-via l = l.out ≡ l.fn.out ++ flat_map path_line (take l.via-index l.vias)
