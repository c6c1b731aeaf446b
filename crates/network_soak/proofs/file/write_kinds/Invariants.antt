use Rattle.std.proofs.Common.{◌≡◌, ◌++◌, drop, flat_map}
use Rattle.network_soak.specs.Files as files
use Rattle.network_soak.proofs.file.write_kinds.Given as goal

abbrev pub invariant-loop-kind : goal.invariant-loop-kind
invariant-loop-kind l = l.text.items ++ flat_map files.lines_of (drop l.kind-index l.kinds) ≡ l.fn.text.items ++ flat_map files.lines_of l.kinds
