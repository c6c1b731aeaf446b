use Rattle.std.proofs.Common.{◌≡◌, ◌++◌, drop, flat_map}
use Rattle.network_soak.specs.Files as files
use Rattle.network_soak.proofs.file.write_each.Given as goal

abbrev pub invariant-loop-node : goal.invariant-loop-node
invariant-loop-node l = l.text.items ++ flat_map (files.line_of l.kind) (drop l.node-index l.nodes) ≡ l.fn.text.items ++ flat_map (files.line_of l.kind) l.nodes
