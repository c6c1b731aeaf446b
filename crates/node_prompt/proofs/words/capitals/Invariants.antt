use Rattle.std.proofs.Common.{◌≡◌, map, take}
use Rattle.node_prompt.specs.Commands as words
use Rattle.node_prompt.proofs.words.capitals.Given as goal

abbrev pub invariant-loop-b : goal.invariant-loop-b
invariant-loop-b l = l.capitals.items ≡ map words.capital (take l.b-index l.line)
