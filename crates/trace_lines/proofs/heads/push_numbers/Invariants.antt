use Rattle.std.proofs.Common.{◌≡◌, ◌++◌, take, codes}
use Rattle.std.specs.Prelude.{flat_map, string_bytes}
use Rattle.std.specs.Fmt.{decimal}
use Rattle.trace_lines.proofs.heads.push_numbers.Given as goal

abbrev pub invariant-loop-number : goal.invariant-loop-number
invariant-loop-number l = string_bytes l.text ≡ string_bytes l.fn.text ++ flat_map (λ n. codes "," ++ decimal n) (take l.number-index l.numbers)
