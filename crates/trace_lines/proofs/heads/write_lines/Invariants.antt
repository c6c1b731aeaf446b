use Rattle.std.proofs.Common.{◌≡◌, ◌≤◌, ◌+◌, ◌++◌, suc, length}
use Rattle.std.specs.Str.Lines.{lines}
use Rattle.trace_lines.specs.Heads.{file_text, lines_from}
use Rattle.trace_lines.proofs.heads.write_lines.Given as goal

abbrev pub invariant-loop-rest : goal.invariant-loop-rest
invariant-loop-rest l = record {
  told : l.out ++ lines_from (suc l.number) (lines l.rest) ≡ l.fn.out ++ file_text l.bytes;
  few : l.number + length l.rest ≤ length l.bytes;
}

abbrev pub decreases-loop-rest : goal.decreases-loop-rest
decreases-loop-rest l = length l.rest
