use Rattle.std.proofs.Common.{◌≡◌, ℕ, take}
use Rattle.trace_lines.specs.Events.{repeats}
use Rattle.trace_lines.specs.Marks.{mark_at}
use Rattle.trace_lines.proofs.marks.repeat_marks.Given as goal

abbrev pub invariant-loop-numbered : goal.invariant-loop-numbered
invariant-loop-numbered l = (line : ℕ) → mark_at l.marks.items line ≡ repeats (take l.numbered-index l.instructions) line
