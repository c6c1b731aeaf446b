use Rattle.std.proofs.Common.{◌≡◌, ◌-◌, ℕ, suc, length}
use Rattle.trace_lines.specs.Marks.{mark_at}
use Rattle.trace_lines.proofs.marks.set_mark.Given as goal

abbrev pub invariant-loop-marks : goal.invariant-loop-marks
invariant-loop-marks l = (line : ℕ) → mark_at l.marks.items line ≡ mark_at l.fn.marks.items line

abbrev pub decreases-loop-marks : goal.decreases-loop-marks
decreases-loop-marks l = suc l.at - length l.marks.items
