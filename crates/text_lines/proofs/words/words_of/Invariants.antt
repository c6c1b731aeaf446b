use Rattle.std.proofs.Common.{◌≡◌, ◌++◌, drop, filter, length}
use Rattle.std.specs.Prelude.{not, ◌==◌}
use Rattle.text_lines.specs.Lines.{texts}
use Rattle.text_lines.proofs.words.words_of.Given as goal

abbrev pub invariant-loop-piece : goal.invariant-loop-piece
invariant-loop-piece l = texts l.found.items ++ filter (λ w. not (length w == 0)) (texts (drop l.piece-index l.piece-items)) ≡ filter (λ w. not (length w == 0)) (texts l.piece-items)
