-- The first line of a text, and what stands behind it, as the place of the first CR tells.
use Rattle.std.proofs.Common.{◌≡◌, ◌<◌, ◌+◌, ◌-◌, ◌∙◌, ℕ, sym, List, [], length, take, drop, arith}
use Rattle.std.specs.Prelude.{◌==◌, Some, None}
use Rattle.std.specs.List.{position}
use Rattle.std.proofs.lemmas.List.{length-drop, take_all}
use Rattle.text_lines.specs.UserLines.{first_line, behind_line, without_lf}
use Rattle.text_lines.proofs.UserLines.{behind_return, behind_whole, ends_found, ends_nowhere, suc_of, takes_first}

-- before a CR that is the first
pub line_before : (text : List ℕ) (end : ℕ) → Some end ≡ position (λ b. b == 13) text → take end text ≡ first_line text
line_before text end e = rw (ends_found text end e) (takes_first text)

-- and behind it
rest_behind : (text : List ℕ) (end : ℕ) → Some end ≡ position (λ b. b == 13) text → end < length text → without_lf (drop (end + 1) text) ≡ behind_line text
rest_behind text end e h =
    let found = ends_found text end e in
    rw (suc_of end) (rw found (sym (behind_return text (omega (arith, found, h)))))

-- as a slice to its end
pub slice_behind : (text : List ℕ) (end : ℕ) → Some end ≡ position (λ b. b == 13) text → end < length text → without_lf (take (length text - (end + 1)) (drop (end + 1) text)) ≡ behind_line text
slice_behind text end e h =
    let whole = take_all (length text - (end + 1)) (drop (end + 1) text) (omega (arith, length-drop (end + 1) text)) in
    rw whole (rest_behind text end e h)

-- where there is none
pub line_whole : (text : List ℕ) → None ≡ position (λ b. b == 13) text → text ≡ first_line text
line_whole text e = sym (rw (← ends_nowhere text e) (take_all (length text) text (omega arith))) ∙ takes_first text

pub nothing_behind : (text : List ℕ) → None ≡ position (λ b. b == 13) text → [] ≡ behind_line text
nothing_behind text e = sym (behind_whole text (sym (ends_nowhere text e)))
