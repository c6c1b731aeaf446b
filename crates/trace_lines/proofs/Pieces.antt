-- Texts that are written in pieces, and the lines of a file.
use Rattle.std.proofs.Common.{◌≡◌, ◌++◌, ◌∷◌, ◌∙◌, ℕ, suc, List, ap, sym, append_assoc}
use Rattle.trace_lines.specs.Heads.{line_line, lines_from}

-- one piece more of a text that is all, with what is left behind it
pub piece : (text next line rest all : List ℕ) → next ≡ text ++ line → text ++ (line ++ rest) ≡ all → next ++ rest ≡ all
piece text next line rest all wrote so_far = ap (λ xs. xs ++ rest) wrote ∙ (append_assoc text line rest ∙ so_far)

-- one line more
pub next_line : (text next : List ℕ) (number n : ℕ) (line : List ℕ) (here more : List (List ℕ)) (all : List ℕ)
    → n ≡ suc number → here ≡ line ∷ more → next ≡ text ++ line_line n line → text ++ lines_from (suc number) here ≡ all → next ++ lines_from (suc n) more ≡ all
next_line text next number n line here more all same cut wrote so_far =
    piece text next (line_line n line) (lines_from (suc n) more) all wrote
    (ap (λ k. text ++ lines_from k (line ∷ more)) same ∙ (ap (λ ls. text ++ lines_from (suc number) ls) (sym cut) ∙ so_far))
