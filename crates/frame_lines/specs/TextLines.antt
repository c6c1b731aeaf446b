-- Text of users, in one line. Own profile.
use Rattle.std.specs.Prelude.{ℕ, List, ◌++◌, codes}
use Rattle.text_lines.specs.Lines.{shown_text}

-- text TEXT
abbrev pub text_line : List ℕ → List ℕ
text_line bytes = codes "  text " ++ (shown_text bytes ++ codes "\n")
