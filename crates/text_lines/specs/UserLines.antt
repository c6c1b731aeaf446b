-- The lines of a user's text: a CR ends a line, and an LF right behind that is dropped. Own profile.
use Rattle.std.specs.Prelude.{ℕ, List, [], ◌∷◌, ◌==◌, if◌then◌else◌}

-- a line ends before the first CR, or with its text
abbrev pub first_line : List ℕ → List ℕ
first_line [] = []
first_line (b ∷ bs) = if b == 13 then [] else b ∷ first_line bs

-- an LF right behind that CR is dropped
abbrev pub without_lf : List ℕ → List ℕ
without_lf [] = []
without_lf (b ∷ bs) = if b == 10 then bs else b ∷ bs

abbrev pub behind_line : List ℕ → List ℕ
behind_line [] = []
behind_line (b ∷ bs) = if b == 13 then without_lf bs else behind_line bs
