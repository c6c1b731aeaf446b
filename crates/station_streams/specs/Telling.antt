-- What is told of a stream to the notes, a text for each read. Own profile.
use Rattle.std.specs.Prelude.{ℕ, ◌≡◌, ◌++◌, List, [], ◌∷◌, Option}
use Rattle.cmd_streams.specs.Streams.{Read}
use Rattle.cmd_streams.specs.Told.{Says, StreamsTold}

-- each text was noted, or a front of it where a fault of the notes came, which changes nothing else
abbrev pub SaysEach : Option (List ℕ) → Option (List ℕ) → ℕ → ℕ → List (List ℕ) → Type 0
SaysEach old new before now [] = (new ≡ old) × (now ≡ before)
SaysEach old new before now (text ∷ texts) =
    (mid : Option (List ℕ)) × (between : ℕ) × Says old mid before between text × SaysEach mid new between now texts

-- The reads were taken as `Took` says, which is of them, the text that they are answered with, and what is told of each: that was noted.
abbrev pub Notes : (List Read → List ℕ → List (List ℕ) → Type 0) → StreamsTold → StreamsTold → List Read → List ℕ → Type 0
Notes Took before after reads text =
    (texts : List (List ℕ)) × Took reads text texts × SaysEach before.notes after.notes before.note_faults after.note_faults texts

-- and this behind it
abbrev pub NotesAnd : List ℕ → (List Read → List ℕ → List (List ℕ) → Type 0) → StreamsTold → StreamsTold → List Read → List ℕ → Type 0
NotesAnd note Took before after reads text =
    (texts : List (List ℕ)) × Took reads text texts
    × SaysEach before.notes after.notes before.note_faults after.note_faults (texts ++ note ∷ [])
