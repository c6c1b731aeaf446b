-- A piece that is one byte longer, without its escapes.
use Rattle.std.proofs.Common.{◌≡◌, ℕ, Bool, true, false, ◌==◌, if◌then◌else◌, List, [], ◌∷◌, ◌++◌, refl, append_assoc}
use Rattle.std.proofs.lemmas.List.{append-nil}
use Rattle.kiss_framing.specs.declared.TheConstants.{FESC}
use Rattle.kiss_framing.specs.Stream.{meaning, unescaped, ends_in_escape}

-- what the byte b adds behind a piece
abbrev pub added : Bool → ℕ → List ℕ
added true b = meaning b
added false b = if b == FESC then [] else b ∷ []

-- whether a FESC waits behind it
abbrev pub waits : Bool → ℕ → Bool
waits true b = false
waits false b = b == FESC

pub record Longer (piece : List ℕ) (b : ℕ) : Type 0 where
  pub bytes : unescaped (piece ++ b ∷ []) ≡ unescaped piece ++ added (ends_in_escape piece) b
  pub in_escape : ends_in_escape (piece ++ b ∷ []) ≡ waits (ends_in_escape piece) b

longer_one : (x b : ℕ) (t : Bool) → (x == FESC) ≡ t → Longer (x ∷ []) b
longer_one x b true e = record { bytes = rw (e, append-nil) refl; in_escape = rw e refl }
longer_one x b false e = record { bytes = rw e refl; in_escape = rw e refl }

longer_two : (x y : ℕ) (rest : List ℕ) (b : ℕ) (t : Bool) → (x == FESC) ≡ t → Longer rest b → Longer (y ∷ rest) b → Longer (x ∷ y ∷ rest) b
longer_two x y rest b true e h _ = record { bytes = rw (e, h.bytes, append_assoc); in_escape = rw (e, h.in_escape) }
longer_two x y rest b false e _ h = record { bytes = rw (e, h.bytes); in_escape = rw (e, h.in_escape) }

pub longer : (piece : List ℕ) (b : ℕ) → Longer piece b
longer [] b = record { bytes = refl; in_escape = refl }
longer (x ∷ []) b = longer_one x b (x == FESC) refl
longer (x ∷ y ∷ rest) b = longer_two x y rest b (x == FESC) refl (longer rest b) (longer (y ∷ rest) b)
