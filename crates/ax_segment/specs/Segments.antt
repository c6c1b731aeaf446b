-- The segments of a message (this project's profile).
use Rattle.std.specs.Prelude.{ℕ, zero, suc, ◌≡◌, ◌+◌, ◌/◌, ◌<◌, ◌≤◌, List, [], ◌∷◌, length, take, drop}
use Rattle.ax_segment.specs.declared.TheConstants.{FIRST_BIT, FULL_PIECE}
use Rattle.ax_segment.specs.declared.split.SplitRefusal.{SplitRefusal}
use Rattle.ax_segment.specs.declared.split.SplitRefusal.TheVariants.{Empty, TooLong}

-- so many full pieces of a text, and what is left of it
abbrev pub pieces : ℕ → List ℕ → List (List ℕ)
pieces zero text = text ∷ []
pieces (suc n) text = take FULL_PIECE text ∷ pieces n (drop FULL_PIECE text)

-- a text, cut into pieces of which all but the last are full, and the last isn't empty
abbrev pub cut : List ℕ → List (List ℕ)
cut [] = []
cut (first ∷ others) = pieces (length others / FULL_PIECE) (first ∷ others)

-- each piece behind the count of those still to come
abbrev pub counted_down : List (List ℕ) → List (List ℕ)
counted_down [] = []
counted_down (piece ∷ rest) = (length rest ∷ piece) ∷ counted_down rest

-- the same, with bit 7 set in the first
abbrev pub with_first : List (List ℕ) → List (List ℕ)
with_first [] = []
with_first (piece ∷ rest) = ((FIRST_BIT + length rest) ∷ piece) ∷ counted_down rest

-- the segments of a message: its PID and its bytes, cut into pieces. So the first segment has up to 254 of its bytes, and
-- each other one up to 255
abbrev pub segments_of : ℕ → List ℕ → List (List ℕ)
segments_of pid message = with_first (cut (pid ∷ message))

-- a message has bytes, and at most 128 segments, as bits 6 to 0 count
abbrev pub IsSplittable : ℕ → List ℕ → Type 0
IsSplittable pid message = (1 ≤ length message) × (length (segments_of pid message) ≤ 128)

-- why a message is refused
abbrev pub HasCause : SplitRefusal → ℕ → List ℕ → Type 0
HasCause Empty pid message = message ≡ []
HasCause TooLong pid message = 128 < length (segments_of pid message)
