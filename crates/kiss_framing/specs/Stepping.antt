-- How what is held goes on by one byte, case by case as the deframer takes it in. Contracts see a deframer by `held_at`; no public
-- clause cites the rest.
use Rattle.std.specs.Prelude.{◌≡◌, ◌≢◌, ℕ, ◌+◌, true, false, ◌==◌, if◌then◌else◌, List, [], ◌∷◌, ◌++◌, length, take}
use Rattle.kiss_framing.specs.declared.TheConstants.{FEND, FESC, TFEND, TFESC}
use Rattle.kiss_framing.specs.declared.piece.Place.{Place}
use Rattle.kiss_framing.specs.declared.piece.Place.TheVariants.{Between, Within, Escaped, Skipping}
use Rattle.kiss_framing.specs.declared.piece.Ends.{Ends}
use Rattle.kiss_framing.specs.declared.piece.Ends.TheVariants as ends
use Rattle.kiss_framing.specs.Stream.{Item, Too_long, is_too_long, frame_of, HeldPiece, Piece, Skipped}

-- what is held, by the place and the buffer
abbrev pub held_at : Place → List ℕ → HeldPiece
held_at Between bytes = Piece [] false
held_at Within bytes = Piece bytes false
held_at Escaped bytes = Piece bytes true
held_at Skipping bytes = Skipped

-- the items of an answer, by the buffer
abbrev pub items_at : Ends → List ℕ → List Item
items_at ends.Nothing bytes = []
items_at ends.Piece bytes = frame_of bytes
items_at ends.Room bytes = Too_long ∷ []

-- with these unescaped bytes
abbrev pub grown : List ℕ → HeldPiece × List Item
grown bytes = if is_too_long bytes then (Skipped, Too_long ∷ []) else (Piece bytes false, [])

-- by a byte that no FESC stands before
abbrev pub after_plain : List ℕ → ℕ → HeldPiece × List Item
after_plain bytes b = if b == FESC then (Piece bytes true, []) else grown (bytes ++ b ∷ [])

-- by the byte behind a FESC
abbrev pub after_escape : List ℕ → ℕ → HeldPiece × List Item
after_escape bytes b =
    if b == TFEND then grown (bytes ++ FEND ∷ []) else if b == TFESC then grown (bytes ++ FESC ∷ []) else (Piece bytes false, [])

abbrev pub after_fend : HeldPiece → HeldPiece × List Item
after_fend (Piece bytes in_escape) = (Piece [] false, frame_of bytes)
after_fend Skipped = (Piece [] false, [])

abbrev pub within : HeldPiece → ℕ → HeldPiece × List Item
within (Piece bytes in_escape) b = if in_escape then after_escape bytes b else after_plain bytes b
within Skipped b = (Skipped, [])

-- by one byte: what is held then, and the items that it gives
abbrev pub step : HeldPiece → ℕ → HeldPiece × List Item
step held b = if b == FEND then after_fend held else within held b

-- a byte that stands for itself
abbrev pub IsPlain : ℕ → Type 0
IsPlain b = ((b == FEND) ≡ false) × ((b == FESC) ≡ false)

-- by these bytes, none of which gives an item, from what is held to what is held later
abbrev pub Leads : HeldPiece → List ℕ → HeldPiece → Type 0
Leads held [] later = held ≡ later
Leads held (b ∷ more) later = ((step held b).1 ≡ []) × Leads (step held b).0 more later

-- the last of so many bytes is the first that gives an item
pub record LastGives (held : HeldPiece) (bytes : List ℕ) (count : ℕ) (later : HeldPiece) (given : List Item) : Type 0 where
  pub front : List ℕ
  pub last : ℕ
  pub rest : List ℕ
  pub between : HeldPiece
  pub cut : bytes ≡ front ++ last ∷ rest
  pub counted : count ≡ length front + 1
  pub led : Leads held front between
  pub gave : (later, given) ≡ step between last
  pub some : given ≢ []

-- bytes are taken in, of which the last alone may end something
abbrev pub EndsNext : HeldPiece → List ℕ → ℕ → Ends → HeldPiece → List ℕ → Type 0
EndsNext held bytes count ends.Nothing later buffer = Leads held (take count bytes) later
EndsNext held bytes count ends.Piece later buffer = LastGives held bytes count later (items_at ends.Piece buffer)
EndsNext held bytes count ends.Room later buffer = LastGives held bytes count later (items_at ends.Room buffer)

-- bytes are taken in up to the first that ends something, or all where none does
abbrev pub EndsAt : HeldPiece → List ℕ → ℕ → Ends → HeldPiece → List ℕ → Type 0
EndsAt held bytes count ends.Nothing later buffer = (count ≡ length bytes) × Leads held bytes later
EndsAt held bytes count ends.Piece later buffer = LastGives held bytes count later (items_at ends.Piece buffer)
EndsAt held bytes count ends.Room later buffer = LastGives held bytes count later (items_at ends.Room buffer)
