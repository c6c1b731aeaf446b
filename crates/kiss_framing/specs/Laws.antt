-- What holds of every KISS stream and every frame.
use Rattle.std.specs.Prelude.{◌≡◌, ℕ, ◌≤◌, ◌<◌, List, [], ◌∷◌, ◌++◌, length}
use Rattle.kiss_framing.specs.declared.TheConstants.{FEND}
use Rattle.kiss_framing.specs.Stream.{Frame, Too_long, items, given_by_byte, open_piece, framed}

-- a stream that goes on keeps its items, and each byte adds what it gives
abbrev pub BytesAdd : Type 0
BytesAdd = (stream : List ℕ) (b : ℕ) → items (stream ++ b ∷ []) ≡ items stream ++ given_by_byte stream b

-- a FEND ends the piece that is open
abbrev pub FendEnds : Type 0
FendEnds = (before : List ℕ) → open_piece (before ++ FEND ∷ []) ≡ []

-- behind a FEND a stream begins anew
abbrev pub FendParts : Type 0
FendParts = (before after : List ℕ) → items (before ++ FEND ∷ after) ≡ items (before ++ FEND ∷ []) ++ items after

-- a frame as it is sent reads back as this frame and nothing else
abbrev pub FramesReadBack : Type 0
FramesReadBack =
    (port command : ℕ) (payload : List ℕ) → port ≤ 15 → command ≤ 15 → length payload ≤ 1023 →
    items (framed port command payload) ≡ Frame port command payload ∷ []

-- a frame of more bytes is too long as it is sent
abbrev pub LongFramesAreTooLong : Type 0
LongFramesAreTooLong = (port command : ℕ) (payload : List ℕ) → 1023 < length payload → items (framed port command payload) ≡ Too_long ∷ []
