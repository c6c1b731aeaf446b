-- What a KISS stream holds, how a frame stands on one, and what a deframer holds of it (Chepponis and Karn, "The KISS TNC"; the rules
-- on faulty pieces are this project's profile).
use Rattle.std.specs.Prelude.{ℕ, ◌/◌, ◌%◌, Bool, ◌==◌, nat_lt, not, ◌&&◌, if◌then◌else◌, List, [], ◌∷◌, ◌++◌, length, ◌+◌, ◌*◌, ◌≡◌, false}
use Rattle.std.specs.List.{slice_split, flat_map}
use Rattle.kiss_framing.specs.declared.TheConstants.{FEND, FESC, TFEND, TFESC, LONGEST}

-- what a stream gives: frames, and pieces that are too long for one
pub data Item : Type 0 where
  Frame : (port command : ℕ) (payload : List ℕ) → Item
  Too_long : Item

-- what a FESC and this byte stand for: with a byte that KISS doesn't name, for nothing (this project's profile)
abbrev pub meaning : ℕ → List ℕ
meaning b = if b == TFEND then FEND ∷ [] else if b == TFESC then FESC ∷ [] else []

-- a piece without its escapes, from its left. A FESC at its end stands for nothing
abbrev pub unescaped : List ℕ → List ℕ
unescaped [] = []
unescaped (b ∷ []) = if b == FESC then [] else b ∷ []
unescaped (b ∷ c ∷ rest) = if b == FESC then meaning c ++ unescaped rest else b ∷ unescaped (c ∷ rest)

-- whether these unescaped bytes are too many for a frame (this project's profile)
abbrev pub is_too_long : List ℕ → Bool
is_too_long bytes = nat_lt LONGEST (length bytes)

-- what a piece has given before its FEND comes, by its unescaped bytes
abbrev pub open_items : List ℕ → List Item
open_items bytes = if is_too_long bytes then Too_long ∷ [] else []

-- the frame of these unescaped bytes, of which the first holds the port and the command
abbrev pub frame_of : List ℕ → List Item
frame_of [] = []
frame_of (head ∷ payload) = Frame (head / 16) (head % 16) payload ∷ []

-- what a piece has given with its FEND
abbrev pub ended_items : List ℕ → List Item
ended_items bytes = if is_too_long bytes then Too_long ∷ [] else frame_of bytes

-- the stream, cut at its FENDs. The last piece is the one that no FEND has ended
abbrev pub pieces : List ℕ → List (List ℕ)
pieces stream = slice_split (λ b. b == FEND) stream

-- what pieces give, in order, of which the last isn't ended
abbrev pub items_of_pieces : List (List ℕ) → List Item
items_of_pieces [] = []
items_of_pieces (piece ∷ []) = open_items (unescaped piece)
items_of_pieces (piece ∷ next ∷ rest) = ended_items (unescaped piece) ++ items_of_pieces (next ∷ rest)

-- the items of a stream, in order
abbrev pub items : List ℕ → List Item
items stream = items_of_pieces (pieces stream)

-- the piece that no FEND has ended yet
abbrev pub last_piece : List (List ℕ) → List ℕ
last_piece [] = []
last_piece (piece ∷ []) = piece
last_piece (piece ∷ next ∷ rest) = last_piece (next ∷ rest)

abbrev pub open_piece : List ℕ → List ℕ
open_piece stream = last_piece (pieces stream)

-- what one byte more gives. A FEND gives the frame of a piece of 1 to 1,024 unescaped bytes; another byte gives
-- Too_long where it is the one by which its piece has more
abbrev pub given_by_byte : List ℕ → ℕ → List Item
given_by_byte stream b =
    let before = unescaped (open_piece stream) in
    if b == FEND
    then (if is_too_long before then [] else frame_of before)
    else (if not (is_too_long before) && is_too_long (unescaped (open_piece (stream ++ b ∷ []))) then Too_long ∷ [] else [])

-- A frame on a KISS stream (Chepponis and Karn, "The KISS TNC").

-- how a byte of a frame is sent
abbrev pub escape_of : ℕ → List ℕ
escape_of b = if b == FEND then FESC ∷ TFEND ∷ [] else if b == FESC then FESC ∷ TFESC ∷ [] else b ∷ []

-- a frame as it is sent, by its type byte
abbrev pub octets_of : ℕ → List ℕ → List ℕ
octets_of head payload = FEND ∷ (flat_map escape_of (head ∷ payload) ++ FEND ∷ [])

-- a frame as it is sent: the type byte has the port in its high and the command in its low four bits
abbrev pub framed : ℕ → ℕ → List ℕ → List ℕ
framed port command payload = octets_of (port * 16 + command) payload

-- What a deframer holds of the bytes that it was fed.

-- what is held of the piece that no FEND has ended yet: its unescaped bytes, and whether it ends in the midst of an
-- escape; or only that it was too long
pub data HeldPiece : Type 0 where
  Piece : (bytes : List ℕ) (in_escape : Bool) → HeldPiece
  Skipped : HeldPiece

-- whether a piece ends behind a FESC that waits for its second byte
abbrev pub ends_in_escape : List ℕ → Bool
ends_in_escape [] = false
ends_in_escape (b ∷ []) = b == FESC
ends_in_escape (b ∷ c ∷ rest) = if b == FESC then ends_in_escape rest else ends_in_escape (c ∷ rest)

-- what is held of a piece
abbrev pub held_of : List ℕ → HeldPiece
held_of piece = if is_too_long (unescaped piece) then Skipped else Piece (unescaped piece) (ends_in_escape piece)

-- what is held where this stream was fed since the deframer was new
abbrev pub StandsFor : HeldPiece → List ℕ → Type 0
StandsFor held stream = held ≡ held_of (open_piece stream)

-- What a deframer keeps, in octets. Its buffer counts whole, since what was handed out stays in it until the next piece begins.
abbrev pub kept : HeldPiece → ℕ
kept held = 1024

-- how many unescaped bytes are held
abbrev pub pending_of : HeldPiece → ℕ
pending_of (Piece bytes in_escape) = length bytes
pending_of Skipped = 0
