-- What is shown of stations that are tried: lines, each behind the number of its station where there are several. Own profile.
use Rattle.std.specs.Prelude.{ℕ, ◌+◌, ◌≡◌, ◌==◌, ◌++◌, min, is_some, List, [], ◌∷◌, Option, Some, None, Bool, true, false, codes, if◌then◌else◌}
use Rattle.std.specs.Fmt.{decimal}
use Rattle.frame_lines.specs.Listing.{Lists}
use Rattle.kiss_framing.specs.Stream.{Frame}
use Rattle.station_ports.specs.declared.port_frame.PortFrame.{PortFrame}

-- bytes, or the line of a frame: its sequence numbers count modulo the first number, and the second is the one of its port
pub data Piece : Type 0 where
  Bytes : List ℕ → Piece
  Line : ℕ → ℕ → List ℕ → Piece

pub record Shown : Type 0 where
  pub numbers : Bool  -- there are several stations
  pub unended : Option ℕ  -- the station whose line hasn't ended
  pub pieces : List Piece  -- those since they were taken last

abbrev pub new_shown : Bool → Shown
new_shown numbers = record { numbers = numbers; unended = None; pieces = [] }

abbrev pub add : Piece → Shown → Shown
add piece s = record s { pieces = s.pieces ++ piece ∷ [] }

-- the number of a station, from 1
abbrev pub begin_line : ℕ → Shown → Shown
begin_line station s = if s.numbers then add (Bytes (codes ": ")) (add (Bytes (decimal (station + 1))) s) else s

abbrev pub closed : Shown → Shown
closed s = record s { unended = None }

-- a line that is open is ended
abbrev pub end_line : Shown → Shown
end_line s = if is_some s.unended then closed (add (Bytes (codes "\n")) s) else s

abbrev pub is_at : ℕ → Option ℕ → Bool
is_at station None = false
is_at station (Some at) = at == station

abbrev pub opened : ℕ → Shown → Shown
opened station s = record s { unended = Some station }

-- the line of the station is open: another's is ended
abbrev pub need_line : ℕ → Shown → Shown
need_line station s = if is_at station s.unended then s else opened station (begin_line station (end_line s))

-- a CR ends the line
abbrev pub tell_byte : ℕ → ℕ → Shown → Shown
tell_byte station byte s =
    if byte == 13 then end_line (need_line station s) else add (Bytes (byte ∷ [])) (need_line station s)

-- what the console of a station is told
abbrev pub tell : ℕ → List ℕ → Shown → Shown
tell station [] s = s
tell station (b ∷ bs) s = tell station bs (tell_byte station b s)

abbrev pub size_of : Bool → ℕ
size_of is_extended = if is_extended then 128 else 8

abbrev pub line_of : PortFrame → Piece
line_of frame = Line (size_of frame.is_extended) (min (frame.port + 1) 255) frame.octets

-- a frame that a station sends: its line, with the number of its port
abbrev pub show : ℕ → PortFrame → Shown → Shown
show station frame s = add (line_of frame) (begin_line station (end_line s))

-- the pieces are taken
abbrev pub taken : Shown → Shown
taken s = record s { pieces = [] }

-- the text has the pieces, in order
abbrev pub Spells : List Piece → List ℕ → Type 0
Spells [] text = text ≡ []
Spells (Bytes octets ∷ more) text = (rest : List ℕ) × Spells more rest × (text ≡ octets ++ rest)
Spells (Line size port octets ∷ more) text =
    (line : List ℕ) × (rest : List ℕ) × Lists size (Frame port 0 octets ∷ []) line × Spells more rest × (text ≡ line ++ rest)
