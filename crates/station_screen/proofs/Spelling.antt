-- One piece more, and its text.
use Rattle.std.proofs.Common.{◌≡◌, ◌<◌, ◌+◌, ◌++◌, ◌∙◌, ◌∷◌, [], ℕ, List, refl, sym, ap, append_assoc, append-nil, add-one, drop, drop-cons, get_or, length, subst}
use Rattle.std.specs.Prelude.{Bool, true, Option, codes, min, if◌then◌else◌}
use Rattle.std.specs.Fmt.{decimal}
use Rattle.frame_lines.specs.Listing.{Lists}
use Rattle.kiss_framing.specs.Stream.{Frame}
use Rattle.station_ports.specs.declared.port_frame.PortFrame.{PortFrame}
use Rattle.station_screen.specs.Screens.{Piece, Bytes, Line, Shown, Spells, add, begin_line, line_of, size_of, tell, tell_byte}
use Rattle.station_screen.specs.Standing.{Kept, ScreenStands, view_of}

-- bytes more
pub with_bytes : (pieces : List Piece) (text octets : List ℕ) → Spells pieces text → Spells (pieces ++ Bytes octets ∷ []) (text ++ octets)
with_bytes [] text octets e = ([], refl, ap (λ t. t ++ octets) e ∙ sym (append-nil octets))
with_bytes (Bytes bs ∷ more) text octets s =
    (s.0 ++ octets, with_bytes more s.0 octets s.1, ap (λ t. t ++ octets) s.2 ∙ append_assoc bs s.0 octets)
with_bytes (Line size port bs ∷ more) text octets s =
    (s.0, s.1 ++ octets, s.2, with_bytes more s.1 octets s.3, ap (λ t. t ++ octets) s.4 ∙ append_assoc s.0 s.1 octets)

-- a line more
pub with_line : (pieces : List Piece) (text line : List ℕ) (size port : ℕ) (octets : List ℕ) → Lists size (Frame port 0 octets ∷ []) line → Spells pieces text → Spells (pieces ++ Line size port octets ∷ []) (text ++ line)
with_line [] text line size port octets is e = (line, [], is, refl, ap (λ t. t ++ line) e ∙ sym (append-nil line))
with_line (Bytes bs ∷ more) text line size port octets is s =
    (s.0 ++ line, with_line more s.0 line size port octets is s.1, ap (λ t. t ++ line) s.2 ∙ append_assoc bs s.0 line)
with_line (Line size' port' bs ∷ more) text line size port octets is s =
    (s.0, s.1 ++ line, s.2, with_line more s.1 line size port octets is s.3, ap (λ t. t ++ line) s.4 ∙ append_assoc s.0 s.1 line)

-- ---- the screen

pub adds_bytes : (numbers : Bool) (unended : Option ℕ) (text new octets : List ℕ) (s : Shown) → new ≡ text ++ octets → ScreenStands (view_of numbers unended text) s → ScreenStands (view_of numbers unended new) (add (Bytes octets) s)
adds_bytes numbers unended text new octets s e stands =
    record { numbers = stands.numbers; unended = stands.unended; spells = rw e (with_bytes s.pieces text octets stands.spells) }

pub adds_line : (numbers : Bool) (unended : Option ℕ) (text new : List ℕ) (frame : PortFrame) (size port : ℕ) (octets line : List ℕ) (s : Shown) → size ≡ size_of frame.is_extended → port ≡ min (frame.port + 1) 255 → octets ≡ frame.octets → Lists size (Frame port 0 octets ∷ []) line → new ≡ text ++ line → ScreenStands (view_of numbers unended text) s → ScreenStands (view_of numbers unended new) (add (line_of frame) s)
adds_line numbers unended text new frame size port octets line s sizes ports same is e stands =
    record { numbers = stands.numbers; unended = stands.unended; spells = rw e (with_line s.pieces text line (size_of frame.is_extended) (min (frame.port + 1) 255) frame.octets (rw same at (rw ports at (rw sizes at is))) stands.spells) }

-- a byte of what is left to tell
pub tells_next : (station : ℕ) (told : List ℕ) (at : ℕ) (t : Shown) → at < length told → tell station (drop at told) t ≡ tell station (drop (at + 1) told) (tell_byte station (get_or told at 0) t)
tells_next station told at t h = rw (add-one at) (ap (λ bytes. tell station bytes t) (drop-cons told at 0 h))

-- the number of a station, where there are several
pub begins : (k : Kept) (station : ℕ) (s : Shown) → s.numbers ≡ true → ScreenStands k (add (Bytes (codes ": ")) (add (Bytes (decimal (station + 1))) s)) → ScreenStands k (begin_line station s)
begins k station s e stands =
    subst (λ t. ScreenStands k t) (sym (ap (λ b. if b then add (Bytes (codes ": ")) (add (Bytes (decimal (station + 1))) s) else s) e)) stands
