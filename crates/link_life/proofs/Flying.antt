-- Frames that set out, one after another.
use Rattle.std.proofs.Common.{◌≡◌, ℕ, List, [], ◌∷◌, ◌++◌, drop, Some, slice_get, map, ap, sym, ◌∙◌, append_assoc}
use Rattle.std.specs.List.{flat_map}
use Rattle.std.proofs.lemmas.List.{map-append}
use Rattle.ax_link.specs.declared.out.LinkOut.{LinkOut}
use Rattle.ax_link.specs.Standing.{frame_of}
use Rattle.link_life.specs.declared.act.Side.{Side}
use Rattle.link_life.specs.declared.flight.Flight.{Flight as FlightKept}
use Rattle.link_life.specs.Ends.{Flight, flights}
use Rattle.link_life.specs.Reports.{air_line}
use Rattle.link_life.specs.Standing.{flight_of}

-- the lines of frames that wait
abbrev pub lines_of : ℕ → Side → List LinkOut → List ℕ
lines_of size side outs = flat_map (air_line size) (map (λ f. (side, f)) (map (frame_of size) outs))

-- the frames, once they are under way
abbrev pub flights_of : ℕ → ℕ → ℕ → List LinkOut → List Flight
flights_of size now epoch outs = flights now epoch (map (frame_of size) outs)

-- the oldest frame has gone out, and the others are still to go
pub line_out : (size : ℕ) (side : Side) (out : LinkOut) (old new : List LinkOut) (ts us : List ℕ) → slice_get old 0 ≡ Some out → new ≡ drop 1 old →
    us ≡ ts ++ air_line size (side, frame_of size out) → us ++ lines_of size side new ≡ ts ++ lines_of size side old
line_out size side out old new ts us first rest one =
    ap (λ xs. us ++ lines_of size side xs) rest ∙ ap (λ ys. ys ++ lines_of size side (drop 1 old)) one ∙ by old first
  where
    by : (xs : List LinkOut) → slice_get xs 0 ≡ Some out → (ts ++ air_line size (side, frame_of size out)) ++ lines_of size side (drop 1 xs) ≡ ts ++ lines_of size side xs
    by [] e = absurd (cc e)
    by (x ∷ xs) e =
        let same : x ≡ out = cc e in
        append_assoc ts (air_line size (side, frame_of size out)) (lines_of size side xs)
        ∙ ap (λ y. ts ++ (air_line size (side, frame_of size y) ++ lines_of size side xs)) (sym same)

pub flight_out : (size now epoch : ℕ) (out : LinkOut) (old new : List LinkOut) (cs ds : List FlightKept) → slice_get old 0 ≡ Some out → new ≡ drop 1 old →
    ds ≡ cs ++ record { sent = now; epoch = epoch; out = out } ∷ [] →
    map (flight_of size) ds ++ flights_of size now epoch new ≡ map (flight_of size) cs ++ flights_of size now epoch old
flight_out size now epoch out old new cs ds first rest one =
    ap (λ xs. map (flight_of size) ds ++ flights_of size now epoch xs) rest
    ∙ ap (λ ys. map (flight_of size) ys ++ flights_of size now epoch (drop 1 old)) one
    ∙ ap (λ ys. ys ++ flights_of size now epoch (drop 1 old)) (map-append (flight_of size) cs (record { sent = now; epoch = epoch; out = out } ∷ []))
    ∙ by old first
  where
    by : (xs : List LinkOut) → slice_get xs 0 ≡ Some out →
        (map (flight_of size) cs ++ flight_of size (record { sent = now; epoch = epoch; out = out }) ∷ []) ++ flights_of size now epoch (drop 1 xs)
        ≡ map (flight_of size) cs ++ flights_of size now epoch xs
    by [] e = absurd (cc e)
    by (x ∷ xs) e =
        let same : x ≡ out = cc e in
        append_assoc (map (flight_of size) cs) (flight_of size (record { sent = now; epoch = epoch; out = out }) ∷ []) (flights_of size now epoch xs)
        ∙ ap (λ (y : LinkOut). map (flight_of size) cs ++ flight_of size (record { sent = now; epoch = epoch; out = y }) ∷ flights_of size now epoch xs) (sym same)
