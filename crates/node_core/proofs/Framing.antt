-- A frame that comes without its KISS bytes.
use Rattle.std.proofs.Common.{◌≡◌, ◌∙◌, ℕ, List, [], ◌∷◌, ◌++◌, ap, append_assoc, sym}
use Rattle.std.specs.List.{flat_map}
use Rattle.kiss_framing.specs.declared.TheConstants.{FEND}
use Rattle.kiss_framing.specs.Stream.{HeldPiece, StandsFor, held_of, escape_of, framed, Item, items, open_piece}
use Rattle.kiss_framing.specs.Laws.{FendEnds, FendParts}

-- behind a stream it gives what the FEND before it does, and then itself
pub frame_adds : FendParts → (stream octets : List ℕ) (given own : List Item) → items (stream ++ FEND ∷ []) ≡ items stream ++ given → items (framed 0 0 octets) ≡ own
    → items (stream ++ framed 0 0 octets) ≡ items stream ++ (given ++ own)
frame_adds parts stream octets given own e f =
    let tail : List ℕ = flat_map escape_of (0 ∷ octets) ++ FEND ∷ [] in
    let whole : items tail ≡ own = sym (parts [] tail) ∙ f in
    parts stream tail ∙ (ap (λ is. is ++ items tail) e ∙ (append_assoc (items stream) given (items tail) ∙ ap (λ is. items stream ++ (given ++ is)) whole))

-- it leaves no more held than the FEND before it
pub frame_held : FendEnds → (held : HeldPiece) (stream octets : List ℕ) → StandsFor held (stream ++ FEND ∷ []) → StandsFor held (stream ++ framed 0 0 octets)
frame_held ends held stream octets h =
    let front : List ℕ = stream ++ FEND ∷ flat_map escape_of (0 ∷ octets) in
    let behind : open_piece (stream ++ framed 0 0 octets) ≡ [] =
    ap open_piece (sym (append_assoc stream (FEND ∷ flat_map escape_of (0 ∷ octets)) (FEND ∷ []))) ∙ ends front in
    h ∙ ap held_of (ends stream ∙ sym behind)
