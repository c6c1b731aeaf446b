-- What a deframer holds and gives, a byte at a time, is what the whole stream says.
use Rattle.std.proofs.Common.{◌≡◌, ℕ, Bool, true, false, ◌==◌, if◌then◌else◌, not, ◌&&◌, List, [], ◌∷◌, ◌++◌, refl, ap, sym, ◌∙◌, append_assoc, arith}
use Rattle.std.proofs.lemmas.List.{append-nil}
use Rattle.std.proofs.lemmas.Grind.{common_steps, flat_map-append}
use Rattle.kiss_framing.specs.declared.TheConstants.{FEND, FESC, TFEND, TFESC}
use Rattle.kiss_framing.specs.Stream.{Item, Too_long, meaning, unescaped, is_too_long, ended_items, open_items, open_piece, given_by_byte, items, HeldPiece, Piece, Skipped, held_of, ends_in_escape, StandsFor}
use Rattle.kiss_framing.specs.Laws.{BytesAdd}
use Rattle.kiss_framing.specs.Stepping.{grown, after_fend, within, step}
use Rattle.kiss_framing.proofs.Escapes.{added, waits, longer}
use Rattle.kiss_framing.proofs.Pieces.{cut_of, given_by, items_of_front, last_of_front}

-- what is held of these unescaped bytes
abbrev pub held_by : List ℕ → Bool → HeldPiece
held_by bytes in_escape = if is_too_long bytes then Skipped else Piece bytes in_escape

-- by one byte that is no FEND, of a piece with these unescaped bytes to one with those
pub record Goes (bytes : List ℕ) (in_escape : Bool) (b : ℕ) (bytes' : List ℕ) (in_escape' : Bool) : Type 0 where
  pub held : (within (held_by bytes in_escape) b).0 ≡ held_by bytes' in_escape'
  pub items : open_items bytes' ≡ open_items bytes ++ (within (held_by bytes in_escape) b).1

-- a piece that was too long stays so
stays_too_long : (bytes more : List ℕ) → is_too_long bytes ≡ true → is_too_long (bytes ++ more) ≡ true
stays_too_long bytes more h = grind (arith, common_steps)

skips : (bytes : List ℕ) (in_escape : Bool) (b : ℕ) (more : List ℕ) (in_escape' : Bool) → is_too_long bytes ≡ true → Goes bytes in_escape b (bytes ++ more) in_escape'
skips bytes in_escape b more in_escape' h =
    let stays = stays_too_long bytes more h in record { held = rw (h, stays) refl; items = rw (h, stays) refl }

-- of a piece that has room, with one byte more or none
grows : (bytes more : List ℕ) (t : Bool) → is_too_long (bytes ++ more) ≡ t → (grown (bytes ++ more)).0 ≡ held_by (bytes ++ more) false
grows bytes more true e = rw e refl
grows bytes more false e = rw e refl

gives : (bytes : List ℕ) (t : Bool) → is_too_long bytes ≡ t → open_items bytes ≡ (grown bytes).1
gives bytes true e = rw e refl
gives bytes false e = rw e refl

by_escape : (bytes : List ℕ) (b : ℕ) (fend fesc : Bool) → is_too_long bytes ≡ false → (b == TFEND) ≡ fend → (b == TFESC) ≡ fesc → Goes bytes true b (bytes ++ meaning b) false
by_escape bytes b true fesc room e f =
    record { held = rw (room, e) (grows bytes (FEND ∷ []) _ refl); items = rw (room, e) (gives (bytes ++ FEND ∷ []) _ refl) }
by_escape bytes b false true room e f =
    record { held = rw (room, e, f) (grows bytes (FESC ∷ []) _ refl); items = rw (room, e, f) (gives (bytes ++ FESC ∷ []) _ refl) }
by_escape bytes b false false room e f =
    record { held = rw (room, e, f, append-nil, room) refl; items = rw (room, e, f, append-nil, room) refl }

by_plain : (bytes : List ℕ) (b : ℕ) (fesc : Bool) → is_too_long bytes ≡ false → (b == FESC) ≡ fesc → Goes bytes false b (bytes ++ added false b) (waits false b)
by_plain bytes b true room e =
    record { held = rw (room, e, append-nil, room) refl; items = rw (room, e, append-nil, room) refl }
by_plain bytes b false room e =
    record { held = rw (room, e) (grows bytes (b ∷ []) _ refl); items = rw (room, e) (gives (bytes ++ b ∷ []) _ refl) }

goes_by : (bytes : List ℕ) (in_escape : Bool) (b : ℕ) (t : Bool) → is_too_long bytes ≡ t → Goes bytes in_escape b (bytes ++ added in_escape b) (waits in_escape b)
goes_by bytes in_escape b true h = skips bytes in_escape b (added in_escape b) (waits in_escape b) h
goes_by bytes true b false h = by_escape bytes b (b == TFEND) (b == TFESC) h refl refl
goes_by bytes false b false h = by_plain bytes b (b == FESC) h refl

goes : (piece : List ℕ) (b : ℕ) → Goes (unescaped piece) (ends_in_escape piece) b (unescaped (piece ++ b ∷ [])) (ends_in_escape (piece ++ b ∷ []))
goes piece b =
    let more = longer piece b in
    rw (more.bytes, more.in_escape) (goes_by (unescaped piece) (ends_in_escape piece) b _ refl)

-- a step of what is held is a step of the stream
pub record Steps (bytes : List ℕ) (b : ℕ) : Type 0 where
  pub held : StandsFor (step (held_of (open_piece bytes)) b).0 (bytes ++ b ∷ [])
  pub items : items (bytes ++ b ∷ []) ≡ items bytes ++ (step (held_of (open_piece bytes)) b).1

-- with its FEND a piece gives what it had given, and its frame
ended : (piece : List ℕ) (t : Bool) → is_too_long (unescaped piece) ≡ t →
    ended_items (unescaped piece) ≡ open_items (unescaped piece) ++ (after_fend (held_of piece)).1
ended piece true e = rw e refl
ended piece false e = rw e refl

emptied : (piece : List ℕ) (t : Bool) → is_too_long (unescaped piece) ≡ t → (after_fend (held_of piece)).0 ≡ held_of []
emptied piece true e = rw e refl
emptied piece false e = rw e refl

-- what the ended pieces give, and the last one with its FEND
given_with : (front : List (List ℕ)) (last : List ℕ) →
    given_by (front ++ last ∷ []) ++ [] ≡ (given_by front ++ open_items (unescaped last)) ++ (after_fend (held_of last)).1
given_with front last =
    append-nil (given_by (front ++ last ∷ []))
    ∙ flat_map-append (λ piece. ended_items (unescaped piece)) front (last ∷ [])
    ∙ ap (λ more. given_by front ++ more) (append-nil (ended_items (unescaped last)) ∙ ended last _ refl)
    ∙ sym (append_assoc (given_by front) (open_items (unescaped last)) _)

at_fend : (bytes : List ℕ) (b : ℕ) → (b == FEND) ≡ true → Steps bytes b
at_fend bytes b e =
    let c = cut_of bytes in
    record {
      held = rw (e, c.ended b [] e, c.whole, last_of_front c.front c.last, last_of_front (c.front ++ c.last ∷ []) []) (emptied c.last _ refl);
      items = rw (e, c.ended b [] e, c.whole, last_of_front c.front c.last, items_of_front c.front c.last, items_of_front (c.front ++ c.last ∷ []) []) (given_with c.front c.last);
    }

elsewhere : (bytes : List ℕ) (b : ℕ) → (b == FEND) ≡ false → Steps bytes b
elsewhere bytes b e =
    let c = cut_of bytes in let g = goes c.last b in
    record {
      held = rw (e, c.longer b e, c.whole, last_of_front c.front c.last, last_of_front c.front (c.last ++ b ∷ [])) g.held;
      items = rw (e, c.longer b e, c.whole, last_of_front c.front c.last, items_of_front c.front c.last, items_of_front c.front (c.last ++ b ∷ []))
          (ap (λ more. given_by c.front ++ more) g.items ∙ sym (append_assoc (given_by c.front) (open_items (unescaped c.last)) _));
    }

by_test : (bytes : List ℕ) (b : ℕ) (t : Bool) → (b == FEND) ≡ t → Steps bytes b
by_test bytes b true e = at_fend bytes b e
by_test bytes b false e = elsewhere bytes b e

pub steps : (bytes : List ℕ) (b : ℕ) → Steps bytes b
steps bytes b = by_test bytes b (b == FEND) refl

-- what the deframer gives by a byte is what the byte gives
at_fend_given : (bytes : List ℕ) (b : ℕ) (t : Bool) → (b == FEND) ≡ true → is_too_long (unescaped (open_piece bytes)) ≡ t →
    (step (held_of (open_piece bytes)) b).1 ≡ given_by_byte bytes b
at_fend_given bytes b true e h = rw (e, h) refl
at_fend_given bytes b false e h = rw (e, h) refl

elsewhere_given : (bytes : List ℕ) (in_escape : Bool) (b : ℕ) (bytes' : List ℕ) (in_escape' : Bool) (t : Bool) → Goes bytes in_escape b bytes' in_escape' → is_too_long bytes ≡ t →
    (within (held_by bytes in_escape) b).1 ≡ (if not (is_too_long bytes) && is_too_long bytes' then Too_long ∷ [] else [])
elsewhere_given bytes in_escape b bytes' in_escape' true g h = rw h refl
elsewhere_given bytes in_escape b bytes' in_escape' false g h = rw h (sym (rw h at g.items))

given : (bytes : List ℕ) (b : ℕ) (t : Bool) → (b == FEND) ≡ t → (step (held_of (open_piece bytes)) b).1 ≡ given_by_byte bytes b
given bytes b true e = at_fend_given bytes b _ e refl
given bytes b false e =
    let c = cut_of bytes in
    rw (e, c.longer b e, c.whole, last_of_front c.front c.last, last_of_front c.front (c.last ++ b ∷ []))
    (elsewhere_given _ _ b _ _ _ (goes c.last b) refl)

pub bytes_add : BytesAdd
bytes_add bytes b = (steps bytes b).items ∙ ap (λ more. items bytes ++ more) (given bytes b _ refl)

-- what a deframer is and gives after one byte more
pub record Fed (held : HeldPiece) (b : ℕ) (later : HeldPiece) (handed_out : List Item) : Type 0 where
  pub goes_on : (stream : List ℕ) → StandsFor held stream → StandsFor later (stream ++ b ∷ [])
  pub adds : (stream : List ℕ) → StandsFor held stream → items (stream ++ b ∷ []) ≡ items stream ++ handed_out
  pub exact : (stream : List ℕ) → StandsFor held stream → handed_out ≡ given_by_byte stream b

pub fed : (held : HeldPiece) (b : ℕ) (later : HeldPiece) (handed_out : List Item) → (later, handed_out) ≡ step held b → Fed held b later handed_out
fed held b later handed_out e =
    record {
      goes_on = λ stream h. ap (λ s. s.0) e ∙ rw h (steps stream b).held;
      adds = λ stream h. (steps stream b).items ∙ ap (λ more. items stream ++ more) (sym (rw h at (ap (λ s. s.1) e)));
      exact = λ stream h. rw h at (ap (λ s. s.1) e) ∙ given stream b _ refl;
    }
