-- A frame as it is sent, read back.
use Rattle.std.proofs.Common.{◌≡◌, ℕ, ◌+◌, ◌*◌, ◌≤◌, Bool, true, false, ◌==◌, List, [], ◌∷◌, ◌++◌, refl, ap, sym, ◌∙◌, append_assoc, arith, ◌/◌, ◌%◌}
use Rattle.std.proofs.lemmas.Bool.{eqb-true}
use Rattle.std.proofs.lemmas.Bool.Decides.{nat_tests}
use Rattle.std.proofs.lemmas.List.{append-nil}
use Rattle.std.specs.List.{flat_map}
use Rattle.kiss_framing.specs.declared.TheConstants.{FEND, FESC}
use Rattle.kiss_framing.specs.Stream.{unescaped, pieces, items, is_too_long, last_piece, escape_of}
use Rattle.kiss_framing.specs.Laws.{FendEnds, FendParts, FramesReadBack, LongFramesAreTooLong}
use Rattle.kiss_framing.proofs.Pieces.{cut_of, items_behind, last_of_front}

-- what is escaped is got back
unescaped_one : (b : ℕ) (rest : List ℕ) (fend fesc : Bool) → (b == FEND) ≡ fend → (b == FESC) ≡ fesc →
    unescaped (escape_of b ++ rest) ≡ b ∷ unescaped rest
unescaped_one b rest true fesc e f = rw e (ap (λ x. x ∷ unescaped rest) (sym (eqb-true b FEND e)))
unescaped_one b rest false true e f = rw (e, f) (ap (λ x. x ∷ unescaped rest) (sym (eqb-true b FESC f)))
unescaped_one b [] false false e f = rw (e, f, f) refl
unescaped_one b (c ∷ rest) false false e f = rw (e, f, f) refl

pub unescaped-escaped : (bytes : List ℕ) → unescaped (flat_map escape_of bytes) ≡ bytes
unescaped-escaped [] = refl
unescaped-escaped (b ∷ bytes) = unescaped_one b (flat_map escape_of bytes) _ _ refl refl ∙ ap (λ more. b ∷ more) (unescaped-escaped bytes)

-- no FEND is in it, so that it's one piece
one_more : (b : ℕ) (rest : List ℕ) (piece : List ℕ) (more : List (List ℕ)) (fend fesc : Bool) → (b == FEND) ≡ fend → (b == FESC) ≡ fesc →
    pieces rest ≡ piece ∷ more → pieces (escape_of b ++ rest) ≡ (escape_of b ++ piece) ∷ more
one_more b rest piece more true fesc e f h = rw (e, h) refl
one_more b rest piece more false true e f h = rw (e, f, h) refl
one_more b rest piece more false false e f h = rw (e, f, e, h) refl

one_piece : (bytes : List ℕ) → pieces (flat_map escape_of bytes ++ FEND ∷ []) ≡ flat_map escape_of bytes ∷ [] ∷ []
one_piece [] = refl
one_piece (b ∷ bytes) =
    ap pieces (append_assoc (escape_of b) (flat_map escape_of bytes) (FEND ∷ []))
    ∙ one_more b (flat_map escape_of bytes ++ FEND ∷ []) _ _ _ _ refl refl (one_piece bytes)

pub fend_ends : FendEnds
fend_ends before =
    let c = cut_of before in
    ap last_piece (c.ended FEND [] refl) ∙ last_of_front (c.front ++ c.last ∷ []) []

pub fend_parts : FendParts
fend_parts before after =
    let c = cut_of before in
    rw (c.ended FEND after refl, c.ended FEND [] refl)
    (items_behind (c.front ++ c.last ∷ []) after ∙ ap (λ more. more ++ items after) (sym (append-nil _) ∙ sym (items_behind (c.front ++ c.last ∷ []) [])))

-- a type byte gives its port and its command back
head_reads_back : (port command : ℕ) → command ≤ 15 → ((port * 16 + command) / 16 ≡ port) × ((port * 16 + command) % 16 ≡ command)
head_reads_back port command h = (omega arith, omega arith)

pub frames_read_back : FramesReadBack
frames_read_back port command payload p c fits =
    let bytes : List ℕ = (port * 16 + command) ∷ payload in
    let head = head_reads_back port command c in
    let room : is_too_long bytes ≡ false = grind (arith, nat_tests) in
    rw (one_piece bytes, unescaped-escaped bytes, room, head.0, head.1) refl

pub long_are_too_long : LongFramesAreTooLong
long_are_too_long port command payload long =
    let bytes : List ℕ = (port * 16 + command) ∷ payload in
    let over : is_too_long bytes ≡ true = grind (arith, nat_tests, long) in
    rw (one_piece bytes, unescaped-escaped bytes, over) refl
