-- A text is cut piece by piece from its front.
use Rattle.std.proofs.Common.{◌≡◌, ℕ, zero, suc, ◌+◌, ◌-◌, ◌*◌, ◌/◌, ◌<◌, ◌≤◌, min, List, [], ◌∷◌, ◌++◌, length, take, drop, refl, ap, sym, ◌∙◌, arith, length-drop, length-take-le, take-append-drop}
use Rattle.std.proofs.lemmas.List.{append-nil, take_all, drop_all, take_min, drop_min}
use Rattle.ax_segment.specs.declared.TheConstants.{FIRST_BIT, FULL_PIECE}
use Rattle.ax_segment.specs.Segments.{pieces, cut, counted_down, with_first, segments_of}
use Rattle.ax_segment.specs.Laws.{joined, AreFull, PiecesAreFull}

length-pieces : (n : ℕ) (text : List ℕ) → length (pieces n text) ≡ n + 1
length-pieces zero text = refl
length-pieces (suc n) text = omega (arith, length-pieces n (drop FULL_PIECE text))

length-counted_down : (ps : List (List ℕ)) → length (counted_down ps) ≡ length ps
length-counted_down [] = refl
length-counted_down (p ∷ ps) = ap suc (length-counted_down ps)

pub length-with_first : (ps : List (List ℕ)) → length (with_first ps) ≡ length ps
length-with_first [] = refl
length-with_first (p ∷ ps) = ap suc (length-counted_down ps)

-- how many segments a message has
pub length_segments : (pid : ℕ) (message : List ℕ) → length (segments_of pid message) ≡ length message / FULL_PIECE + 1
length_segments pid message =
    length-with_first (cut (pid ∷ message)) ∙ length-pieces (length message / FULL_PIECE) (pid ∷ message)

length-cut : (text : List ℕ) → 0 < length text → length (cut text) ≡ (length text - 1) / FULL_PIECE + 1
length-cut [] h = absurd (omega arith)
length-cut (x ∷ xs) h =
    let e : suc (length xs) - 1 ≡ length xs = omega arith in rw e (length-pieces (length xs / FULL_PIECE) (x ∷ xs))

-- the pieces, by their number
cut_by : (n : ℕ) (text : List ℕ) → 0 < length text → (length text - 1) / FULL_PIECE ≡ n → pieces n text ≡ cut text
cut_by n [] h e = absurd (omega arith)
cut_by n (x ∷ xs) h e =
    let f : suc (length xs) - 1 ≡ length xs = omega arith in
    let g = rw f at e in
    rw (sym g) refl

next_by : (n : ℕ) (text : List ℕ) → 0 < length text → (length text - 1) / FULL_PIECE ≡ n → pieces n text ≡ take FULL_PIECE text ∷ cut (drop FULL_PIECE text)
next_by zero text h e =
    let short : length text ≤ FULL_PIECE = omega arith in
    rw (take_all FULL_PIECE text short, drop_all FULL_PIECE text short) refl
next_by (suc n) text h e =
    let long : 0 < length (drop FULL_PIECE text) = omega (arith, length-drop FULL_PIECE text) in
    let fewer : (length (drop FULL_PIECE text) - 1) / FULL_PIECE ≡ n = omega (arith, length-drop FULL_PIECE text) in
    ap (λ ps. take FULL_PIECE text ∷ ps) (cut_by n (drop FULL_PIECE text) long fewer)

-- a full piece, or all that is there, and then the rest
pub cut_next : (text : List ℕ) → 0 < length text → cut text ≡ take FULL_PIECE text ∷ cut (drop FULL_PIECE text)
cut_next text h = sym (cut_by _ text h refl) ∙ next_by _ text h refl

joined_pieces : (n : ℕ) (text : List ℕ) → joined (pieces n text) ≡ text
joined_pieces zero text = append-nil text
joined_pieces (suc n) text =
    ap (λ rest. take FULL_PIECE text ++ rest) (joined_pieces n (drop FULL_PIECE text)) ∙ take-append-drop FULL_PIECE text

full_pieces : (n : ℕ) (text : List ℕ) → n * FULL_PIECE < length text → length text ≤ n * FULL_PIECE + FULL_PIECE → AreFull (pieces n text)
full_pieces zero text more most = (omega arith, omega arith)
full_pieces (suc zero) text more most = (
  length-take-le FULL_PIECE text (omega arith),
  full_pieces zero (drop FULL_PIECE text) (omega (arith, length-drop FULL_PIECE text)) (omega (arith, length-drop FULL_PIECE text)),
)
full_pieces (suc (suc n)) text more most = (
  length-take-le FULL_PIECE text (omega arith),
  full_pieces (suc n) (drop FULL_PIECE text) (omega (arith, length-drop FULL_PIECE text)) (omega (arith, length-drop FULL_PIECE text)),
)

pub pieces_are_full : PiecesAreFull
pieces_are_full [] = (refl, tt)
pieces_are_full (x ∷ xs) =
    (joined_pieces (length xs / FULL_PIECE) (x ∷ xs), full_pieces (length xs / FULL_PIECE) (x ∷ xs) (omega arith) (omega arith))

-- what a split gives first, and what it has left
pub first_given : (pid : ℕ) (left : List ℕ) → segments_of pid left ≡ ((FIRST_BIT + length left / FULL_PIECE) ∷ pid ∷ take (min 254 (length left)) left) ∷ counted_down (cut (drop (min 254 (length left)) left))
first_given pid left =
    let next = cut_next (pid ∷ left) (omega arith) in
    let count : length (cut (drop 254 left)) ≡ length left / FULL_PIECE = omega (arith, ap length next, length-pieces (length left / FULL_PIECE) (pid ∷ left)) in
    rw (next, take_min 254 left, drop_min 254 left, count) refl

-- what it gives then
pub next_given : (left : List ℕ) → 0 < length left → counted_down (cut left) ≡ (((length left - 1) / FULL_PIECE) ∷ take (min FULL_PIECE (length left)) left) ∷ counted_down (cut (drop (min FULL_PIECE (length left)) left))
next_given left h =
    let next = cut_next left h in
    let count : length (cut (drop FULL_PIECE left)) ≡ (length left - 1) / FULL_PIECE = omega (arith, ap length next, length-cut left h) in
    rw (next, take_min FULL_PIECE left, drop_min FULL_PIECE left, count) refl
