-- A text in pieces.
use Rattle.std.proofs.Common.{◌≡◌, ◌<◌, ◌≤◌, ◌++◌, ◌∷◌, [], ℕ, zero, suc, List, refl, ap, arith, drop, length, length-drop, min, take}
use Rattle.std.proofs.lemmas.List.{drop_min, take_min}
use Rattle.station_live.specs.Lives.{piece_text, pieces_text, told_frames}

-- where there may be as many as bytes, those are all
all_pieces : (n m at : ℕ) (text : List ℕ) → length text ≤ n → length text ≤ m → pieces_text n at text ≡ pieces_text m at text
all_pieces zero zero at text h k = refl
all_pieces zero (suc m) at [] h k = refl
all_pieces zero (suc m) at (b ∷ bs) h k = absurd (omega (arith, h))
all_pieces (suc n) zero at [] h k = refl
all_pieces (suc n) zero at (b ∷ bs) h k = absurd (omega (arith, k))
all_pieces (suc n) (suc m) at [] h k = refl
all_pieces (suc n) (suc m) at (b ∷ bs) h k =
    ap (λ rest. piece_text at (take 1000 (b ∷ bs)) ++ rest)
    (all_pieces n m at (drop 1000 (b ∷ bs)) (omega (arith, h, length-drop 1000 (b ∷ bs))) (omega (arith, k, length-drop 1000 (b ∷ bs))))

first_piece : (at : ℕ) (text : List ℕ) → 0 < length text → told_frames at text ≡ piece_text at (take 1000 text) ++ told_frames at (drop 1000 text)
first_piece at [] h = absurd (omega (arith, h))
first_piece at (b ∷ bs) h =
    ap (λ rest. piece_text at (take 1000 (b ∷ bs)) ++ rest)
    (all_pieces (length bs) (length (drop 1000 (b ∷ bs))) at (drop 1000 (b ∷ bs)) (omega (arith, length-drop 1000 (b ∷ bs))) (omega arith))

-- the first one, and the rest
pub told_next : (at count : ℕ) (text : List ℕ) → 0 < length text → count ≡ min (length text) 1000
    → told_frames at text ≡ piece_text at (take count text) ++ told_frames at (drop count text)
told_next at count text h is =
    let turned : count ≡ min 1000 (length text) = omega (arith, is) in
    rw (turned, take_min 1000 text, drop_min 1000 text) (first_piece at text h)
