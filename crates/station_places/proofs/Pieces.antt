-- A text in pieces.
use Rattle.std.proofs.Common.{◌≡◌, ◌∙◌, ◌≤◌, ◌<◌, ◌+◌, ◌-◌, ℕ, zero, suc, refl, sym, ap, arith, List, [], ◌∷◌, ◌++◌, length, length-drop, take, drop}
use Rattle.std.specs.Prelude.{min}
use Rattle.std.specs.List.{AllByRecursion}
use Rattle.std.proofs.lemmas.List.{length-take, take-append-drop}
use Rattle.station_places.specs.Giving.{first_pieces, pieces}
use Rattle.station_places.specs.Laws.{IsPiece, joined}

joined_first : (n size : ℕ) (text : List ℕ) → 1 ≤ size → length text ≤ n → joined (first_pieces n size text) ≡ text
joined_first n size [] some few = refl
joined_first zero size (o ∷ os) some few = absurd (omega (arith, few))
joined_first (suc n) size (o ∷ os) some few =
    let left : length (drop size (o ∷ os)) ≤ n = let d = length-drop size (o ∷ os) in omega (arith, d, few, some) in
    ap (λ (xs : List ℕ). take size (o ∷ os) ++ xs) (joined_first n size (drop size (o ∷ os)) some left) ∙ take-append-drop size (o ∷ os)

-- put together they are the text
pub joined_pieces : (size : ℕ) (text : List ℕ) → 1 ≤ size → joined (pieces size text) ≡ text
joined_pieces size text some = joined_first (length text) size text some (omega arith)

-- none is empty, and none too long
pub each_first : (n size : ℕ) (text : List ℕ) → 1 ≤ size → AllByRecursion (IsPiece size) (first_pieces n size text)
each_first n size [] some = tt
each_first zero size (o ∷ os) some = tt
each_first (suc n) size (o ∷ os) some =
    let l = length-take size (o ∷ os) in
    ((omega (arith, l, some), omega (arith, l)), each_first n size (drop size (o ∷ os)) some)

-- the first one, and the others
pub first_and_others : (n size : ℕ) (text : List ℕ) → 1 ≤ length text → length text ≤ n
    → first_pieces n size text ≡ take size text ∷ first_pieces (n - 1) size (drop size text)
first_and_others n size [] some few = absurd (omega (arith, some))
first_and_others zero size (o ∷ os) some few = absurd (omega (arith, few))
first_and_others (suc n) size (o ∷ os) some few = let less : suc n - 1 ≡ n = omega arith in rw less refl

pub none_left : (n size : ℕ) (text : List ℕ) → length text ≡ 0 → first_pieces n size text ≡ []
none_left n size [] e = refl
none_left n size (o ∷ os) e = absurd (omega (arith, e))
