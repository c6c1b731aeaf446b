use Rattle.std.proofs.Common.{◌≡◌, ◌≤◌, ◌<◌, ◌*◌, ◌+◌, ◌-◌, ◌∙◌, ℕ, suc, List, [], ◌∷◌, arith, sym, ap, drop, drop-cons, length, get_or, false}
use Rattle.std.specs.Prelude.{nat_le}
use Rattle.std.proofs.lemmas.Bool.Decides.{nat_tests}
use Rattle.text_lines.specs.Lines.{value_onto}

-- more digits make a number no smaller
pub value_onto_ge : (n : ℕ) (ds : List ℕ) → n ≤ value_onto n ds
value_onto_ge n [] = omega arith
value_onto_ge n (d ∷ ds) = omega (arith, value_onto_ge (n * 10 + (d - 48)) ds)

-- a number whose front is too large is too large
pub over : (word : List ℕ) (i v most : ℕ) → i < length word → value_onto v (drop i word) ≡ value_onto 0 word → most < v * 10 + (get_or word i 0 - 48) → nat_le (value_onto 0 word) most ≡ false
over word i v most within told more =
    let e : value_onto (v * 10 + (get_or word i 0 - 48)) (drop (suc i) word) ≡ value_onto 0 word = ap (value_onto v) (sym (drop-cons word i 0 within)) ∙ told in
    let big = value_onto_ge (v * 10 + (get_or word i 0 - 48)) (drop (suc i) word) in
    let far : most < value_onto 0 word = omega (arith, big, e) in
    grind (arith, nat_tests)
