use Rattle.std.proofs.Common.{◌≡◌, ◌-◌, ◌≤◌, ◌++◌, ◌∙◌, ℕ, List, length, take, drop, sym, ap, arith, append_assoc}
use Rattle.std.proofs.lemmas.List.{take_all, take-append-drop, length-drop}

-- the front that is written and what is left are all
pub parts : (all front rest : List ℕ) (n : ℕ) → n ≤ length rest → all ≡ front ++ rest → all ≡ (front ++ take n rest) ++ take (length rest - n) (drop n rest)
parts all front rest n h e =
    let t : take (length rest - n) (drop n rest) ≡ drop n rest = take_all (length rest - n) (drop n rest) (omega (arith, length-drop n rest)) in
    rw t (e ∙ (ap (λ xs. front ++ xs) (sym (take-append-drop n rest)) ∙ sym (append_assoc front (take n rest) (drop n rest))))
