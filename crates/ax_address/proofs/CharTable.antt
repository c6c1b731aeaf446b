-- The table of the octets that are a call's characters, against what those are.
use Rattle.std.proofs.Common.{◌≡◌, ◌<◌, ◌+◌, ℕ, zero, suc, refl, sym, List, [], ◌∷◌, length, get_or, arith, Bool, true, false}
use Rattle.std.specs.Prelude.{◌&&◌, ◌==◌, not, codes}
use Rattle.std.proofs.lemmas.Bool.{and_parts}
use Rattle.ax_address.specs.Octets.{is_char_octet}

abbrev pub table : List ℕ
table = codes "................................................................................................0.1.2.3.4.5.6.7.8.9...............A.B.C.D.E.F.G.H.I.J.K.L.M.N.O.P.Q.R.S.T.U.V.W.X.Y.Z..........................................................................."

abbrev same : Bool → Bool → Bool
same true b = b
same false b = not b

same_is : (a b : Bool) → same a b ≡ true → a ≡ b
same_is true b h = sym h
same_is false true h = absurd cc
same_is false false h = refl

-- the marks from the octet o on are right
abbrev are_right : ℕ → List ℕ → Bool
are_right o [] = true
are_right o (mark ∷ marks) = same (not (mark == 46)) (is_char_octet o) && are_right (o + 1) marks

each_is_right : (o : ℕ) (marks : List ℕ) → are_right o marks ≡ true → (k : ℕ) → k < length marks → not (get_or marks k 0 == 46) ≡ is_char_octet (o + k)
each_is_right o [] h k lt = absurd (omega arith)
each_is_right o (mark ∷ marks) h zero lt =
    let e : o + 0 ≡ o = omega arith in
    rw e (same_is (not (mark == 46)) (is_char_octet o) (and_parts (same (not (mark == 46)) (is_char_octet o)) (are_right (o + 1) marks) h).0)
each_is_right o (mark ∷ marks) h (suc k) lt =
    let e : o + suc k ≡ (o + 1) + k = omega arith in
    rw e (each_is_right (o + 1) marks (and_parts (same (not (mark == 46)) (is_char_octet o)) (are_right (o + 1) marks) h).1 k (omega arith))

-- the octet is marked where it is a character
pub marked : (o : ℕ) → o < 256 → not (get_or table o 0 == 46) ≡ is_char_octet o
marked o lt = let e : 0 + o ≡ o = omega arith in rw e at (each_is_right 0 table refl o lt)
