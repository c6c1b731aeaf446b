-- Parts of octets that are put into their places one by one.
use Rattle.std.proofs.Common.{ℕ, List, [], ◌∷◌, ◌++◌, ◌≡◌, refl, length, arith, slice_set}
use borrow.Rule.Slice.PartMut.{put_mid}

-- the third part, of seven octets, and the octet behind it
join_last : (a0 a1 a2 a3 a4 a5 a6 b0 b1 b2 b3 b4 b5 q : ℕ) (d : List ℕ) → length d ≡ 7
    → slice_set (put_mid 13 7 (put_mid 7 6 ((a0 ∷ a1 ∷ a2 ∷ a3 ∷ a4 ∷ a5 ∷ a6 ∷ []) ++ 0 ∷ 0 ∷ 0 ∷ 0 ∷ 0 ∷ 0 ∷ 0 ∷ 0 ∷ 0 ∷ 0 ∷ 0 ∷ 0 ∷ 0 ∷ 0 ∷ []) (b0 ∷ b1 ∷ b2 ∷ b3 ∷ b4 ∷ b5 ∷ [])) (d)) 20 q ≡ (a0 ∷ a1 ∷ a2 ∷ a3 ∷ a4 ∷ a5 ∷ a6 ∷ []) ++ (b0 ∷ b1 ∷ b2 ∷ b3 ∷ b4 ∷ b5 ∷ []) ++ (d) ++ q ∷ []
join_last a0 a1 a2 a3 a4 a5 a6 b0 b1 b2 b3 b4 b5 q (d0 ∷ d1 ∷ d2 ∷ d3 ∷ d4 ∷ d5 ∷ d6 ∷ []) h = refl
join_last a0 a1 a2 a3 a4 a5 a6 b0 b1 b2 b3 b4 b5 q [] h = absurd (omega arith)
join_last a0 a1 a2 a3 a4 a5 a6 b0 b1 b2 b3 b4 b5 q (d0 ∷ []) h = absurd (omega arith)
join_last a0 a1 a2 a3 a4 a5 a6 b0 b1 b2 b3 b4 b5 q (d0 ∷ d1 ∷ []) h = absurd (omega arith)
join_last a0 a1 a2 a3 a4 a5 a6 b0 b1 b2 b3 b4 b5 q (d0 ∷ d1 ∷ d2 ∷ []) h = absurd (omega arith)
join_last a0 a1 a2 a3 a4 a5 a6 b0 b1 b2 b3 b4 b5 q (d0 ∷ d1 ∷ d2 ∷ d3 ∷ []) h = absurd (omega arith)
join_last a0 a1 a2 a3 a4 a5 a6 b0 b1 b2 b3 b4 b5 q (d0 ∷ d1 ∷ d2 ∷ d3 ∷ d4 ∷ []) h = absurd (omega arith)
join_last a0 a1 a2 a3 a4 a5 a6 b0 b1 b2 b3 b4 b5 q (d0 ∷ d1 ∷ d2 ∷ d3 ∷ d4 ∷ d5 ∷ []) h = absurd (omega arith)
join_last a0 a1 a2 a3 a4 a5 a6 b0 b1 b2 b3 b4 b5 q (d0 ∷ d1 ∷ d2 ∷ d3 ∷ d4 ∷ d5 ∷ d6 ∷ e ∷ more) h = absurd (omega arith)

-- the second part, of six octets
join_middle : (a0 a1 a2 a3 a4 a5 a6 q : ℕ) (d b : List ℕ) → length d ≡ 7 → length b ≡ 6
    → slice_set (put_mid 13 7 (put_mid 7 6 ((a0 ∷ a1 ∷ a2 ∷ a3 ∷ a4 ∷ a5 ∷ a6 ∷ []) ++ 0 ∷ 0 ∷ 0 ∷ 0 ∷ 0 ∷ 0 ∷ 0 ∷ 0 ∷ 0 ∷ 0 ∷ 0 ∷ 0 ∷ 0 ∷ 0 ∷ []) (b)) (d)) 20 q ≡ (a0 ∷ a1 ∷ a2 ∷ a3 ∷ a4 ∷ a5 ∷ a6 ∷ []) ++ (b) ++ (d) ++ q ∷ []
join_middle a0 a1 a2 a3 a4 a5 a6 q d (b0 ∷ b1 ∷ b2 ∷ b3 ∷ b4 ∷ b5 ∷ []) seven h = join_last a0 a1 a2 a3 a4 a5 a6 b0 b1 b2 b3 b4 b5 q d seven
join_middle a0 a1 a2 a3 a4 a5 a6 q d [] seven h = absurd (omega arith)
join_middle a0 a1 a2 a3 a4 a5 a6 q d (b0 ∷ []) seven h = absurd (omega arith)
join_middle a0 a1 a2 a3 a4 a5 a6 q d (b0 ∷ b1 ∷ []) seven h = absurd (omega arith)
join_middle a0 a1 a2 a3 a4 a5 a6 q d (b0 ∷ b1 ∷ b2 ∷ []) seven h = absurd (omega arith)
join_middle a0 a1 a2 a3 a4 a5 a6 q d (b0 ∷ b1 ∷ b2 ∷ b3 ∷ []) seven h = absurd (omega arith)
join_middle a0 a1 a2 a3 a4 a5 a6 q d (b0 ∷ b1 ∷ b2 ∷ b3 ∷ b4 ∷ []) seven h = absurd (omega arith)
join_middle a0 a1 a2 a3 a4 a5 a6 q d (b0 ∷ b1 ∷ b2 ∷ b3 ∷ b4 ∷ b5 ∷ e ∷ more) seven h = absurd (omega arith)

-- 21 octets: seven, six and seven, each part put into its place, and one more
pub joined : (a b d : List ℕ) (q : ℕ) → length a ≡ 7 → length b ≡ 6 → length d ≡ 7
    → slice_set (put_mid 13 7 (put_mid 7 6 (a ++ 0 ∷ 0 ∷ 0 ∷ 0 ∷ 0 ∷ 0 ∷ 0 ∷ 0 ∷ 0 ∷ 0 ∷ 0 ∷ 0 ∷ 0 ∷ 0 ∷ []) b) d) 20 q ≡ a ++ b ++ d ++ q ∷ []
joined (a0 ∷ a1 ∷ a2 ∷ a3 ∷ a4 ∷ a5 ∷ a6 ∷ []) b d q h six seven = join_middle a0 a1 a2 a3 a4 a5 a6 q d b seven six
joined [] b d q h six seven = absurd (omega arith)
joined (a0 ∷ []) b d q h six seven = absurd (omega arith)
joined (a0 ∷ a1 ∷ []) b d q h six seven = absurd (omega arith)
joined (a0 ∷ a1 ∷ a2 ∷ []) b d q h six seven = absurd (omega arith)
joined (a0 ∷ a1 ∷ a2 ∷ a3 ∷ []) b d q h six seven = absurd (omega arith)
joined (a0 ∷ a1 ∷ a2 ∷ a3 ∷ a4 ∷ []) b d q h six seven = absurd (omega arith)
joined (a0 ∷ a1 ∷ a2 ∷ a3 ∷ a4 ∷ a5 ∷ []) b d q h six seven = absurd (omega arith)
joined (a0 ∷ a1 ∷ a2 ∷ a3 ∷ a4 ∷ a5 ∷ a6 ∷ e ∷ more) b d q h six seven = absurd (omega arith)
