-- What stands behind the first line of a text is the end of it.
use Rattle.std.proofs.Common.{◌≡◌, ◌≤◌, ◌-◌, ℕ, suc, refl, List, [], ◌∷◌, length, drop, arith, Bool, true, false, cond}
use Rattle.std.specs.Prelude.{◌==◌}
use Rattle.text_lines.specs.UserLines.{behind_line, without_lf}

lf_short_by : (t : Bool) (b : ℕ) (bs : List ℕ) → length (cond t bs (b ∷ bs)) ≤ length (b ∷ bs)
lf_short_by true b bs = omega arith
lf_short_by false b bs = omega arith

lf_short : (bs : List ℕ) → length (without_lf bs) ≤ length bs
lf_short [] = omega arith
lf_short (b ∷ bs) = lf_short_by (b == 10) b bs

short_by : (t : Bool) (b : ℕ) (bs : List ℕ) → length (behind_line bs) ≤ length bs
    → length (cond t (without_lf bs) (behind_line bs)) ≤ length (b ∷ bs)
short_by true b bs h = let l = lf_short bs in omega (arith, l)
short_by false b bs h = omega (arith, h)

pub behind_short : (bs : List ℕ) → length (behind_line bs) ≤ length bs
behind_short [] = omega arith
behind_short (b ∷ bs) = short_by (b == 13) b bs (behind_short bs)

drop_more : (b : ℕ) (bs ys : List ℕ) → length ys ≤ length bs → drop (length bs - length ys) bs ≡ ys
    → drop (length (b ∷ bs) - length ys) (b ∷ bs) ≡ ys
drop_more b bs ys h is = let e : suc (length bs) - length ys ≡ suc (length bs - length ys) = omega (arith, h) in rw e is

lf_drop_by : (t : Bool) (b : ℕ) (bs : List ℕ) → drop (length (b ∷ bs) - length (cond t bs (b ∷ bs))) (b ∷ bs) ≡ cond t bs (b ∷ bs)
lf_drop_by true b bs = let e : suc (length bs) - length bs ≡ 1 = omega arith in rw e refl
lf_drop_by false b bs = let e : suc (length bs) - suc (length bs) ≡ 0 = omega arith in rw e refl

lf_drop : (bs : List ℕ) → drop (length bs - length (without_lf bs)) bs ≡ without_lf bs
lf_drop [] = refl
lf_drop (b ∷ bs) = lf_drop_by (b == 10) b bs

drop_by : (t : Bool) (b : ℕ) (bs : List ℕ) → drop (length bs - length (behind_line bs)) bs ≡ behind_line bs
    → drop (length (b ∷ bs) - length (cond t (without_lf bs) (behind_line bs))) (b ∷ bs) ≡ cond t (without_lf bs) (behind_line bs)
drop_by true b bs is = drop_more b bs (without_lf bs) (lf_short bs) (lf_drop bs)
drop_by false b bs is = drop_more b bs (behind_line bs) (behind_short bs) is

pub behind_drop : (bs : List ℕ) → drop (length bs - length (behind_line bs)) bs ≡ behind_line bs
behind_drop [] = refl
behind_drop (b ∷ bs) = drop_by (b == 13) b bs (behind_drop bs)
