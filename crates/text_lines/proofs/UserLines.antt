-- The first line of a user's text, and what stands behind it.
use Rattle.std.proofs.Common.{◌≡◌, ◌<◌, ◌≤◌, ◌+◌, ◌∙◌, ℕ, suc, refl, sym, ap, List, [], ◌∷◌, length, take, drop, arith, Bool, true, false, cond}
use Rattle.std.specs.Prelude.{not, nat_lt, nat_eq, ◌==◌, Some, None, if◌then◌else◌}
use Rattle.std.specs.List.{position, position_or_len}
use Rattle.std.proofs.lemmas.Bool.{ltb-false}
use Rattle.std.proofs.lemmas.Option.{cond_some}
use Rattle.std.proofs.lemmas.List.Sums.{prefix_len-le-length}
use Rattle.text_lines.specs.UserLines.{first_line, behind_line, without_lf}
use Rattle.text_lines.proofs.Cuts.{nowhere}

at_step : (t : Bool) (b n : ℕ) (xs : List ℕ) → n ≡ length xs → cond (not t) (1 + n) 0 ≡ length (if t then [] else b ∷ xs)
at_step true b n xs e = refl
at_step false b n xs e = omega (arith, e)

-- it ends at the first CR, or with the text
pub ends_at : (text : List ℕ) → position_or_len (λ b. b == 13) text ≡ length (first_line text)
ends_at [] = refl
ends_at (b ∷ bs) = at_step (b == 13) b (position_or_len (λ b. b == 13) bs) (first_line bs) (ends_at bs)

front_step : (t : Bool) (b : ℕ) (xs bs : List ℕ) → take (length xs) bs ≡ xs → take (length (if t then [] else b ∷ xs)) (b ∷ bs) ≡ (if t then [] else b ∷ xs)
front_step true b xs bs e = refl
front_step false b xs bs e = ap (λ ys. b ∷ ys) e

pub takes_first : (text : List ℕ) → take (length (first_line text)) text ≡ first_line text
takes_first [] = refl
takes_first (b ∷ bs) = front_step (b == 13) b (first_line bs) bs (takes_first bs)

after_step : (t : Bool) (b : ℕ) (xs bs behind : List ℕ) → (length xs < length bs → behind ≡ without_lf (drop (suc (length xs)) bs)) → length (if t then [] else b ∷ xs) < suc (length bs) → (if t then without_lf bs else behind) ≡ without_lf (drop (suc (length (if t then [] else b ∷ xs))) (b ∷ bs))
after_step true b xs bs behind e h = refl
after_step false b xs bs behind e h = e (omega (arith, h))

-- a line that its text goes on behind is done with its CR
pub behind_return : (text : List ℕ) → length (first_line text) < length text → behind_line text ≡ without_lf (drop (suc (length (first_line text))) text)
behind_return [] h = absurd (omega (arith, h))
behind_return (b ∷ bs) h = after_step (b == 13) b (first_line bs) bs (behind_line bs) (behind_return bs) h

whole_step : (t : Bool) (b : ℕ) (xs bs behind : List ℕ) → (length xs ≡ length bs → behind ≡ []) → length (if t then [] else b ∷ xs) ≡ suc (length bs) → (if t then without_lf bs else behind) ≡ []
whole_step true b xs bs behind e h = absurd (omega (arith, h))
whole_step false b xs bs behind e h = e (omega (arith, h))

-- nothing stands behind a line that is the whole text
pub behind_whole : (text : List ℕ) → length (first_line text) ≡ length text → behind_line text ≡ []
behind_whole [] h = refl
behind_whole (b ∷ bs) h = whole_step (b == 13) b (first_line bs) bs (behind_line bs) (behind_whole bs) h

-- as the place of the first CR is found
pub ends_found : (text : List ℕ) (end : ℕ) → Some end ≡ position (λ b. b == 13) text → end ≡ length (first_line text)
ends_found text end e = sym (cond_some (nat_lt (position_or_len (λ b. b == 13) text) (length text)) _ _ (sym e)).1 ∙ ends_at text

pub ends_nowhere : (text : List ℕ) → None ≡ position (λ b. b == 13) text → length text ≡ length (first_line text)
ends_nowhere text e =
    let past = ltb-false (position_or_len (λ b. b == 13) text) (length text) (nowhere (nat_lt (position_or_len (λ b. b == 13) text) (length text)) (position_or_len (λ b. b == 13) text) e) in
    omega (arith, past, ends_at text, prefix_len-le-length (λ b. not (b == 13)) text)

pub suc_of : (n : ℕ) → n + 1 ≡ suc n
suc_of n = omega arith

-- nothing is added by cutting
pub without_lf_most : (text : List ℕ) → length (without_lf text) ≤ length text
without_lf_most [] = omega arith
without_lf_most (b ∷ bs) = by (nat_eq b 10)
  where
    by : (c : Bool) → length (if c then bs else b ∷ bs) ≤ suc (length bs)
    by true = omega arith
    by false = omega arith

pub behind_most : (text : List ℕ) → length (behind_line text) ≤ length text
behind_most [] = omega arith
behind_most (b ∷ bs) = by (nat_eq b 13) (behind_most bs)
  where
    by : (c : Bool) → length (behind_line bs) ≤ length bs → length (if c then without_lf bs else behind_line bs) ≤ suc (length bs)
    by true rest = let l = without_lf_most bs in omega (arith, l)
    by false rest = omega (arith, rest)
