-- The first line of a text, cut off.
use Rattle.std.proofs.Common.{◌≡◌, ◌<◌, ◌≤◌, ◌+◌, ◌∙◌, ℕ, suc, refl, sym, ap, List, [], ◌∷◌, length, take, drop, arith, Bool, true, false, cond}
use Rattle.std.specs.Prelude.{not, ◌==◌, nat_lt, Some, None}
use Rattle.std.specs.List.{slice_split, onto_first, position, position_or_len}
use Rattle.std.specs.Str.Lines.{lines, lines_of_parts, strip_carriage_return}
use Rattle.std.proofs.lemmas.Bool.{ltb-false}
use Rattle.std.proofs.lemmas.Bool.Decides.{nat_tests}
use Rattle.std.proofs.lemmas.Option.{cond_some}
use Rattle.std.proofs.lemmas.List.Sums.{prefix_len-le-length}
use Rattle.std.proofs.lemmas.List.Splits.{slice_split_first, length-slice_split}

parts-cons : (first : List ℕ) (parts : List (List ℕ)) → 0 < length parts → lines_of_parts (first ∷ parts) ≡ strip_carriage_return first ∷ lines_of_parts parts
parts-cons first [] h = absurd (omega arith)
parts-cons first (next ∷ more) h = refl

lines_at : (text : List ℕ) (end : ℕ) → position_or_len (λ b. b == 10) text ≡ end → end < length text → lines text ≡ strip_carriage_return (take end text) ∷ lines (drop (end + 1) text)
lines_at text end e h =
    let p : ℕ → Bool = λ b. b == 10 in
    let cut : slice_split p text ≡ take end text ∷ slice_split p (drop (end + 1) text) = rw (← e) (slice_split_first p text 0 (rw (← e) at h)) in
    let some : 0 < length (slice_split p (drop (end + 1) text)) = omega (arith, length-slice_split p (drop (end + 1) text)) in
    ap lines_of_parts cut ∙ parts-cons (take end text) (slice_split p (drop (end + 1) text)) some

-- a line feed ends the first line
pub lines-first : (text : List ℕ) (end : ℕ) → Some end ≡ position (λ b. b == 10) text → end < length text → lines text ≡ strip_carriage_return (take end text) ∷ lines (drop (end + 1) text)
lines-first text end e h = lines_at text end (cond_some (nat_lt (position_or_len (λ b. b == 10) text) (length text)) _ _ (sym e)).1 h

none_step : (b : Bool) (x n : ℕ) (xs : List ℕ) (parts : List (List ℕ)) → cond (not b) (1 + n) 0 ≡ suc (length xs) → (n ≡ length xs → parts ≡ xs ∷ []) → cond b ([] ∷ parts) (onto_first x parts) ≡ (x ∷ xs) ∷ []
none_step true x n xs parts e h = absurd (omega arith)
none_step false x n xs parts e h = rw (h (omega arith)) refl

one_part : (text : List ℕ) → position_or_len (λ b. b == 10) text ≡ length text → slice_split (λ b. b == 10) text ≡ text ∷ []
one_part [] e = refl
one_part (x ∷ xs) e = none_step (x == 10) x (position_or_len (λ b. b == 10) xs) xs (slice_split (λ b. b == 10) xs) e (one_part xs)

kept_last : (n : ℕ) (text : List ℕ) → 0 < n → cond (n == 0) [] (text ∷ []) ≡ text ∷ []
kept_last n text h = let e : (n == 0) ≡ false = grind (arith, nat_tests) in rw e refl

pub nowhere : (b : Bool) (n : ℕ) → None ≡ cond b (Some n) None → b ≡ false
nowhere true n e = cc
nowhere false n e = refl

-- without a line feed the text is its last line
pub lines-last : (text : List ℕ) → None ≡ position (λ b. b == 10) text → 0 < length text → lines text ≡ text ∷ []
lines-last [] e h = absurd (omega arith)
lines-last (x ∷ xs) e h =
    let text = x ∷ xs in
    let far : length text ≤ position_or_len (λ b. b == 10) text = ltb-false _ _ (nowhere (nat_lt (position_or_len (λ b. b == 10) text) (length text)) _ e) in
    let short : position_or_len (λ b. b == 10) text ≤ length text = prefix_len-le-length (λ b. not (b == 10)) text in
    ap lines_of_parts (one_part text (omega (arith, far, short))) ∙ kept_last (length text) text h
