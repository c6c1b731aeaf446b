-- The first word of a line, cut off.
use Rattle.std.proofs.Common.{◌≡◌, ◌<◌, ◌≤◌, ℕ, suc, Bool, true, false, not, ◌==◌, if◌then◌else◌, cond, List, [], ◌∷◌, length, filter, take, drop, ◌+◌, refl, sym, ap, ◌∙◌, arith}
use Rattle.std.specs.Prelude.{unwrap_or}
use Rattle.std.specs.List.{slice_split, onto_first, position, position_or_len}
use Rattle.std.proofs.lemmas.Bool.Decides.{nat_tests}
use Rattle.std.proofs.lemmas.List.Sums.{prefix_len-le-length}
use Rattle.text_lines.specs.Lines.{after_spaces, after_word, before_space, words_of}

-- the pieces behind the first
abbrev others : List ℕ → List (List ℕ)
others [] = []
others (space ∷ bs) = slice_split (λ b. b == 32) bs

pieces : (line : List ℕ) → slice_split (λ b. b == 32) line ≡ before_space line ∷ others (after_word line)
pieces [] = refl
pieces (b ∷ bs) = by (b == 32) (pieces bs)
  where
    by : (t : Bool) → slice_split (λ c. c == 32) bs ≡ before_space bs ∷ others (after_word bs) →
        cond t ([] ∷ slice_split (λ c. c == 32) bs) (onto_first b (slice_split (λ c. c == 32) bs)) ≡ (if t then [] else b ∷ before_space bs) ∷ others (if t then b ∷ bs else after_word bs)
    by true next = refl
    by false next = rw next refl

kept : (line : List ℕ) → filter (λ w. not (length w == 0)) (others (after_word line)) ≡ words_of (after_word line)
kept [] = refl
kept (b ∷ bs) = by (b == 32) refl (kept bs)
  where
    by : (t : Bool) → (b == 32) ≡ t → filter (λ w. not (length w == 0)) (others (after_word bs)) ≡ words_of (after_word bs) →
        filter (λ w. not (length w == 0)) (others (if t then b ∷ bs else after_word bs)) ≡ words_of (if t then b ∷ bs else after_word bs)
    by true e next = rw e refl
    by false e next = next

starts : (b : ℕ) (bs : List ℕ) → (b == 32) ≡ false → words_of (b ∷ bs) ≡ before_space (b ∷ bs) ∷ words_of (after_word (b ∷ bs))
starts b bs e =
    let some : (length (b ∷ before_space bs) == 0) ≡ false = grind (arith, nat_tests) in
    ap (λ parts. filter (λ w. not (length w == 0)) parts) (pieces (b ∷ bs)) ∙ rw (e, some) (ap (λ ws. (b ∷ before_space bs) ∷ ws) (kept bs))

-- spaces stand before the first word
first_word : (line : List ℕ) → 0 < length (after_spaces line) → words_of line ≡ before_space (after_spaces line) ∷ words_of (after_word (after_spaces line))
first_word [] h = absurd (omega arith)
first_word (b ∷ bs) h = by (b == 32) refl (first_word bs) (starts b bs) h
  where
    by : (t : Bool) → (b == 32) ≡ t →
        (0 < length (after_spaces bs) → words_of bs ≡ before_space (after_spaces bs) ∷ words_of (after_word (after_spaces bs))) →
        ((b == 32) ≡ false → words_of (b ∷ bs) ≡ before_space (b ∷ bs) ∷ words_of (after_word (b ∷ bs))) → 0 < length (if t then after_spaces bs else b ∷ bs) →
        words_of (b ∷ bs) ≡ before_space (if t then after_spaces bs else b ∷ bs) ∷ words_of (after_word (if t then after_spaces bs else b ∷ bs))
    by true e next start some = rw e (next some)
    by false e next start some = start e

-- a line of spaces has no word
no_word : (line : List ℕ) → after_spaces line ≡ [] → words_of line ≡ []
no_word [] e = refl
no_word (b ∷ bs) e = by (b == 32) refl (no_word bs) e
  where
    by : (t : Bool) → (b == 32) ≡ t → (after_spaces bs ≡ [] → words_of bs ≡ []) → (if t then after_spaces bs else b ∷ bs) ≡ [] → words_of (b ∷ bs) ≡ []
    by true q next none = rw q (next none)
    by false q next none = absurd (cc none)

is_nil : (xs : List ℕ) → (length xs == 0) ≡ true → xs ≡ []
is_nil [] e = refl
is_nil (x ∷ xs) e = absurd (grind (arith, nat_tests))

is_cons : (xs : List ℕ) → (length xs == 0) ≡ false → 0 < length xs
is_cons [] e = absurd (cc e)
is_cons (x ∷ xs) e = omega arith

-- the same of what a line has behind its spaces
pub no_word_behind : (line rest : List ℕ) → rest ≡ after_spaces line → (length rest == 0) ≡ true → words_of line ≡ []
no_word_behind line rest e none = no_word line (sym e ∙ is_nil rest none)

pub first_word_behind : (line rest word behind : List ℕ) → rest ≡ after_spaces line → (length rest == 0) ≡ false → word ≡ before_space rest → behind ≡ after_word rest →
    words_of line ≡ word ∷ words_of behind
first_word_behind line rest word behind e some w b = rw (w, b, e) (first_word line (is_cons (after_spaces line) (rw e at some)))

cut_there : (line : List ℕ) → (take (position_or_len (λ b. b == 32) line) line ≡ before_space line) × (drop (position_or_len (λ b. b == 32) line) line ≡ after_word line)
cut_there [] = (refl, refl)
cut_there (b ∷ bs) = by (b == 32) (position_or_len (λ c. c == 32) bs) (cut_there bs)
  where
    by : (t : Bool) (n : ℕ) → (take n bs ≡ before_space bs) × (drop n bs ≡ after_word bs) →
        (take (cond (not t) (1 + n) 0) (b ∷ bs) ≡ (if t then [] else b ∷ before_space bs)) × (drop (cond (not t) (1 + n) 0) (b ∷ bs) ≡ (if t then b ∷ bs else after_word bs))
    by true n next = (refl, refl)
    by false n next = let e : 1 + n ≡ suc n = omega arith in rw e (ap (λ ys. b ∷ ys) next.0, next.1)

-- the first word ends at the first space, or with the line
pub cut : (line : List ℕ) (end : ℕ) → end ≡ unwrap_or (position (λ b. b == 32) line) (length line) → (take end line ≡ before_space line) × (drop end line ≡ after_word line)
cut line end e =
    let short : position_or_len (λ b. b == 32) line ≤ length line = prefix_len-le-length (λ b. not (b == 32)) line in
    let same : end ≡ position_or_len (λ b. b == 32) line = grind (arith, nat_tests) in
    rw same (cut_there line)
