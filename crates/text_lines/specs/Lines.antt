-- Lines, their words, and the numbers that words spell. Own profile.
use Rattle.std.specs.Prelude.{ℕ, List, length, Bool, ◌&&◌, ◌||◌, ◌==◌, nat_le, slice_index, [], ◌∷◌, filter, map, Option, Some, None, not, take, drop, if◌then◌else◌, ◌+◌, ◌-◌, ◌*◌}
use Rattle.std.specs.List.{list_all, slice_split}
use Rattle.std.specs.Borrow.{Bor}

-- Lines. Own profile.

-- printed characters and spaces
abbrev pub is_text : List ℕ → Bool
is_text line = list_all (λ b. nat_le 32 b && nat_le b 126) line

-- a byte that is no character from 0x20 to 0x7E is shown as a point
abbrev pub shown_byte : ℕ → ℕ
shown_byte b = if nat_le 32 b && nat_le b 126 then b else 46

abbrev pub shown_text : List ℕ → List ℕ
shown_text bytes = map shown_byte bytes

-- an empty line, or a comment
abbrev pub is_skipped : List ℕ → Bool
is_skipped line = (length line == 0) || (slice_index line 0 == 35)

-- The words of a line. Own profile.

-- what the references point to
abbrev pub texts : List (Bor (List ℕ)) → List (List ℕ)
texts words = map (λ w. w.now) words

-- the longest runs without a space
abbrev pub words_of : List ℕ → List (List ℕ)
words_of line = filter (λ w. not (length w == 0)) (slice_split (λ b. b == 32) line)

-- a line without the spaces at its front
abbrev pub after_spaces : List ℕ → List ℕ
after_spaces [] = []
after_spaces (b ∷ bs) = if b == 32 then after_spaces bs else b ∷ bs

-- a line up to its first space
abbrev pub before_space : List ℕ → List ℕ
before_space [] = []
before_space (b ∷ bs) = if b == 32 then [] else b ∷ before_space bs

-- a line from its first space on
abbrev pub after_word : List ℕ → List ℕ
after_word [] = []
after_word (b ∷ bs) = if b == 32 then b ∷ bs else after_word bs

-- what stands behind the first word: nothing, or a space and what follows
unfoldable pub past_word : List ℕ → List ℕ
past_word line = after_word (after_spaces line)

-- what stands after the one space at the front, if that space is there
abbrev pub after_space : List ℕ → Option (List ℕ)
after_space [] = None
after_space (space ∷ text) = Some text

-- what stands before and behind the mark at that place, if there is one
abbrev pub parted : Option ℕ → List ℕ → Option (List ℕ × List ℕ)
parted (Some at) text = Some (take at text, drop (at + 1) text)
parted None text = None

-- The numbers that words spell. Own profile.

abbrev pub is_digit : ℕ → Bool
is_digit b = nat_le 48 b && nat_le b 57

-- decimal digits without a leading zero
abbrev pub is_number : List ℕ → Bool
is_number word = list_all is_digit word && (not (length word == 0) && ((length word == 1) || not (slice_index word 0 == 48)))

-- the number that decimal digits spell behind n
abbrev pub value_onto : ℕ → List ℕ → ℕ
value_onto n [] = n
value_onto n (d ∷ ds) = value_onto (n * 10 + (d - 48)) ds

-- the number from least to most that the word spells
abbrev pub number_of : ℕ → ℕ → List ℕ → Option ℕ
number_of least most word =
    if is_number word && (nat_le least (value_onto 0 word) && nat_le (value_onto 0 word) most)
    then Some (value_onto 0 word)
    else None
