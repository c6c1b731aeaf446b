-- The lines of texts, and what they say in network files.
use Rattle.std.proofs.Common.{rules, ◌≡◌, ◌+◌, ◌<◌, ◌∙◌, ◌-◌, ◌*◌, ℕ, suc, List, [], ◌∷◌, ◌++◌, refl, ap, sym, length, arith, Ok, Bool, true, false, cond, get_or}
use Rattle.std.specs.Prelude.{◌==◌, nat_le, nat_lt, ◌&&◌, take}
use Rattle.std.specs.Fmt.{decimal}
use Rattle.std.specs.List.{slice_split, onto_first}
use Rattle.std.specs.Str.{all_ascii_digits}
use Rattle.std.specs.Str.Lines.{lines, lines_of_parts, strip_carriage_return}
use Rattle.std.proofs.lemmas.Bool.Decides.{nat_tests}
use Rattle.std.proofs.lemmas.List.Folds.{list_all_at}
use Rattle.std.proofs.lemmas.List.Splits.{length-slice_split}
use Rattle.std.proofs.lemmas.Fmt.{digits_decimal}
use Rattle.std.proofs.lemmas.Str.Parse.{IsNumeralModel, numerals_by_fold}
use Rattle.std.proofs.lemmas.Bool.{and_parts}
use Rattle.network_file.specs.declared.lines.Line.{Line}
use Rattle.network_file.specs.Networks.{after_lines, with_line}
use Rattle.network_file.specs.Plan.{Plan}
use Rattle.network_file.specs.Lines.{line_at}
use Rattle.text_lines.specs.Lines.{is_skipped, is_text}

-- ---- a text in front of others

abbrev pub is_feed : ℕ → Bool
is_feed b = b == 10

-- what a text puts in front of the parts of what follows
abbrev pub pushed : (ℕ → Bool) → List ℕ → List (List ℕ) → List (List ℕ)
pushed p [] parts = parts
pushed p (c ∷ cs) parts = cond (p c) ([] ∷ pushed p cs parts) (onto_first c (pushed p cs parts))

pub parts_of : (p : ℕ → Bool) (cs rest : List ℕ) → slice_split p (cs ++ rest) ≡ pushed p cs (slice_split p rest)
parts_of p [] rest = refl
parts_of p (c ∷ cs) rest = ap (λ ps. cond (p c) ([] ∷ ps) (onto_first c ps)) (parts_of p cs rest)

-- there is a part
pub some_part : (P : List (List ℕ) → Type 0) (parts : List (List ℕ)) → 0 < length parts → ((y : List ℕ) (more : List (List ℕ)) → P (y ∷ more)) → P parts
some_part P [] h all = absurd (omega arith)
some_part P (y ∷ more) h all = all y more

-- ---- one line

abbrev is_printed : ℕ → Bool
is_printed b = nat_le 32 b && nat_le b 126

no_feed : (c : ℕ) → is_printed c ≡ true → (c == 10) ≡ false
no_feed c h = grind (arith, nat_tests)

no_return : (c : ℕ) → is_printed c ≡ true → (c == 13) ≡ false
no_return c h = grind (arith, nat_tests)

split_after : (l rest : List ℕ) → is_text l ≡ true → slice_split is_feed (l ++ 10 ∷ rest) ≡ l ∷ slice_split is_feed rest
split_after [] rest h = refl
split_after (c ∷ cs) rest h =
    let both = and_parts (is_printed c) (is_text cs) h in
    ap (λ ps. cond (c == 10) ([] ∷ ps) (onto_first c ps)) (split_after cs rest both.1) ∙ ap (λ b. cond b ([] ∷ (cs ∷ slice_split is_feed rest)) ((c ∷ cs) ∷ slice_split is_feed rest)) (no_feed c both.0)

printed_by : (b : Bool) (l : List ℕ) (i : ℕ) → b ≡ is_printed (get_or l i 0) → i < length l → is_text l ≡ true → b ≡ true
printed_by true l i e h t = refl
printed_by false l i e h t = let none : is_text l ≡ false = list_all_at is_printed l i 0 h (sym e) in absurd (cc (t, none))

kept : (l : List ℕ) → is_text l ≡ true → strip_carriage_return l ≡ l
kept [] h = refl
kept (c ∷ cs) h =
    let l = c ∷ cs in
    let i = length l - 1 in
    let within : i < length l = omega arith in
    let printed : is_printed (get_or l i 0) ≡ true = printed_by (is_printed (get_or l i 0)) l i refl within h in
    ap (λ b. cond b (take i l) l) (no_return (get_or l i 0) printed)

pub first_line : (l rest : List ℕ) → is_text l ≡ true → lines (l ++ 10 ∷ rest) ≡ l ∷ lines rest
first_line l rest h =
    ap lines_of_parts (split_after l rest h)
    ∙ (some_part (λ ps. lines_of_parts (l ∷ ps) ≡ strip_carriage_return l ∷ lines_of_parts ps) (slice_split is_feed rest) (omega (arith, length-slice_split is_feed rest)) (λ y more. refl)
    ∙ ap (λ x. x ∷ lines rest) (kept l h))

-- a line that is neither empty nor a comment says this
pub record Says (plan : Plan) (l : List ℕ) (said : Line) : Type 0 where
  pub text : is_text l ≡ true
  pub some : is_skipped l ≡ false
  pub says : line_at plan l ≡ Ok said

few_lines : (n : ℕ) → n < 20000 → nat_lt 20000 (suc n) ≡ false
few_lines n h = grind (arith, nat_tests)

pub one_line : (n : ℕ) (plan : Plan) (l : List ℕ) (said : Line) (rest : List ℕ) → n < 20000 → Says plan l said
    → after_lines n plan (lines (l ++ 10 ∷ rest)) ≡ after_lines (suc n) (with_line (suc n) said plan) (lines rest)
one_line n plan l said rest h s = ap (after_lines n plan) (first_line l rest s.text) ∙ rw (few_lines n h, s.some, s.says) refl

abbrev pub is_space : ℕ → Bool
is_space b = b == 32

pub some_length : (n : ℕ) → (suc n == 0) ≡ false
some_length n = grind (arith, nat_tests)

-- decimal digits are one word
abbrev read_on : ℕ → List ℕ → ℕ
read_on n [] = n
read_on n (c ∷ cs) = read_on (10 * n + (c - 48)) cs

pub record IsWord (t : List ℕ) : Type 0 where
  pub text : is_text t ≡ true
  pub one : slice_split is_space t ≡ t ∷ []

digit_is : (c : ℕ) → (nat_le 48 c && nat_le c 57) ≡ true → (is_printed c ≡ true) × (is_space c ≡ false)
digit_is c h = (grind (arith, nat_tests), grind (arith, nat_tests))

digits_are : (t : List ℕ) → all_ascii_digits t ≡ true → IsWord t
digits_are [] h = record { text = refl; one = refl }
digits_are (c ∷ cs) h =
    let both = and_parts (nat_le 48 c && nat_le c 57) (all_ascii_digits cs) h in
    let digit = digit_is c both.0 in
    let rest = digits_are cs both.1 in
    record {
      text = ap (λ b. b && is_text cs) digit.0 ∙ rest.text;
      one = ap (λ ps. cond (is_space c) ([] ∷ ps) (onto_first c ps)) rest.one ∙ ap (λ b. cond b ([] ∷ (cs ∷ [])) ((c ∷ cs) ∷ [])) digit.1;
    }

own : IsNumeralModel (λ ds. all_ascii_digits ds ≡ true) (read_on 0)
own = numerals_by_fold _ (search rules) read_on (search rules)

pub decimal_is : (n : ℕ) → n < 301 → IsWord (decimal n)
decimal_is n h = digits_are (decimal n) (digits_decimal own n (omega arith))
