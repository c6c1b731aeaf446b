-- Which aliases are calls.
use Rattle.std.proofs.Common.{◌≡◌, ◌∙◌, ℕ, refl, sym, ap, subst, List, [], ◌∷◌, length, arith, Bool, true, false, true≢false}
use Rattle.std.proofs.lemmas.Bool.Decides.{nat_tests}
use Rattle.std.specs.Prelude.{◌&&◌, nat_eq, nat_le, nat_lt}
use Rattle.std.specs.List.{AllByRecursion, list_all}
use Rattle.std.specs.Cmp.Lexicographic.{pointwise}
use Rattle.ax_address.specs.Callsign.{IsCallChar, IsCallsign, is_call_char, name_in, padded}
use Rattle.station_members.specs.Seats.{is_name}

both : (a b : Bool) → a ≡ true → b ≡ true → a && b ≡ true
both true b e f = f
both false b e f = absurd (true≢false (sym e))

parts : (a b : Bool) → a && b ≡ true → (a ≡ true) × (b ≡ true)
parts true b e = (refl, e)
parts false b e = absurd (true≢false (sym e))

all_chars : (bs : List ℕ) → AllByRecursion IsCallChar bs → list_all is_call_char bs ≡ true
all_chars [] a = refl
all_chars (b ∷ bs) a = both (is_call_char b) (list_all is_call_char bs) a.0 (all_chars bs a.1)

chars_all : (bs : List ℕ) → list_all is_call_char bs ≡ true → AllByRecursion IsCallChar bs
chars_all [] e = tt
chars_all (b ∷ bs) e = let two = parts (is_call_char b) (list_all is_call_char bs) e in (two.0, chars_all bs two.1)

same_to : (xs ys : List ℕ) → xs ≡ ys → pointwise nat_eq xs ys ≡ true
same_to xs ys e = subst (λ zs. pointwise nat_eq xs zs ≡ true) e (itself xs)
  where
    itself : (zs : List ℕ) → pointwise nat_eq zs zs ≡ true
    itself [] = refl
    itself (z ∷ zs) = let one : nat_eq z z ≡ true = grind (arith, nat_tests) in both (nat_eq z z) (pointwise nat_eq zs zs) one (itself zs)

to_same : (xs ys : List ℕ) → pointwise nat_eq xs ys ≡ true → xs ≡ ys
to_same [] [] e = refl
to_same [] (y ∷ ys) e = absurd (true≢false (sym e))
to_same (x ∷ xs) [] e = absurd (true≢false (sym e))
to_same (x ∷ xs) (y ∷ ys) e =
    let two = parts (nat_eq x y) (pointwise nat_eq xs ys) e in
    let head : x ≡ y = (let h = two.0 in grind (arith, nat_tests, h)) in
    ap (λ b. b ∷ xs) head ∙ ap (λ bs. y ∷ bs) (to_same xs ys two.1)

pub named : (letters : List ℕ) → IsCallsign letters 0 → is_name letters ≡ true
named letters h =
    let some : nat_lt 0 (length (name_in letters)) ≡ true = (let n = h.some in grind (arith, nat_tests, n)) in
    let six : nat_le (length (name_in letters)) 6 ≡ true = (let n = h.six in grind (arith, nat_tests, n)) in
    both _ _ some (both _ _ six (both _ _ (all_chars (name_in letters) h.chars) (same_to letters (padded (name_in letters)) h.spaces)))

names : (letters : List ℕ) → is_name letters ≡ true → IsCallsign letters 0
names letters e =
    let some = nat_lt 0 (length (name_in letters)) in
    let six = nat_le (length (name_in letters)) 6 in
    let chars = list_all is_call_char (name_in letters) in
    let spaces = pointwise nat_eq letters (padded (name_in letters)) in
    let a : (some ≡ true) × (six && (chars && spaces) ≡ true) = parts some (six && (chars && spaces)) e in
    let b : (six ≡ true) × (chars && spaces ≡ true) = parts six (chars && spaces) a.1 in
    let c : (chars ≡ true) × (spaces ≡ true) = parts chars spaces b.1 in
    record {
      some = (let h = a.0 in grind (arith, nat_tests, h));
      six = (let h = b.0 in grind (arith, nat_tests, h));
      chars = chars_all (name_in letters) c.0;
      spaces = to_same letters (padded (name_in letters)) c.1;
      small = omega arith;
    }

pub unnamed : (letters : List ℕ) → (IsCallsign letters 0 → ⊥) → is_name letters ≡ false
unnamed letters none = by (is_name letters) refl
  where
    by : (b : Bool) → is_name letters ≡ b → b ≡ false
    by true e = absurd (none (names letters e))
    by false e = refl
