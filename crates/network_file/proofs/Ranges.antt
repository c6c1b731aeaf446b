-- A number that is read is within its range.
use Rattle.std.proofs.Common.{◌≡◌, ◌≤◌, ℕ, refl, List, arith, Bool, true, false, cond}
use Rattle.std.specs.Prelude.{◌&&◌, nat_le, Option, Some, None, Ok}
use Rattle.std.proofs.lemmas.Bool.Decides.{nat_tests}
use Rattle.std.proofs.lemmas.Bool.{and_parts}
use Rattle.text_lines.specs.Lines.{is_number, number_of, value_onto}
use Rattle.network_file.specs.declared.what.What.{What}
use Rattle.network_file.specs.Places.{known}

ranged_by : (least most v n : ℕ) (digits : Bool) → cond (digits && (nat_le least v && nat_le v most)) (Some v) None ≡ Some n → (least ≤ n) × (n ≤ most)
ranged_by least most v n digits = by (digits && (nat_le least v && nat_le v most)) refl
  where
    by : (b : Bool) → (digits && (nat_le least v && nat_le v most)) ≡ b → cond b (Some v) None ≡ Some n → (least ≤ n) × (n ≤ most)
    by true h e =
        let same : v ≡ n = cc e in
        let low : nat_le least v ≡ true = (and_parts (nat_le least v) (nat_le v most) (and_parts digits _ h).1).0 in
        let high : nat_le v most ≡ true = (and_parts (nat_le least v) (nat_le v most) (and_parts digits _ h).1).1 in
        (grind (arith, nat_tests, low, same), grind (arith, nat_tests, high, same))
    by false h e = absurd (cc e)

known_is : (w : What) (o : Option ℕ) (n : ℕ) → known w o ≡ Ok n → o ≡ Some n
known_is w (Some x) n e = cc e
known_is w None n e = absurd (cc e)

pub ranged : (w : What) (least most : ℕ) (word : List ℕ) (n : ℕ) → known w (number_of least most word) ≡ Ok n → (least ≤ n) × (n ≤ most)
ranged w least most word n e = ranged_by least most (value_onto 0 word) n (is_number word) (known_is w (number_of least most word) n e)
