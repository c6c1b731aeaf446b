-- SSIDs in decimal.
use Rattle.std.proofs.Common.{◌≡◌, ◌≤◌, ◌<◌, ◌+◌, ◌-◌, ◌/◌, ◌%◌, ◌++◌, ◌∙◌, ℕ, refl, ap, List, [], ◌∷◌, arith, Bool, true, false, cond, Some, None}
use Rattle.std.specs.Prelude.{◌&&◌, ◌==◌, nat_le}
use Rattle.std.specs.Fmt.{decimal}
use Rattle.std.proofs.lemmas.Fmt.{decimal_digit, decimal_step}
use Rattle.std.proofs.lemmas.Grind.{common_steps}
use Rattle.std.proofs.lemmas.Bool.Decides.{nat_tests}
use Rattle.ax_address.specs.Callsign.{ssid_of}

pub decimal_teens : (n : ℕ) → 10 ≤ n → n < 20 → decimal n ≡ 49 ∷ (48 + (n - 10)) ∷ []
decimal_teens n low high =
    let one : n / 10 ≡ 1 = omega arith in
    let units : n % 10 ≡ n - 10 = omega arith in
    decimal_step n low (omega arith) ∙ rw (one, units) (ap (λ ds. ds ++ (48 + (n - 10)) ∷ []) (decimal_digit 1 (omega arith)))

pub ruleset small_decimals = (decimal_digit, decimal_teens, common_steps)

units_is : (a n : ℕ) (b : Bool) → (nat_le 48 a && nat_le a 57) ≡ b → cond b (Some (a - 48)) None ≡ Some n → (n < 10) × (a ≡ 48 + n)
units_is a n true e h = let k : a - 48 ≡ n = cc in (grind (arith, nat_tests), grind (arith, nat_tests))
units_is a n false e h = absurd cc

teens_is : (a b n : ℕ) (t : Bool) → ((a == 49) && (nat_le 48 b && nat_le b 53)) ≡ t → cond t (Some (10 + (b - 48))) None ≡ Some n → (10 ≤ n) × (n ≤ 15) × (a ≡ 49) × (b ≡ 48 + (n - 10))
teens_is a b n true e h = let k : 10 + (b - 48) ≡ n = cc in (grind (arith, nat_tests), grind (arith, nat_tests), grind (arith, nat_tests), grind (arith, nat_tests))
teens_is a b n false e h = absurd cc

-- what is read as an SSID is it in decimal
pub ssid_of_takes : (digits : List ℕ) (n : ℕ) → ssid_of digits ≡ Some n → (n ≤ 15) × (digits ≡ decimal n)
ssid_of_takes [] n h = absurd cc
ssid_of_takes (a ∷ []) n h =
    let t = units_is a n (nat_le 48 a && nat_le a 57) refl h in
    (omega arith, rw (decimal_digit n t.0, t.1) refl)
ssid_of_takes (a ∷ b ∷ []) n h =
    let t = teens_is a b n ((a == 49) && (nat_le 48 b && nat_le b 53)) refl h in
    let d : decimal n ≡ 49 ∷ (48 + (n - 10)) ∷ [] = decimal_teens n t.0 (omega arith) in
    (t.1, rw (d, t.2, t.3) refl)
ssid_of_takes (a ∷ b ∷ c ∷ more) n h = absurd cc

units_again : (n : ℕ) → n < 10 → ssid_of ((48 + n) ∷ []) ≡ Some n
units_again n h = grind (arith, nat_tests)

teens_again : (n : ℕ) → 10 ≤ n → n ≤ 15 → ssid_of (49 ∷ (48 + (n - 10)) ∷ []) ≡ Some n
teens_again n low high = grind (arith, nat_tests)

again_step : (n : ℕ) (b : Bool) → nat_le n 9 ≡ b → n ≤ 15 → ssid_of (decimal n) ≡ Some n
again_step n true e h = let lt : n < 10 = grind (arith, nat_tests) in ap ssid_of (decimal_digit n lt) ∙ units_again n lt
again_step n false e h = let low : 10 ≤ n = grind (arith, nat_tests) in ap ssid_of (decimal_teens n low (omega arith)) ∙ teens_again n low h

-- an SSID in decimal is read as it
pub ssid_of-decimal : (n : ℕ) → n ≤ 15 → ssid_of (decimal n) ≡ Some n
ssid_of-decimal n h = again_step n (nat_le n 9) refl h
