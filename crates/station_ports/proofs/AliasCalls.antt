-- An alias as a call.
use Rattle.std.proofs.Common.{◌≡◌, ◌<◌, ◌-◌, ◌*◌, ◌/◌, ◌%◌, ◌∙◌, ℕ, zero, suc, true, List, [], ◌∷◌, ◌++◌, map, length, replicate, nat_lt, refl, sym, ap, arith, tests, true≢false}
use Rattle.std.specs.Prelude.{Ok, Err, is_ok}
use Rattle.std.specs.List.{AllByRecursion, list_all}
use Rattle.std.proofs.lemmas.Bool.{lt-ltb}
use Rattle.std.proofs.lemmas.List.{same_from_push}
use Rattle.ax_address.specs.Callsign.{Callsign, IsCallsign, IsCallChar, name_in}
use Rattle.ax_address.specs.Octets.{SpellsNetCall}
use Rattle.ax_address.proofs.CallOctets.{doubles}

halves-doubles : (xs : List ℕ) → map (λ b. b / 2) (doubles xs) ≡ xs
halves-doubles [] = refl
halves-doubles (x ∷ xs) =
    let half : (2 * x) / 2 ≡ x = omega arith in
    ap (λ b. b ∷ map (λ o. o / 2) (doubles xs)) half ∙ ap (λ more. x ∷ more) (halves-doubles xs)

same_letters : (xs ys : List ℕ) → doubles xs ≡ doubles ys → xs ≡ ys
same_letters xs ys h = sym (halves-doubles xs) ∙ (ap (map (λ b. b / 2)) h ∙ halves-doubles ys)

-- octets that are the doubled alias and an SSID of 0 spell the alias alone
pub is_alias : (letters : List ℕ) (c : Callsign) → SpellsNetCall c (doubles letters ++ 0 ∷ []) → c ≡ record { letters = letters; ssid = 0 }
is_alias letters c h =
    let parts = same_from_push (doubles letters) (doubles c.letters) 0 h.last h.spelled in
    let same : c.letters ≡ letters = sym (same_letters letters c.letters parts.0) in
    let none : c.ssid ≡ 0 = sym h.ssid ∙ ap (λ o. o / 2 % 16) (sym parts.1) in
    λ i. record { letters = same i; ssid = none i }

pub alias_spelled : (letters : List ℕ) → IsCallsign letters 0 → SpellsNetCall (record { letters = letters; ssid = 0 }) (doubles letters ++ 0 ∷ [])
alias_spelled letters h = record { is_call = h; last = 0; spelled = refl; ssid = refl }

-- the characters of a call are below 128
small_char : (b : ℕ) → IsCallChar b → b < 128
small_char b h = grind (arith, tests)

small_spaces : (n : ℕ) → list_all (λ b. nat_lt b 128) (replicate n 32) ≡ true
small_spaces zero = refl
small_spaces (suc n) = small_spaces n

small_in : (name : List ℕ) (n : ℕ) → AllByRecursion IsCallChar name → list_all (λ b. nat_lt b 128) (name ++ replicate n 32) ≡ true
small_in [] n h = small_spaces n
small_in (b ∷ name) n h = rw (lt-ltb b 128 (small_char b h.0)) (small_in name n h.1)

pub small_letters : (letters : List ℕ) (ssid : ℕ) → IsCallsign letters ssid → list_all (λ b. nat_lt b 128) letters ≡ true
small_letters letters ssid h =
    ap (list_all (λ b. nat_lt b 128)) h.spaces ∙ small_in (name_in letters) (6 - length (name_in letters)) h.chars

pub refused-read : {A E : Type 0} (e : E) (x : A) → Err e ≡ Ok x → ⊥
refused-read e x h = true≢false (sym (ap is_ok h))
