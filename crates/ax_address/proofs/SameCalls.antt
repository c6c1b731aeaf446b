-- `==` on calls is equality.
use Rattle.std.proofs.Common.{◌≡◌, ◌≢◌, ◌∙◌, ℕ, refl, sym, ap, List, [], ◌∷◌, Bool, true, false}
use Rattle.std.specs.Prelude.{◌&&◌, nat_eq}
use Rattle.std.specs.Cmp.Lexicographic.{pointwise, same_text}
use Rattle.std.proofs.lemmas.Bool.{and_parts, eqb-true}
use Rattle.ax_address.specs.Callsign.{Callsign, same_call}
use Rattle.ax_address.proofs.SameNumbers.{nat_refl, nat_turned}

pub same_letters : (xs ys : List ℕ) → pointwise nat_eq xs ys ≡ true → xs ≡ ys
same_letters xs ys h = same_text xs ys (sym h)

pub same_call-true : (a b : Callsign) → same_call a b ≡ true → a ≡ b
same_call-true a b h =
    let both = and_parts (pointwise nat_eq a.letters b.letters) (nat_eq a.ssid b.ssid) h in
    let letters : a.letters ≡ b.letters = same_letters a.letters b.letters both.0 in
    let ssid : a.ssid ≡ b.ssid = eqb-true a.ssid b.ssid both.1 in
    λ i. record { letters = letters i; ssid = ssid i }

pub letters_refl : (xs : List ℕ) → pointwise nat_eq xs xs ≡ true
letters_refl [] = refl
letters_refl (x ∷ xs) = rw (nat_refl x) (letters_refl xs)

pub call_refl : (a : Callsign) → same_call a a ≡ true
call_refl a = rw (letters_refl a.letters, nat_refl a.ssid) refl

pub same_call-equal : (a b : Callsign) → a ≡ b → same_call a b ≡ true
same_call-equal a b e = ap (same_call a) (sym e) ∙ call_refl a

apart_case : (a b : Callsign) (t : Bool) → same_call a b ≡ t → a ≢ b → t ≡ false
apart_case a b true e h = absurd (h (same_call-true a b e))
apart_case a b false e h = refl

pub same_call-apart : (a b : Callsign) → a ≢ b → same_call a b ≡ false
same_call-apart a b h = apart_case a b (same_call a b) refl h

pub apart : (a b : Callsign) → same_call a b ≡ false → a ≢ b
apart a b e h = let s = same_call-equal a b h in absurd (cc)

pub letters_turned : (xs ys : List ℕ) → pointwise nat_eq xs ys ≡ pointwise nat_eq ys xs
letters_turned [] [] = refl
letters_turned [] (y ∷ ys) = refl
letters_turned (x ∷ xs) [] = refl
letters_turned (x ∷ xs) (y ∷ ys) = ap (λ b. b && pointwise nat_eq xs ys) (nat_turned x y) ∙ ap (λ b. nat_eq y x && b) (letters_turned xs ys)

pub call_turned : (a b : Callsign) → same_call a b ≡ same_call b a
call_turned a b = ap (λ v. v && nat_eq a.ssid b.ssid) (letters_turned a.letters b.letters) ∙ ap (λ v. pointwise nat_eq b.letters a.letters && v) (nat_turned a.ssid b.ssid)

-- calls that differ do so either way round
pub apart_sym : (a b : Callsign) → same_call a b ≡ false → same_call b a ≡ false
apart_sym a b h = call_turned b a ∙ h
