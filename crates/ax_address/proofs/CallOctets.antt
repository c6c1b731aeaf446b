-- The octets of a call, read and written.
use Rattle.std.proofs.Common.{◌≡◌, ◌≤◌, ◌<◌, ◌+◌, ◌-◌, ◌*◌, ◌/◌, ◌%◌, ◌++◌, ◌∙◌, ℕ, zero, suc, refl, sym, ap, List, [], ◌∷◌, length, replicate, map, take, drop, get_or, arith, Bool, true, false, cond}
use Rattle.std.specs.Prelude.{◌==◌, Option, Some, None, nat_le, slice_get}
use Rattle.std.specs.List.{prefix_len, AllByRecursion}
use Rattle.std.proofs.lemmas.List.{length-map, length-drop, length-take, map-append, take-append-drop}
use Rattle.std.proofs.lemmas.List.Sums.{prefix_len-le-length}
use Rattle.std.proofs.lemmas.List.Elements.{All-from_recursion}
use Rattle.std.proofs.lemmas.Bool.Decides.{nat_tests}
use Rattle.ax_address.specs.Callsign.{IsCallsign, IsCallChar, padded}
use Rattle.ax_address.specs.Octets.{is_char_octet, is_space_octet, good_octets, refusal_at, fault_in, address_fault}
use Rattle.ax_address.proofs.Names.{padded_is_call}

abbrev pub halves : List ℕ → List ℕ
halves os = map (λ o. o / 2) os

abbrev pub doubles : List ℕ → List ℕ
doubles os = map (λ b. 2 * b) os

-- ---- what is read

char_octet : (o : ℕ) → is_char_octet o ≡ true → IsCallChar (o / 2) × (2 * (o / 2) ≡ o)
char_octet o h = (grind (arith, nat_tests), grind (arith, nat_tests))

-- the front is characters
chars_step : (o : ℕ) (os : List ℕ) (b : Bool) → is_char_octet o ≡ b
    → AllByRecursion IsCallChar (halves (take (prefix_len is_char_octet os) os)) × (doubles (halves (take (prefix_len is_char_octet os) os)) ≡ take (prefix_len is_char_octet os) os)
    → AllByRecursion IsCallChar (halves (take (cond b (1 + prefix_len is_char_octet os) 0) (o ∷ os))) × (doubles (halves (take (cond b (1 + prefix_len is_char_octet os) 0) (o ∷ os))) ≡ take (cond b (1 + prefix_len is_char_octet os) 0) (o ∷ os))
chars_step o os true e ih =
    let next : 1 + prefix_len is_char_octet os ≡ suc (prefix_len is_char_octet os) = omega arith in
    let c = char_octet o e in
    rw next ((c.0, ih.0), rw (c.1, ih.1) refl)
chars_step o os false e ih = (tt, refl)

pub chars : (os : List ℕ) → AllByRecursion IsCallChar (halves (take (prefix_len is_char_octet os) os)) × (doubles (halves (take (prefix_len is_char_octet os) os)) ≡ take (prefix_len is_char_octet os) os)
chars [] = (tt, refl)
chars (o ∷ os) = chars_step o os (is_char_octet o) refl (chars os)

-- the rest is spaces
spaces_step : (o : ℕ) (os : List ℕ) (b : Bool) → is_space_octet o ≡ b → (length os ≤ prefix_len is_space_octet os → os ≡ replicate (length os) 64) → suc (length os) ≤ cond b (1 + prefix_len is_space_octet os) 0 → o ∷ os ≡ replicate (suc (length os)) 64
spaces_step o os true e ih h =
    let k : o ≡ 64 = grind (arith, nat_tests) in
    let rest : os ≡ replicate (length os) 64 = ih (omega arith) in
    ap (λ x. x ∷ os) k ∙ ap (λ xs. 64 ∷ xs) rest
spaces_step o os false e ih h = absurd (omega arith)

pub spaces : (os : List ℕ) → length os ≤ prefix_len is_space_octet os → os ≡ replicate (length os) 64
spaces [] h = refl
spaces (o ∷ os) h = spaces_step o os (is_space_octet o) refl (spaces os) h

pub none_past : (os : List ℕ) (n : ℕ) → slice_get os n ≡ None → length os ≤ n
none_past [] n h = omega arith
none_past (o ∷ os) zero h = absurd cc
none_past (o ∷ os) (suc n) h = let ih = none_past os n h in omega arith

pub no_refusal : (at : ℕ) (o : Option ℕ) → refusal_at at o ≡ None → o ≡ None
no_refusal at None h = refl
no_refusal at (Some o) h = absurd cc

good_is : (n : ℕ) (os : List ℕ) (b : Bool) → (n == 0) ≡ b → 0 < length os → length os ≤ cond b 0 (n + prefix_len is_space_octet (drop n os)) → (0 < n) × (length os ≤ n + prefix_len is_space_octet (drop n os))
good_is n os true e some h = absurd (omega arith)
good_is n os false e some h = (grind (arith, nat_tests), h)

halves-replicate : (n : ℕ) → halves (replicate n 64) ≡ replicate n 32
halves-replicate zero = refl
halves-replicate (suc n) = ap (λ xs. 32 ∷ xs) (halves-replicate n)

pub doubles-replicate : (n : ℕ) → doubles (replicate n 32) ≡ replicate n 64
doubles-replicate zero = refl
doubles-replicate (suc n) = ap (λ xs. 64 ∷ xs) (doubles-replicate n)

-- six octets without a fault: characters, and then spaces
pub record Good (os : List ℕ) : Type 0 where
  pub name : List ℕ
  pub some : 0 < length name
  pub six : length name ≤ 6
  pub chars_are : AllByRecursion IsCallChar name
  pub halves_are : halves os ≡ padded name
  pub doubles_are : doubles (halves os) ≡ os

pub good : (os : List ℕ) → length os ≡ 6 → fault_in os ≡ None → Good os
good os len h =
    let n = prefix_len is_char_octet os in
    let past : length os ≤ good_octets os = none_past os (good_octets os) (no_refusal (good_octets os) (slice_get os (good_octets os)) h) in
    let g = good_is n os (n == 0) refl (omega arith) past in
    let within : n ≤ length os = prefix_len-le-length is_char_octet os in
    let front = chars os in
    let rest_len : length (drop n os) ≡ 6 - n = omega (arith, length-drop n os) in
    let back : drop n os ≡ replicate (6 - n) 64 = spaces (drop n os) (omega arith) ∙ ap (λ k. replicate k 64) rest_len in
    let name_len : length (halves (take n os)) ≡ n = omega (arith, length-map (take n os) (λ o. o / 2), length-take n os) in
    let split : take n os ++ drop n os ≡ os = take-append-drop n os in
    let halved : halves os ≡ halves (take n os) ++ halves (drop n os) = ap halves (sym split) ∙ map-append (λ o. o / 2) (take n os) (drop n os) in
    let pad : halves (drop n os) ≡ replicate (6 - length (halves (take n os))) 32 = ap halves back ∙ (halves-replicate (6 - n) ∙ ap (λ k. replicate (6 - k) 32) (sym name_len)) in
    let back_again : doubles (halves (drop n os)) ≡ drop n os = ap (λ xs. doubles (halves xs)) back ∙ (ap doubles (halves-replicate (6 - n)) ∙ (doubles-replicate (6 - n) ∙ sym back)) in
    let again : doubles (halves (take n os) ++ halves (drop n os)) ≡ take n os ++ drop n os = map-append (λ b. 2 * b) (halves (take n os)) (halves (drop n os)) ∙ (ap (λ xs. xs ++ doubles (halves (drop n os))) front.1 ∙ ap (λ xs. take n os ++ xs) back_again) in
    record {
      name = halves (take n os);
      some = omega arith;
      six = omega arith;
      chars_are = front.0;
      halves_are = halved ∙ ap (λ xs. halves (take n os) ++ xs) pad;
      doubles_are = ap doubles halved ∙ (again ∙ split);
    }

pub good_is_call : (os : List ℕ) (ssid : ℕ) → length os ≡ 6 → fault_in os ≡ None → ssid ≤ 15 → IsCallsign (halves os) ssid
good_is_call os ssid len h small =
    let g = good os len h in
    rw g.halves_are (padded_is_call g.name ssid (All-from_recursion IsCallChar g.name g.chars_are) g.some g.six small)

-- seven octets one by one
pub seven : (os : List ℕ) → length os ≡ 7 → os ≡ get_or os 0 0 ∷ get_or os 1 0 ∷ get_or os 2 0 ∷ get_or os 3 0 ∷ get_or os 4 0 ∷ get_or os 5 0 ∷ get_or os 6 0 ∷ []
seven [] h = absurd (omega arith)
seven (a ∷ []) h = absurd (omega arith)
seven (a ∷ b ∷ []) h = absurd (omega arith)
seven (a ∷ b ∷ c ∷ []) h = absurd (omega arith)
seven (a ∷ b ∷ c ∷ d ∷ []) h = absurd (omega arith)
seven (a ∷ b ∷ c ∷ d ∷ e ∷ []) h = absurd (omega arith)
seven (a ∷ b ∷ c ∷ d ∷ e ∷ f ∷ []) h = absurd (omega arith)
seven (a ∷ b ∷ c ∷ d ∷ e ∷ f ∷ g ∷ []) h = refl
seven (a ∷ b ∷ c ∷ d ∷ e ∷ f ∷ g ∷ i ∷ more) h = absurd (omega arith)

-- ---- the octet with the SSID

bits_step : (o : ℕ) (b l : Bool) → nat_le 128 o ≡ b → (o % 2 == 1) ≡ l → o < 256 → cond b 128 0 + 32 * (o / 32 % 4) + 2 * (o / 2 % 16) + cond l 1 0 ≡ o
bits_step o true true e f lt = grind (arith, nat_tests)
bits_step o true false e f lt = grind (arith, nat_tests)
bits_step o false true e f lt = grind (arith, nat_tests)
bits_step o false false e f lt = grind (arith, nat_tests)

pub ssid_bits : (o : ℕ) → o < 256 → cond (nat_le 128 o) 128 0 + 32 * (o / 32 % 4) + 2 * (o / 2 % 16) + cond (o % 2 == 1) 1 0 ≡ o
ssid_bits o lt = bits_step o (nat_le 128 o) (o % 2 == 1) refl refl lt

-- the octets before the seventh, without a fault
pub six_are_call : (os : List ℕ) (ssid : ℕ) → length os ≡ 7 → address_fault os ≡ None → ssid ≤ 15
    → IsCallsign (halves (get_or os 0 0 ∷ get_or os 1 0 ∷ get_or os 2 0 ∷ get_or os 3 0 ∷ get_or os 4 0 ∷ get_or os 5 0 ∷ [])) ssid
six_are_call os ssid len h small =
    let six = get_or os 0 0 ∷ get_or os 1 0 ∷ get_or os 2 0 ∷ get_or os 3 0 ∷ get_or os 4 0 ∷ get_or os 5 0 ∷ [] in
    let fault : fault_in six ≡ None = ap address_fault (sym (seven os len)) ∙ h in
    good_is_call six ssid refl fault small

pub seven_again : (os : List ℕ) → length os ≡ 7 → address_fault os ≡ None → get_or os 6 0 < 256
    → os ≡ doubles (halves (get_or os 0 0 ∷ get_or os 1 0 ∷ get_or os 2 0 ∷ get_or os 3 0 ∷ get_or os 4 0 ∷ get_or os 5 0 ∷ []))
    ++ (cond (nat_le 128 (get_or os 6 0)) 128 0 + 32 * (get_or os 6 0 / 32 % 4) + 2 * (get_or os 6 0 / 2 % 16) + cond (get_or os 6 0 % 2 == 1) 1 0) ∷ []
seven_again os len h lt =
    let six = get_or os 0 0 ∷ get_or os 1 0 ∷ get_or os 2 0 ∷ get_or os 3 0 ∷ get_or os 4 0 ∷ get_or os 5 0 ∷ [] in
    let fault : fault_in six ≡ None = ap address_fault (sym (seven os len)) ∙ h in
    seven os len ∙ (ap (λ xs. xs ++ get_or os 6 0 ∷ []) (sym (good six refl fault).doubles_are) ∙ ap (λ o. doubles (halves six) ++ o ∷ []) (sym (ssid_bits (get_or os 6 0) lt)))
