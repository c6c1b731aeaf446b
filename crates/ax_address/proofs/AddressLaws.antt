-- What is spelled has no fault, and is spelled once.
use Rattle.std.proofs.Common.{◌≡◌, ◌≤◌, ◌<◌, ◌+◌, ◌-◌, ◌*◌, ◌/◌, ◌%◌, ◌++◌, ◌∙◌, ℕ, zero, suc, refl, sym, ap, subst, List, [], ◌∷◌, length, replicate, drop, arith, Bool, true, false, cond}
use Rattle.std.specs.Prelude.{◌==◌, None, Result, Ok, Err, IfOk, nat_le, slice_get}
use Rattle.std.specs.List.{prefix_len, AllByRecursion}
use Rattle.std.specs.Result.{result_err}
use Rattle.std.proofs.lemmas.List.{take_at, drop_at, length-append, length-map, length-replicate, map-append, same_from_push}
use Rattle.std.proofs.lemmas.List.Folds.{prefix_len-replicate}
use Rattle.std.proofs.Math.Bridge.{le_prop}
use Rattle.std.proofs.lemmas.Bool.Decides.{nat_tests}
use Rattle.ax_address.specs.declared.address.Address.{Address}
use Rattle.ax_address.specs.declared.address_refusal.AddressRefusal.{AddressRefusal}
use Rattle.ax_address.specs.Callsign.{Callsign, IsCallsign, IsCallChar, name_in, padded}
use Rattle.ax_address.specs.Octets.{SpellsAddress, SpelledWithoutFault, SpelledOnce, ssid_octet, is_char_octet, is_space_octet, good_octets, fault_in, address_fault}
use Rattle.ax_address.proofs.CallOctets.{doubles, halves, doubles-replicate}

-- ---- without a fault

char_doubled : (b : ℕ) → IsCallChar b → is_char_octet (2 * b) ≡ true
char_doubled b h = let half : (2 * b) / 2 ≡ b = omega arith in let even : (2 * b) % 2 ≡ 0 = omega arith in rw (half, even) h

no_char_in_spaces : (n : ℕ) → prefix_len is_char_octet (replicate n 64) ≡ 0
no_char_in_spaces zero = refl
no_char_in_spaces (suc n) = refl

name_front : (name : List ℕ) (n : ℕ) → AllByRecursion IsCallChar name → prefix_len is_char_octet (doubles name ++ replicate n 64) ≡ length name
name_front [] n h = no_char_in_spaces n
name_front (b ∷ bs) n h = rw (char_doubled b h.0, name_front bs n h.1) (omega arith)

past_none : (os : List ℕ) (n : ℕ) → length os ≤ n → slice_get os n ≡ None
past_none [] n h = refl
past_none (o ∷ os) zero h = absurd (omega arith)
past_none (o ∷ os) (suc n) h = past_none os n (omega arith)

pub doubles-padded : (name : List ℕ) → doubles (padded name) ≡ doubles name ++ replicate (6 - length name) 64
doubles-padded name = map-append (λ b. 2 * b) name (replicate (6 - length name) 32) ∙ ap (λ xs. doubles name ++ xs) (doubles-replicate (6 - length name))

pub name_has_none : (name : List ℕ) → AllByRecursion IsCallChar name → 0 < length name → length name ≤ 6 → fault_in (doubles (padded name)) ≡ None
name_has_none name h some six =
    let os = doubles name ++ replicate (6 - length name) 64 in
    let front : prefix_len is_char_octet os ≡ length name = name_front name (6 - length name) h in
    let some' : (length name == 0) ≡ false = grind (arith, nat_tests) in
    let rest : drop (length name) os ≡ replicate (6 - length name) 64 = drop_at (doubles name) (replicate (6 - length name) 64) (length name) (length-map name (λ b. 2 * b)) in
    let spaces : prefix_len is_space_octet (drop (length name) os) ≡ 6 - length name = ap (prefix_len is_space_octet) rest ∙ prefix_len-replicate is_space_octet (6 - length name) 64 refl in
    let all : good_octets os ≡ 6 = rw (front, some', spaces) (omega arith) in
    let len : length os ≤ 6 = omega (arith, length-append (doubles name) (replicate (6 - length name) 64), length-map name (λ b. 2 * b), length-replicate {A = ℕ} (6 - length name) 64) in
    let none : slice_get os (good_octets os) ≡ None = past_none os (good_octets os) (omega (arith, all)) in
    ap fault_in (doubles-padded name) ∙ rw none refl

-- a call's six characters have no fault, doubled, whatever follows them
pub call_has_none : (letters : List ℕ) (ssid : ℕ) (rest : List ℕ) → IsCallsign letters ssid → address_fault (doubles letters ++ rest) ≡ None
call_has_none letters ssid rest h =
    let name = name_in letters in
    let six : length (padded name) ≡ 6 = omega (arith, length-append name (replicate (6 - length name) 32), length-replicate {A = ℕ} (6 - length name) 32, h.six) in
    let len : length (doubles (padded name)) ≡ 6 = length-map (padded name) (λ b. 2 * b) ∙ six in
    ap (λ ls. address_fault (doubles ls ++ rest)) h.spaces ∙ (ap fault_in (take_at (doubles (padded name)) rest 6 len) ∙ name_has_none name h.chars h.some h.six)

pub spelled_without_fault : SpelledWithoutFault
spelled_without_fault a last octets h = ap address_fault h.spelled ∙ call_has_none a.call.letters a.call.ssid (ssid_octet a last ∷ []) h.is_call

-- ---- once

pub halves-doubles : (xs : List ℕ) → halves (doubles xs) ≡ xs
halves-doubles [] = refl
halves-doubles (x ∷ xs) = let half : (2 * x) / 2 ≡ x = omega arith in rw (half, halves-doubles xs) refl

abbrev pub bits : Bool → ℕ → ℕ → Bool → ℕ
bits b r s l = cond b 128 0 + 32 * r + 2 * s + cond l 1 0

pub bits_are : (b : Bool) (r s : ℕ) (l : Bool) → r ≤ 3 → s ≤ 15 → (nat_le 128 (bits b r s l) ≡ b) × (bits b r s l / 32 % 4 ≡ r) × (bits b r s l / 2 % 16 ≡ s) × ((bits b r s l % 2 == 1) ≡ l)
bits_are true r s true rs ss = (grind (arith, nat_tests), omega arith, omega arith, grind (arith, nat_tests))
bits_are true r s false rs ss = (grind (arith, nat_tests), omega arith, omega arith, grind (arith, nat_tests))
bits_are false r s true rs ss = (grind (arith, nat_tests), omega arith, omega arith, grind (arith, nat_tests))
bits_are false r s false rs ss = (grind (arith, nat_tests), omega arith, omega arith, grind (arith, nat_tests))

bits_once : (b c : Bool) (r q s t : ℕ) (l m : Bool) → r ≤ 3 → q ≤ 3 → s ≤ 15 → t ≤ 15 → bits b r s l ≡ bits c q t m → (b ≡ c) × (r ≡ q) × (s ≡ t) × (l ≡ m)
bits_once b c r q s t l m rs qs ss ts e =
    let x = bits_are b r s l rs ss in
    let y = bits_are c q t m qs ts in
    (sym x.0 ∙ ap (nat_le 128) e ∙ y.0, sym x.1 ∙ ap (λ n. n / 32 % 4) e ∙ y.1, sym x.2 ∙ ap (λ n. n / 2 % 16) e ∙ y.2, sym x.3 ∙ ap (λ n. n % 2 == 1) e ∙ y.3)

made : (c : Callsign) (b : Bool) (r : ℕ) → r ≤ 3 → Address
made c b r rs = record { call = c; bit7 = b; reserved = r; two_bits = rs }

made_again : (c : Callsign) (b : Bool) (r q : ℕ) → r ≡ q → (rs : r ≤ 3) (qs : q ≤ 3) → made c b r rs ≡ made c b q qs
made_again c b r q e rs qs = subst (λ (k : ℕ). (ks : k ≤ 3) → made c b r rs ≡ made c b k ks) e (λ ks. ap (made c b r) (le_prop rs ks)) qs

pub same_address : (a b : Address) → a.call ≡ b.call → a.bit7 ≡ b.bit7 → a.reserved ≡ b.reserved → a ≡ b
unfolding made
same_address a b c d e =
    let first : a ≡ made b.call a.bit7 a.reserved a.two_bits = ap (λ k. made k a.bit7 a.reserved a.two_bits) c in
    let second : made b.call a.bit7 a.reserved a.two_bits ≡ made b.call b.bit7 a.reserved a.two_bits = ap (λ k. made b.call k a.reserved a.two_bits) d in
    first ∙ second ∙ made_again b.call b.bit7 a.reserved b.reserved e a.two_bits b.two_bits

pub same_call_is : (x y : Callsign) → x.letters ≡ y.letters → x.ssid ≡ y.ssid → x ≡ y
same_call_is x y l s = ap (λ ls. record x { letters = ls }) l ∙ ap (λ n. record y { ssid = n }) s

pub spelled_once : SpelledOnce
spelled_once a b last end octets g h =
    let parts = same_from_push (doubles a.call.letters) (doubles b.call.letters) (ssid_octet a last) (ssid_octet b end) (sym g.spelled ∙ h.spelled) in
    let letters : a.call.letters ≡ b.call.letters = sym (halves-doubles a.call.letters) ∙ ap halves parts.0 ∙ halves-doubles b.call.letters in
    let same = bits_once a.bit7 b.bit7 a.reserved b.reserved a.call.ssid b.call.ssid last end a.two_bits b.two_bits g.is_call.small h.is_call.small parts.1 in
    (same_address a b (same_call_is a.call b.call letters same.2) same.0 same.1, same.3)

pub reads_only : (octets : List ℕ) (r : Result (Address × Bool) AddressRefusal) → IfOk r (λ x. SpellsAddress x.0 x.1 octets) → result_err r ≡ address_fault octets → (a : Address) (last : Bool) → SpellsAddress a last octets → r ≡ Ok (a, last)
reads_only octets (Ok x) found refused a last h =
    let same = spelled_once x.0 a x.1 last octets found h in
    ap Ok (ap (λ k. (k, x.1)) same.0 ∙ ap (λ l. (a, l)) same.1)
reads_only octets (Err e) found refused a last h =
    let none : address_fault octets ≡ None = spelled_without_fault a last octets h in
    absurd cc
