-- Calls are in the order of the numbers whose digits they are.
use Rattle.std.proofs.Common.{◌≡◌, ◌<◌, ◌≤◌, ◌+◌, ◌-◌, ◌*◌, ◌∙◌, ℕ, zero, suc, List, [], ◌∷◌, ◌++◌, length, replicate, refl, sym, ap, subst, arith}
use Rattle.std.specs.List.{AllByRecursion}
use Rattle.std.specs.Ordering.{nat_cmp, ordering_then, is_eq}
use Rattle.std.specs.declared.cmp.Ordering.{Ordering}
use Rattle.std.specs.declared.cmp.Ordering.TheVariants.{Less, Equal, Greater}
use Rattle.std.specs.Prelude.{◌==◌}
use Rattle.std.specs.Cmp.{both_tied, unsigned_ties}
use Rattle.std.specs.Cmp.Lexicographic.{slice_cmp, texts_ties}
use Rattle.std.proofs.lemmas.List.{length-append, length-replicate, append_assoc}
use Rattle.std.proofs.lemmas.Bool.Decides.{nat_tests}
use Rattle.ax_address.specs.Callsign.{Callsign, IsCallsign, IsCallChar, name_in, same_call, call_cmp, number_from, digits, AreDigits}

then_assoc : (a b c : Ordering) → ordering_then (ordering_then a b) c ≡ ordering_then a (ordering_then b c)
then_assoc Less b c = refl
then_assoc Equal b c = refl
then_assoc Greater b c = refl

then_equal : (a : Ordering) → ordering_then a Equal ≡ a
then_equal Less = refl
then_equal Equal = refl
then_equal Greater = refl

-- one digit more
step : (m n x y : ℕ) → x < 256 → y < 256 → nat_cmp (m * 256 + x) (n * 256 + y) ≡ ordering_then (nat_cmp m n) (nat_cmp x y)
step m n x y p q = grind (arith, nat_tests)

pub in_order : (m n : ℕ) (xs ys : List ℕ) → length xs ≡ length ys → AllByRecursion (λ b. b < 256) xs → AllByRecursion (λ b. b < 256) ys
    → nat_cmp (number_from m xs) (number_from n ys) ≡ ordering_then (nat_cmp m n) (slice_cmp nat_cmp xs ys)
in_order m n [] [] e p q = sym (then_equal (nat_cmp m n))
in_order m n [] (y ∷ ys) e p q = grind (arith, e)
in_order m n (x ∷ xs) [] e p q = grind (arith, e)
in_order m n (x ∷ xs) (y ∷ ys) e p q =
    let l : length xs ≡ length ys = grind (arith, e) in
    in_order (m * 256 + x) (n * 256 + y) xs ys l p.1 q.1
    ∙ ap (λ o. ordering_then o (slice_cmp nat_cmp xs ys)) (step m n x y p.0 q.0)
    ∙ then_assoc (nat_cmp m n) (nat_cmp x y) (slice_cmp nat_cmp xs ys)

-- texts of one length, and behind each one character and a zero
behind : (xs ys : List ℕ) (x y : ℕ) → length xs ≡ length ys
    → slice_cmp nat_cmp (xs ++ x ∷ 0 ∷ []) (ys ++ y ∷ 0 ∷ []) ≡ ordering_then (slice_cmp nat_cmp xs ys) (nat_cmp x y)
behind [] [] x y e = then_equal (nat_cmp x y)
behind [] (b ∷ ys) x y e = grind (arith, e)
behind (a ∷ xs) [] x y e = grind (arith, e)
behind (a ∷ xs) (b ∷ ys) x y e =
    let l : length xs ≡ length ys = grind (arith, e) in
    ap (ordering_then (nat_cmp a b)) (behind xs ys x y l) ∙ sym (then_assoc (nat_cmp a b) (slice_cmp nat_cmp xs ys) (nat_cmp x y))

longer_by_two : (xs ys : List ℕ) (x y : ℕ) → length xs ≡ length ys → length (xs ++ x ∷ 0 ∷ []) ≡ length (ys ++ y ∷ 0 ∷ [])
longer_by_two [] [] x y e = refl
longer_by_two [] (b ∷ ys) x y e = grind (arith, e)
longer_by_two (a ∷ xs) [] x y e = grind (arith, e)
longer_by_two (a ∷ xs) (b ∷ ys) x y e = let l : length xs ≡ length ys = grind (arith, e) in ap suc (longer_by_two xs ys x y l)

pub as_numbers : (a b : Callsign) → AreDigits a → AreDigits b
    → nat_cmp (number_from 0 (digits a)) (number_from 0 (digits b)) ≡ call_cmp a b
as_numbers a b p q =
    let l : length a.letters ≡ length b.letters = p.six ∙ sym q.six in
    in_order 0 0 (digits a) (digits b) (longer_by_two a.letters b.letters a.ssid b.ssid l) p.octets q.octets ∙ behind a.letters b.letters a.ssid b.ssid l

-- calls are the same where their numbers are
pub same_numbers : (a b : Callsign) → AreDigits a → AreDigits b → (number_from 0 (digits a) == number_from 0 (digits b)) ≡ same_call a b
same_numbers a b p q =
    unsigned_ties (number_from 0 (digits a)) (number_from 0 (digits b))
    ∙ ap is_eq (as_numbers a b p q)
    ∙ sym (both_tied _ _ _ _ (texts_ties a.letters b.letters) (unsigned_ties a.ssid b.ssid))

-- ---- each call is eight digits

is_octet : (b : ℕ) → IsCallChar b → b < 256
is_octet b h = grind (arith, nat_tests)

before : (name rest : List ℕ) → AllByRecursion IsCallChar name → AllByRecursion (λ b. b < 256) rest → AllByRecursion (λ b. b < 256) (name ++ rest)
before [] rest h r = r
before (b ∷ bs) rest h r = (is_octet b h.0, before bs rest h.1 r)

spaces_before : (n s : ℕ) → s ≤ 15 → AllByRecursion (λ b. b < 256) (replicate n 32 ++ s ∷ 0 ∷ [])
spaces_before zero s h = (omega arith, (omega arith, tt))
spaces_before (suc n) s h = (omega arith, spaces_before n s h)

pub are_digits : (c : Callsign) → IsCallsign c.letters c.ssid → AreDigits c
are_digits c h =
    let name = name_in c.letters in
    let pad = replicate (6 - length name) 32 in
    record {
      six = ap length h.spaces ∙ (length-append name pad ∙ (ap (λ k. length name + k) (length-replicate (6 - length name) 32) ∙ omega (arith, h.six)));
      octets = subst (AllByRecursion (λ b. b < 256))
          (sym (append_assoc name pad (c.ssid ∷ 0 ∷ [])) ∙ ap (λ xs. xs ++ c.ssid ∷ 0 ∷ []) (sym h.spaces))
          (before name (pad ++ c.ssid ∷ 0 ∷ []) h.chars (spaces_before (6 - length name) c.ssid h.small));
    }
