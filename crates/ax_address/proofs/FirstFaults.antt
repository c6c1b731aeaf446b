-- The first fault of octets is the first octet that no call has at its place.
use Rattle.std.proofs.Common.{◌≡◌, ◌≤◌, ◌<◌, ◌+◌, ◌-◌, ◌/◌, ◌++◌, ◌∙◌, ℕ, zero, suc, refl, sym, ap, List, [], ◌∷◌, length, replicate, take, drop, arith, Bool, true, false, cond}
use Rattle.std.specs.Prelude.{◌==◌, Option, Some, None, slice_get}
use Rattle.std.specs.List.{prefix_len}
use Rattle.std.proofs.lemmas.List.{take_all, take-append-drop, take-take, drop-take, length-append, length-drop, length-map, length-take, length-replicate, append_assoc}
use Rattle.std.proofs.Math.Seq.{take-append-add}
use Rattle.std.proofs.lemmas.List.Sums.{prefix_len-le-length}
use Rattle.std.proofs.lemmas.Option.{slice_get_past, slice_get_within}
use Rattle.std.proofs.lemmas.Bool.Decides.{nat_tests}
use Rattle.ax_address.specs.declared.address_refusal.AddressRefusal.{AddressRefusal}
use Rattle.ax_address.specs.declared.address_refusal.AddressRefusal.TheVariants.{BadChar, BadPadding}
use Rattle.ax_address.specs.Callsign.{padded}
use Rattle.ax_address.specs.Octets.{is_char_octet, is_space_octet, good_octets, refusal_at, refused_octet, fault_in, address_fault, FaultIsFirst, FrontGoesOn}
use Rattle.ax_address.proofs.CallOctets.{halves, doubles, chars, spaces, none_past, no_refusal}
use Rattle.ax_address.proofs.AddressLaws.{name_has_none, doubles-padded}
use Rattle.ax_address.proofs.CallFaults.{drop_front}

-- ---- how many at the front pass a test, where the octets behind the first that doesn't are others

kept_step : (p : ℕ → Bool) (xs ys : List ℕ) (o : ℕ) (b : Bool) → p o ≡ b → (b ≡ true → prefix_len p xs ≡ prefix_len p ys) → cond b (1 + prefix_len p xs) 0 ≡ cond b (1 + prefix_len p ys) 0
kept_step p xs ys o true e ih = ap (λ n. 1 + n) (ih refl)
kept_step p xs ys o false e ih = refl

later_of : (p : ℕ → Bool) (os : List ℕ) (o k : ℕ) (b : Bool) → b ≡ true → cond b (1 + prefix_len p os) 0 < suc k → prefix_len p os < k
later_of p os o k true e h = omega (arith, h)
later_of p os o k false e h = absurd cc

-- so many, and one that doesn't pass, are there
prefix_kept : (p : ℕ → Bool) (os more : List ℕ) (k : ℕ) → prefix_len p os < k → prefix_len p os < length os → prefix_len p (take k os ++ more) ≡ prefix_len p os
prefix_kept p [] more k h l = absurd (omega (arith, l))
prefix_kept p (o ∷ os) more zero h l = absurd (omega (arith, h))
prefix_kept p (o ∷ os) more (suc k) h l =
    kept_step p (take k os ++ more) os o (p o) refl
    (λ e. prefix_kept p os more k (later_of p os o k (p o) e h) (later_of p os o (length os) (p o) e l))

not_more : (p : ℕ → Bool) (os : List ℕ) (k : ℕ) (b : Bool) → b ≡ true → cond b (1 + prefix_len p os) 0 ≤ suc k → prefix_len p os ≤ k
not_more p os k true e h = omega (arith, h)
not_more p os k false e h = absurd cc

none_passes : (p : ℕ → Bool) (os : List ℕ) (b : Bool) → cond b (1 + prefix_len p os) 0 ≤ 0 → 0 ≡ cond b (1 + prefix_len p os) 0
none_passes p os true h = absurd (omega (arith, h))
none_passes p os false h = refl

-- no more than so many octets are there
prefix_taken : (p : ℕ → Bool) (os : List ℕ) (k : ℕ) → prefix_len p os ≤ k → prefix_len p (take k os) ≡ prefix_len p os
prefix_taken p [] zero h = refl
prefix_taken p [] (suc k) h = refl
prefix_taken p (o ∷ os) zero h = none_passes p os (p o) h
prefix_taken p (o ∷ os) (suc k) h = kept_step p (take k os) os o (p o) refl (λ e. prefix_taken p os k (not_more p os k (p o) e h))

get_kept : (i k : ℕ) (os more : List ℕ) → i < k → i < length os → slice_get (take k os ++ more) i ≡ slice_get os i
get_kept i k [] more h l = absurd (omega (arith, l))
get_kept i zero (o ∷ os) more h l = absurd (omega (arith, h))
get_kept zero (suc k) (o ∷ os) more h l = refl
get_kept (suc i) (suc k) (o ∷ os) more h l = get_kept i k os more (omega (arith, h)) (omega (arith, l))

-- ---- the good octets

good_kept_by : (n g : ℕ) (os more : List ℕ) (b : Bool) → (n == 0) ≡ b → cond b 0 (n + prefix_len is_space_octet (drop n os)) ≡ g → g < length os → cond b 0 (n + prefix_len is_space_octet (drop n (take (g + 1) os ++ more))) ≡ g
good_kept_by n g os more true e is l = is
good_kept_by n g os more false e is l =
    let m = prefix_len is_space_octet (drop n os) in
    let next : g + 1 ≡ n + (m + 1) = omega (arith, is) in
    let rest : drop n (take (g + 1) os ++ more) ≡ take (m + 1) (drop n os) ++ more = rw next (drop_front n (m + 1) os more (omega (arith, is, l))) in
    let len : length (drop n os) ≡ length os - n = length-drop n os in
    let same : prefix_len is_space_octet (take (m + 1) (drop n os) ++ more) ≡ m = prefix_kept is_space_octet (drop n os) more (m + 1) (omega arith) (omega (arith, len, is, l)) in
    ap (λ k. n + k) (ap (prefix_len is_space_octet) rest ∙ same) ∙ is

chars_most : (n m : ℕ) (b : Bool) → (n == 0) ≡ b → n ≤ cond b 0 (n + m)
chars_most n m true e = grind (arith, nat_tests)
chars_most n m false e = omega arith

chars_within : (os : List ℕ) → prefix_len is_char_octet os ≤ good_octets os
chars_within os = chars_most (prefix_len is_char_octet os) (prefix_len is_space_octet (drop (prefix_len is_char_octet os) os)) (prefix_len is_char_octet os == 0) refl

good_kept : (os more : List ℕ) → good_octets os < length os → good_octets (take (good_octets os + 1) os ++ more) ≡ good_octets os
good_kept os more l =
    let n = prefix_len is_char_octet os in
    let g = good_octets os in
    let within = chars_within os in
    let same : prefix_len is_char_octet (take (g + 1) os ++ more) ≡ n = prefix_kept is_char_octet os more (g + 1) (omega (arith, within)) (omega (arith, within, l)) in
    rw same (good_kept_by n g os more (n == 0) refl refl l)

good_taken_by : (n g : ℕ) (os : List ℕ) (b : Bool) → (n == 0) ≡ b → cond b 0 (n + prefix_len is_space_octet (drop n os)) ≡ g → cond b 0 (n + prefix_len is_space_octet (drop n (take g os))) ≡ g
good_taken_by n g os true e is = is
good_taken_by n g os false e is =
    let m = prefix_len is_space_octet (drop n os) in
    let rest : drop n (take g os) ≡ take m (drop n os) = rw (← is) (drop-take n m os) in
    ap (λ k. n + k) (ap (prefix_len is_space_octet) rest ∙ prefix_taken is_space_octet (drop n os) m (omega arith)) ∙ is

good_taken : (os : List ℕ) → good_octets (take (good_octets os) os) ≡ good_octets os
good_taken os =
    let n = prefix_len is_char_octet os in
    let g = good_octets os in
    let same : prefix_len is_char_octet (take g os) ≡ n = prefix_taken is_char_octet os g (chars_within os) in
    rw same (good_taken_by n g os (n == 0) refl refl)

-- ---- the fault

abbrev some_refusal : AddressRefusal → Option AddressRefusal
some_refusal r = Some r

placed_by : (at : ℕ) (r : AddressRefusal) (b : Bool) → some_refusal (cond b (BadPadding at) (BadChar at)) ≡ some_refusal r → refused_octet r ≡ at
placed_by at r true e = let k : BadPadding at ≡ r = cc in ap refused_octet (sym k)
placed_by at r false e = let k : BadChar at ≡ r = cc in ap refused_octet (sym k)

refused_at : (at : ℕ) (o : Option ℕ) (r : AddressRefusal) → refusal_at at o ≡ Some r → (n : ℕ) × (o ≡ Some n) × (refused_octet r ≡ at)
refused_at at None r h = absurd cc
refused_at at (Some n) r h = (n, refl, placed_by at r (is_char_octet n) h)

-- what holds of the six octets for characters, or of fewer
record Placed (os : List ℕ) (r : AddressRefusal) : Type 0 where
  place : refused_octet r ≡ good_octets os
  within : good_octets os < length os

placed : (os : List ℕ) (r : AddressRefusal) → fault_in os ≡ Some r → Placed os r
placed os r h =
    let f = refused_at (good_octets os) (slice_get os (good_octets os)) r h in
    record { place = f.2; within = slice_get_within os (good_octets os) f.0 f.1 }

stays_in : (os more : List ℕ) (r : AddressRefusal) → fault_in os ≡ Some r → fault_in (take (refused_octet r + 1) os ++ more) ≡ Some r
stays_in os more r h =
    let p = placed os r h in
    let g = good_octets os in
    let good : good_octets (take (g + 1) os ++ more) ≡ g = good_kept os more p.within in
    let same : slice_get (take (g + 1) os ++ more) g ≡ slice_get os g = get_kept g (g + 1) os more (omega arith) p.within in
    rw p.place (rw (good, same) h)

before_in : (os : List ℕ) (r : AddressRefusal) → fault_in os ≡ Some r → fault_in (take (refused_octet r) os) ≡ None
before_in os r h =
    let p = placed os r h in
    let g = good_octets os in
    let past : slice_get (take g os) g ≡ None = slice_get_past (take g os) g (omega (arith, length-take g os)) in
    rw p.place (rw (good_taken os, past) refl)

-- the first six of a front of at most six octets, and of what stands behind it
six_of : (os more : List ℕ) → length os ≤ 6 → take 6 (os ++ more) ≡ os ++ take (6 - length os) more
six_of os more h =
    let e : length os + (6 - length os) ≡ 6 = omega (arith, h) in
    ap (λ n. take n (os ++ more)) (sym e) ∙ take-append-add os more (6 - length os)

pub fault_is_first : FaultIsFirst
fault_is_first octets r h =
    let os = take 6 octets in
    let p = placed os r h in
    let len : length os ≤ 6 = omega (arith, length-take 6 octets) in
    let n : refused_octet r < length os = omega (arith, p.place, p.within) in
    let front : take (refused_octet r + 1) octets ≡ take (refused_octet r + 1) os = sym (take-take (refused_octet r + 1) 6 octets (omega (arith, n, len))) in
    let short : length (take (refused_octet r + 1) os) ≤ 6 = omega (arith, length-take (refused_octet r + 1) os, len) in
    let before : take (refused_octet r) octets ≡ take (refused_octet r) os = sym (take-take (refused_octet r) 6 octets (omega (arith, n, len))) in
    let all : take 6 (take (refused_octet r) os) ≡ take (refused_octet r) os = take_all 6 (take (refused_octet r) os) (omega (arith, length-take (refused_octet r) os, len)) in
    record {
      within = omega (arith, n, length-take 6 octets);
      among = omega (arith, n, len);
      stays = λ more. rw (front, six_of (take (refused_octet r + 1) os) more short) (stays_in os _ r h);
      before = rw (before, all) (before_in os r h);
    }

-- ---- a front without a fault

no_chars : (os : List ℕ) (n : ℕ) (b : Bool) → (n == 0) ≡ b → length os ≤ cond b 0 (n + prefix_len is_space_octet (drop n os)) → n ≡ 0 → os ≡ []
no_chars [] n b e h z = refl
no_chars (o ∷ os) n true e h z = absurd (omega (arith, h))
no_chars (o ∷ os) n false e h z = absurd (let t : (n == 0) ≡ true = grind (arith, nat_tests) in cc)

spaces_add : (a b : ℕ) → replicate {A = ℕ} a 64 ++ replicate {A = ℕ} b 64 ≡ replicate (a + b) 64
spaces_add zero b = let e : 0 + b ≡ b = omega arith in rw e refl
spaces_add (suc a) b = let e : suc a + b ≡ suc (a + b) = omega arith in rw e (ap (λ xs. 64 ∷ xs) (spaces_add a b))

-- characters and spaces go on with spaces
goes_on : (os : List ℕ) (n : ℕ) → n ≡ prefix_len is_char_octet os → 0 < n → length os ≤ 6 → length os ≤ n + prefix_len is_space_octet (drop n os) → address_fault (os ++ replicate (6 - length os) 64) ≡ None
goes_on os n is some six past =
    let name = halves (take n os) in
    let c = chars os in
    let within : n ≤ length os = rw is (prefix_len-le-length is_char_octet os) in
    let name_len : length name ≡ n = omega (arith, length-map (take n os) (λ o. o / 2), length-take n os, within) in
    let len : length (drop n os) ≡ length os - n = length-drop n os in
    let rest : drop n os ≡ replicate (length os - n) 64 = spaces (drop n os) (omega (arith, len, past)) ∙ ap (λ k. replicate k 64) len in
    let letters : doubles name ≡ take n os = rw is c.1 in
    let count : (length os - n) + (6 - length os) ≡ 6 - length name = omega (arith, name_len, within, six) in
    let all : os ++ replicate (6 - length os) 64 ≡ doubles (padded name) =
    ap (λ xs. xs ++ replicate (6 - length os) 64) (sym (take-append-drop n os))
    ∙ (append_assoc (take n os) (drop n os) (replicate (6 - length os) 64)
    ∙ (ap (λ xs. take n os ++ (xs ++ replicate (6 - length os) 64)) rest
    ∙ (ap (λ xs. take n os ++ xs) (spaces_add (length os - n) (6 - length os) ∙ ap (λ k. replicate k 64) count)
    ∙ (ap (λ xs. xs ++ replicate (6 - length name) 64) (sym letters) ∙ sym (doubles-padded name))))) in
    let six_all : length (doubles (padded name)) ≤ 6 = rw (← all) (omega (arith, length-append os (replicate (6 - length os) 64), length-replicate {A = ℕ} (6 - length os) 64, six)) in
    ap address_fault all ∙ (ap fault_in (take_all 6 (doubles (padded name)) six_all) ∙ name_has_none name (rw is c.0) (omega (arith, name_len, some)) (omega (arith, name_len, within, six)))

goes_on_by : (os : List ℕ) (b : Bool) → (prefix_len is_char_octet os == 0) ≡ b → length os ≤ 6 → length os ≤ good_octets os → (more : List ℕ) × (length (os ++ more) ≡ 6) × (address_fault (os ++ more) ≡ None)
goes_on_by os true e six past =
    let none : prefix_len is_char_octet os ≡ 0 = grind (arith, nat_tests) in
    let empty : os ≡ [] = no_chars os (prefix_len is_char_octet os) (prefix_len is_char_octet os == 0) refl past none in
    rw empty (130 ∷ replicate 5 64, refl, refl)
goes_on_by os false e six past =
    let some : 0 < prefix_len is_char_octet os = grind (arith, nat_tests) in
    let all : length os ≤ prefix_len is_char_octet os + prefix_len is_space_octet (drop (prefix_len is_char_octet os) os) = rw e at past in
    (replicate (6 - length os) 64, omega (arith, length-append os (replicate (6 - length os) 64), length-replicate {A = ℕ} (6 - length os) 64, six), goes_on os (prefix_len is_char_octet os) refl some six all)

pub front_goes_on : FrontGoesOn
front_goes_on front six h =
    let all : take 6 front ≡ front = take_all 6 front six in
    let none : fault_in front ≡ None = rw all at h in
    let past : length front ≤ good_octets front = none_past front (good_octets front) (no_refusal (good_octets front) (slice_get front (good_octets front)) none) in
    goes_on_by front (prefix_len is_char_octet front == 0) refl six past
