-- Control fields: what is read is spelled so.
use Rattle.std.proofs.Common.{◌≡◌, ◌≤◌, ◌<◌, ◌+◌, ◌-◌, ◌*◌, ◌/◌, ◌%◌, ◌++◌, ℕ, refl, sym, ap, inl, inr, List, [], ◌∷◌, length, drop, arith, Bool, true, false, cond}
use Rattle.std.specs.Prelude.{◌==◌, ◌⊎◌, Option, Some, None, Result, Ok, Err, slice_get, is_some}
use Rattle.std.proofs.lemmas.Bool.{eqb-true}
use Rattle.std.proofs.lemmas.Bool.Decides.{nat_tests}
use Rattle.ax_frame.specs.declared.control.Control.{Control}
use Rattle.ax_frame.specs.declared.control.Control.TheVariants.{I, Rr, Rnr, Rej, Srej, Sabm, Sabme, Disc, Dm, Ua, Frmr, Ui, Xid, Test}
use Rattle.ax_frame.specs.declared.control.Format.{Format}
use Rattle.ax_frame.specs.declared.control.Format.TheVariants.{Information, Supervisory, Unnumbered}
use Rattle.ax_frame.specs.declared.frame.FrameRefusal.{FrameRefusal}
use Rattle.ax_frame.specs.declared.frame.FrameRefusal.TheVariants.{Short, BadControl}
use Rattle.radio_base.specs.Modulus.{modulus_size}
use Rattle.radio_base.specs.declared.modulus.LinkModulus.{LinkModulus}
use Rattle.radio_base.specs.declared.modulus.LinkModulus.TheVariants.{Modulo8, Modulo128}
use Rattle.ax_frame.specs.Controls.{IsLinkModulus, format_of, format_octets, control_octets, NumbersFit, FormatFits, poll, low_bit}
use Rattle.ax_frame.specs.Reading.{has_code, supervisory, unnumbered, numbered, poll_bit, field_end, two_octets, control_or_short}
use Rattle.ax_frame.proofs.Words.{find_has, IsBytes}

-- ---- formats

unnumbered_code : (code k : ℕ) (pf : Bool) → (code == k) ≡ true → Unnumbered k pf ≡ Unnumbered code pf
unnumbered_code code k pf h = let e : k ≡ code = grind (arith, nat_tests) in ap (λ n. Unnumbered n pf) e

unnumbered_is : (code : ℕ) (pf : Bool) (c : Control) → unnumbered code pf ≡ Some c → format_of c ≡ Unnumbered code pf
unnumbered_is code pf c h =
    let found = find_has (λ d. has_code code (format_of d) ≡ true → format_of d ≡ Unnumbered code pf) (λ d. has_code code (format_of d))
    (Sabm pf ∷ Sabme pf ∷ Disc pf ∷ Dm pf ∷ Ua pf ∷ Frmr pf ∷ Ui pf ∷ Xid pf ∷ Test pf ∷ []) c
    (unnumbered_code code 0x2F pf, (unnumbered_code code 0x6F pf, (unnumbered_code code 0x43 pf, (unnumbered_code code 0x0F pf, (unnumbered_code code 0x63 pf, (unnumbered_code code 0x87 pf, (unnumbered_code code 0x03 pf, (unnumbered_code code 0xAF pf, (unnumbered_code code 0xE3 pf, tt))))))))) h in
    found.0 found.1

supervisory_code : (code k nr : ℕ) (pf : Bool) → (code == k) ≡ true → Supervisory k nr pf ≡ Supervisory code nr pf
supervisory_code code k nr pf h = let e : k ≡ code = grind (arith, nat_tests) in ap (λ n. Supervisory n nr pf) e

supervisory_is : (code nr : ℕ) (pf : Bool) (c : Control) → supervisory code nr pf ≡ Some c → format_of c ≡ Supervisory code nr pf
supervisory_is code nr pf c h =
    let found = find_has (λ d. has_code code (format_of d) ≡ true → format_of d ≡ Supervisory code nr pf) (λ d. has_code code (format_of d))
    (Rr nr pf ∷ Rnr nr pf ∷ Rej nr pf ∷ Srej nr pf ∷ []) c
    (supervisory_code code 0x01 nr pf, (supervisory_code code 0x05 nr pf, (supervisory_code code 0x09 nr pf, (supervisory_code code 0x0D nr pf, tt)))) h in
    found.0 found.1

numbered_step : (code ns nr : ℕ) (pf : Bool) (c : Control) (b : Bool) → (code % 2 == 0) ≡ b → cond b (Some (I ns nr pf)) (supervisory code nr pf) ≡ Some c → ((code % 2 ≡ 0) × (format_of c ≡ Information ns nr pf)) ⊎ (format_of c ≡ Supervisory code nr pf)
numbered_step code ns nr pf c true e h = let k : I ns nr pf ≡ c = cc in inl (grind (arith, nat_tests), ap format_of (sym k))
numbered_step code ns nr pf c false e h = inr (supervisory_is code nr pf c h)

numbered_is : (code ns nr : ℕ) (pf : Bool) (c : Control) → numbered code ns nr pf ≡ Some c → ((code % 2 ≡ 0) × (format_of c ≡ Information ns nr pf)) ⊎ (format_of c ≡ Supervisory code nr pf)
numbered_is code ns nr pf c h = numbered_step code ns nr pf c (code % 2 == 0) refl h

-- ---- octets put together again

poll_is : (b : ℕ) (p : Bool) → (b / 16 % 2 == 1) ≡ p → b / 16 % 2 * 16 ≡ poll p
poll_is b true e = grind (arith, nat_tests)
poll_is b false e = grind (arith, nat_tests)

low_bit_is : (n : ℕ) (p : Bool) → (n % 2 == 1) ≡ p → n % 2 ≡ low_bit p
low_bit_is n true e = grind (arith, nat_tests)
low_bit_is n false e = grind (arith, nat_tests)

unnumbered_octet : (b : ℕ) → b ≡ (b - 16 * (b / 16 % 2)) + poll (poll_bit b)
unnumbered_octet b = omega (arith, poll_is b (poll_bit b) refl)

information_octet : (b : ℕ) → b % 16 % 2 ≡ 0 → b ≡ 32 * (b / 32) + poll (poll_bit b) + 2 * (b / 2 % 8)
information_octet b e = omega (arith, poll_is b (poll_bit b) refl)

supervisory_octet : (b : ℕ) → b ≡ 32 * (b / 32) + poll (poll_bit b) + b % 16
supervisory_octet b = omega (arith, poll_is b (poll_bit b) refl)

second_octet : (n : ℕ) → n ≡ 2 * (n / 2) + low_bit (n % 2 == 1)
second_octet n = omega (arith, low_bit_is n (n % 2 == 1) refl)

-- ---- fields

-- what a control field took from the front of the octets
pub record TakesField (size at : ℕ) (rest : List ℕ) (c : Control) (end : ℕ) : Type 0 where
  pub fits : NumbersFit size c
  pub later : at ≤ end
  pub within : end ≤ at + length rest
  pub spelled : rest ≡ control_octets size c ++ drop (end - at) rest

abbrev ok_pair : Control × ℕ → Result (Control × ℕ) FrameRefusal
ok_pair x = Ok x

same_pair : (x y : Control × ℕ) → ok_pair x ≡ ok_pair y → x ≡ y
same_pair x y e = cc

field_takes : (at end : ℕ) (o : Option Control) (c : Control) (n : ℕ) → field_end at end o ≡ Ok (c, n) → (o ≡ Some c) × (n ≡ end)
field_takes at end None c n h = absurd cc
field_takes at end (Some d) c n h = let k : ok_pair (d, end) ≡ ok_pair (c, n) = h in let e : (d, end) ≡ (c, n) = same_pair (d, end) (c, n) k in (ap (λ (p : Control × ℕ). Some p.0) e, sym (ap (λ (p : Control × ℕ). p.1) e))

-- a field of one octet
one_octet : (size at b : ℕ) (more : List ℕ) (c : Control) (end : ℕ) (f : Format) → format_of c ≡ f → FormatFits size f → format_octets size f ≡ b ∷ [] → end ≡ at + 1 → TakesField size at (b ∷ more) c end
one_octet size at b more c end f is fits octets e =
    let len : end - at ≡ 1 = omega (arith, e) in
    record {
      fits = rw is fits;
      later = omega (arith, e);
      within = omega (arith, e);
      spelled = rw (is, octets, len) refl;
    }

two_octets_take : (size at b n : ℕ) (more : List ℕ) (c : Control) (end : ℕ) (f : Format) → format_of c ≡ f → FormatFits size f → format_octets size f ≡ b ∷ n ∷ [] → end ≡ at + 2 → TakesField size at (b ∷ n ∷ more) c end
two_octets_take size at b n more c end f is fits octets e =
    let len : end - at ≡ 2 = omega (arith, e) in
    record {
      fits = rw is fits;
      later = omega (arith, e);
      within = omega (arith, e);
      spelled = rw (is, octets, len) refl;
    }

octet_takes : (size at b : ℕ) (more : List ℕ) (c : Control) (end : ℕ) → size ≡ 8 → b < 256 → field_end at (at + 1) (numbered (b % 16) (b / 2 % 8) (b / 32) (poll_bit b)) ≡ Ok (c, end) → TakesField size at (b ∷ more) c end
octet_takes size at b more c end eight small h =
    let f = field_takes at (at + 1) (numbered (b % 16) (b / 2 % 8) (b / 32) (poll_bit b)) c end h in
    elim (numbered_is (b % 16) (b / 2 % 8) (b / 32) (poll_bit b) c f.0) as (λ _. TakesField size at (b ∷ more) c end) [
      | inl k ↦ one_octet size at b more c end (Information (b / 2 % 8) (b / 32) (poll_bit b)) k.1 (omega arith, omega arith)
          (rw eight (ap (λ o. o ∷ []) (sym (information_octet b k.0)))) f.1
      | inr k ↦ one_octet size at b more c end (Supervisory (b % 16) (b / 32) (poll_bit b)) k (omega arith)
          (rw eight (ap (λ o. o ∷ []) (sym (supervisory_octet b)))) f.1
    ]

extended_takes : (size at b n : ℕ) (more : List ℕ) (c : Control) (end : ℕ) → size ≡ 128 → b < 256 → n < 256 → field_end at (at + 2) (numbered b (b / 2) (n / 2) (n % 2 == 1)) ≡ Ok (c, end) → TakesField size at (b ∷ n ∷ more) c end
extended_takes size at b n more c end wide small less h =
    let f = field_takes at (at + 2) (numbered b (b / 2) (n / 2) (n % 2 == 1)) c end h in
    elim (numbered_is b (b / 2) (n / 2) (n % 2 == 1) c f.0) as (λ _. TakesField size at (b ∷ n ∷ more) c end) [
      | inl k ↦ let half : 2 * (b / 2) ≡ b = omega (arith, k.0) in
          two_octets_take size at b n more c end (Information (b / 2) (n / 2) (n % 2 == 1)) k.1 (omega arith, omega arith)
          (rw (wide, half) (ap (λ o. b ∷ o ∷ []) (sym (second_octet n)))) f.1
      | inr k ↦ two_octets_take size at b n more c end (Supervisory b (n / 2) (n % 2 == 1)) k (omega arith)
          (rw wide (ap (λ o. b ∷ o ∷ []) (sym (second_octet n)))) f.1
    ]

one_takes : (size at b : ℕ) (more : List ℕ) (c : Control) (end : ℕ) → field_end at (at + 1) (unnumbered (b - 16 * (b / 16 % 2)) (poll_bit b)) ≡ Ok (c, end) → TakesField size at (b ∷ more) c end
one_takes size at b more c end h =
    let f = field_takes at (at + 1) (unnumbered (b - 16 * (b / 16 % 2)) (poll_bit b)) c end h in
    one_octet size at b more c end (Unnumbered (b - 16 * (b / 16 % 2)) (poll_bit b)) (unnumbered_is (b - 16 * (b / 16 % 2)) (poll_bit b) c f.0) tt
    (ap (λ o. o ∷ []) (sym (unnumbered_octet b))) f.1

no_second : (at : ℕ) (b : Bool) (x : Control × ℕ) → cond b (Err (Short (at + 1))) (Err (BadControl at)) ≡ ok_pair x → ⊥
no_second at true x h = cc
no_second at false x h = cc

extended_takes_more : (size at b : ℕ) (more : List ℕ) (c : Control) (end : ℕ) → size ≡ 128 → IsBytes (b ∷ more) → two_octets at b (slice_get more 0) ≡ Ok (c, end) → TakesField size at (b ∷ more) c end
extended_takes_more size at b [] c end wide bytes h = absurd (no_second at (is_some (numbered b 0 0 false)) (c, end) h)
extended_takes_more size at b (n ∷ more) c end wide bytes h = extended_takes size at b n more c end wide (bytes 0) (bytes 1) h

-- a value says one of both moduli
pub is_of_link : (m : LinkModulus) → IsLinkModulus (modulus_size m)
is_of_link Modulo8 = inl refl
is_of_link Modulo128 = inr refl

extended_size : (size : ℕ) → IsLinkModulus size → (size == 8) ≡ false → size ≡ 128
extended_size size (inl e) h = let k : (size == 8) ≡ true = rw e refl in absurd cc
extended_size size (inr e) h = e

from_takes : (size at b : ℕ) (more : List ℕ) (c : Control) (end : ℕ) (t u : Bool) → IsLinkModulus size → IsBytes (b ∷ more) → (size == 8) ≡ u
    → cond t (field_end at (at + 1) (unnumbered (b - 16 * (b / 16 % 2)) (poll_bit b))) (cond u (field_end at (at + 1) (numbered (b % 16) (b / 2 % 8) (b / 32) (poll_bit b))) (two_octets at b (slice_get more 0))) ≡ Ok (c, end)
    → TakesField size at (b ∷ more) c end
from_takes size at b more c end true u m bytes e h = one_takes size at b more c end h
from_takes size at b more c end false true m bytes e h = octet_takes size at b more c end (eqb-true _ _ e) (bytes 0) h
from_takes size at b more c end false false m bytes e h = extended_takes_more size at b more c end (extended_size size m e) bytes h

-- what is read as a control field is spelled so
pub control_takes : (size at : ℕ) (rest : List ℕ) (c : Control) (end : ℕ) → IsLinkModulus size → IsBytes rest → control_or_short size at (slice_get rest 0) (slice_get rest 1) ≡ Ok (c, end) → TakesField size at rest c end
control_takes size at [] c end m bytes h = absurd cc
control_takes size at (b ∷ more) c end m bytes h = from_takes size at b more c end (b % 4 == 3) (size == 8) m bytes refl h
