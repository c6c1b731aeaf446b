-- Control fields: what is spelled so is read.
use Rattle.std.proofs.Common.{◌≡◌, ◌≤◌, ◌<◌, ◌+◌, ◌-◌, ◌*◌, ◌/◌, ◌%◌, ◌++◌, ◌∙◌, ℕ, refl, ap, inl, inr, List, length, arith, Bool, true, false}
use Rattle.std.specs.Prelude.{◌==◌, Option, Some, Ok, slice_get}
use Rattle.std.proofs.lemmas.Bool.Decides.{nat_tests}
use Rattle.ax_frame.specs.declared.control.Control.{Control}
use Rattle.ax_frame.specs.declared.control.Control.TheVariants.{I, Rr, Rnr, Rej, Srej, Sabm, Sabme, Disc, Dm, Ua, Frmr, Ui, Xid, Test}
use Rattle.ax_frame.specs.declared.control.Format.TheVariants.{Information, Supervisory, Unnumbered}
use Rattle.ax_frame.specs.declared.control.Format.{Format}
use Rattle.ax_frame.specs.Controls.{IsLinkModulus, format_octets, control_octets, NumbersFit, poll, low_bit}
use Rattle.ax_frame.specs.Reading.{unnumbered, numbered, poll_bit, control_from, control_or_short}

-- ---- octets taken apart

poll_of : (n : ℕ) (pf : Bool) (low : ℕ) → low < 16 → poll_bit (32 * n + poll pf + low) ≡ pf
poll_of n true low h = grind (arith, nat_tests)
poll_of n false low h = grind (arith, nat_tests)

poll_small : (pf : Bool) → poll pf ≤ 16
poll_small true = omega arith
poll_small false = omega arith

low_bit_of : (n : ℕ) (pf : Bool) → ((2 * n + low_bit pf) % 2 == 1) ≡ pf
low_bit_of n true = grind (arith, nat_tests)
low_bit_of n false = grind (arith, nat_tests)

half_of : (n : ℕ) (pf : Bool) → (2 * n + low_bit pf) / 2 ≡ n
half_of n true = omega arith
half_of n false = omega arith

high_of : (n : ℕ) (pf : Bool) (low : ℕ) → low < 16 → (32 * n + poll pf + low) / 32 ≡ n
high_of n true low h = omega arith
high_of n false low h = omega arith

low_of : (n : ℕ) (pf : Bool) (low : ℕ) → low < 16 → (32 * n + poll pf + low) % 16 ≡ low
low_of n true low h = omega arith
low_of n false low h = omega arith

-- ---- one field

abbrev read_again : ℕ → ℕ → Control → Format → List ℕ → Type 0
read_again size at c f more = control_or_short size at (slice_get (format_octets size f ++ more) 0) (slice_get (format_octets size f ++ more) 1) ≡ Ok (c, at + length (format_octets size f))

eight_again : (at nr low : ℕ) (pf : Bool) (c : Control) (next : Option ℕ) → low < 16 → (low % 4 == 3) ≡ false → numbered low (low / 2) nr pf ≡ Some c → control_from 8 at (32 * nr + poll pf + low) next ≡ Ok (c, at + 1)
eight_again at nr low pf c next h odd is =
    let b = 32 * nr + poll pf + low in
    let bits : (b % 4 == 3) ≡ false = ap (λ n. n == 3) (let k : b % 16 ≡ low = low_of nr pf low h in let e : b % 4 ≡ low % 4 = omega (arith, k) in e) ∙ odd in
    let middle : b / 2 % 8 ≡ low / 2 = let k : b % 16 ≡ low = low_of nr pf low h in omega (arith, k) in
    rw (bits, middle, low_of nr pf low h, high_of nr pf low h, poll_of nr pf low h, is) refl

wide_again : (at b nr : ℕ) (pf : Bool) (c : Control) → (b % 4 == 3) ≡ false → numbered b (b / 2) nr pf ≡ Some c → control_from 128 at b (Some (2 * nr + low_bit pf)) ≡ Ok (c, at + 2)
wide_again at b nr pf c odd is = rw (odd, half_of nr pf, low_bit_of nr pf, is) refl

one_again : (size at code : ℕ) (pf : Bool) (c : Control) (next : Option ℕ) → ((code + poll pf) % 4 == 3) ≡ true → (code + poll pf) - 16 * ((code + poll pf) / 16 % 2) ≡ code → poll_bit (code + poll pf) ≡ pf → unnumbered code pf ≡ Some c → control_from size at (code + poll pf) next ≡ Ok (c, at + 1)
one_again size at code pf c next three plain bit is = rw (three, plain, bit, is) refl

information_again : (size at ns nr : ℕ) (pf : Bool) (more : List ℕ) → IsLinkModulus size → ns < size → nr < size → read_again size at (I ns nr pf) (Information ns nr pf) more
information_again size at ns nr pf more (inl e) s r =
    let small : ns < 8 = rw (← e) s in
    let even : (2 * ns) % 2 ≡ 0 = omega arith in
    let half : (2 * ns) / 2 ≡ ns = omega arith in
    let is : numbered (2 * ns) ((2 * ns) / 2) nr pf ≡ Some (I ns nr pf) = rw (even, half) refl in
    let odd : ((2 * ns) % 4 == 3) ≡ false = grind (arith, nat_tests) in
    rw e (eight_again at nr (2 * ns) pf (I ns nr pf) (slice_get more 0) (omega arith) odd is)
information_again size at ns nr pf more (inr e) s r =
    let even : (2 * ns) % 2 ≡ 0 = omega arith in
    let half : (2 * ns) / 2 ≡ ns = omega arith in
    let is : numbered (2 * ns) ((2 * ns) / 2) nr pf ≡ Some (I ns nr pf) = rw (even, half) refl in
    let odd : ((2 * ns) % 4 == 3) ≡ false = grind (arith, nat_tests) in
    rw e (wide_again at (2 * ns) nr pf (I ns nr pf) odd is)

supervisory_again : (size at code nr : ℕ) (pf : Bool) (c : Control) (more : List ℕ) → IsLinkModulus size → code < 16 → (code % 4 == 3) ≡ false → numbered code (code / 2) nr pf ≡ Some c → read_again size at c (Supervisory code nr pf) more
supervisory_again size at code nr pf c more (inl e) small odd is = rw e (eight_again at nr code pf c (slice_get more 0) small odd is)
supervisory_again size at code nr pf c more (inr e) small odd is = rw e (wide_again at code nr pf c odd is)

-- ---- each kind

one_octet_again : (size at code : ℕ) (pf : Bool) (c : Control) (more : List ℕ) → ((code + poll pf) % 4 == 3) ≡ true → (code + poll pf) - 16 * ((code + poll pf) / 16 % 2) ≡ code → poll_bit (code + poll pf) ≡ pf → unnumbered code pf ≡ Some c → read_again size at c (Unnumbered code pf) more
one_octet_again size at code pf c more three plain bit is = one_again size at code pf c (slice_get more 0) three plain bit is

pub control_again : (size at : ℕ) (c : Control) (more : List ℕ) → IsLinkModulus size → NumbersFit size c → control_or_short size at (slice_get (control_octets size c ++ more) 0) (slice_get (control_octets size c ++ more) 1) ≡ Ok (c, at + length (control_octets size c))
control_again size at (I ns nr pf) more m fits = information_again size at ns nr pf more m fits.0 fits.1
control_again size at (Rr nr pf) more m fits = supervisory_again size at 0x01 nr pf (Rr nr pf) more m (omega arith) refl refl
control_again size at (Rnr nr pf) more m fits = supervisory_again size at 0x05 nr pf (Rnr nr pf) more m (omega arith) refl refl
control_again size at (Rej nr pf) more m fits = supervisory_again size at 0x09 nr pf (Rej nr pf) more m (omega arith) refl refl
control_again size at (Srej nr pf) more m fits = supervisory_again size at 0x0D nr pf (Srej nr pf) more m (omega arith) refl refl
control_again size at (Sabm true) more m fits = one_octet_again size at 0x2F true (Sabm true) more refl refl refl refl
control_again size at (Sabm false) more m fits = one_octet_again size at 0x2F false (Sabm false) more refl refl refl refl
control_again size at (Sabme true) more m fits = one_octet_again size at 0x6F true (Sabme true) more refl refl refl refl
control_again size at (Sabme false) more m fits = one_octet_again size at 0x6F false (Sabme false) more refl refl refl refl
control_again size at (Disc true) more m fits = one_octet_again size at 0x43 true (Disc true) more refl refl refl refl
control_again size at (Disc false) more m fits = one_octet_again size at 0x43 false (Disc false) more refl refl refl refl
control_again size at (Dm true) more m fits = one_octet_again size at 0x0F true (Dm true) more refl refl refl refl
control_again size at (Dm false) more m fits = one_octet_again size at 0x0F false (Dm false) more refl refl refl refl
control_again size at (Ua true) more m fits = one_octet_again size at 0x63 true (Ua true) more refl refl refl refl
control_again size at (Ua false) more m fits = one_octet_again size at 0x63 false (Ua false) more refl refl refl refl
control_again size at (Frmr true) more m fits = one_octet_again size at 0x87 true (Frmr true) more refl refl refl refl
control_again size at (Frmr false) more m fits = one_octet_again size at 0x87 false (Frmr false) more refl refl refl refl
control_again size at (Ui true) more m fits = one_octet_again size at 0x03 true (Ui true) more refl refl refl refl
control_again size at (Ui false) more m fits = one_octet_again size at 0x03 false (Ui false) more refl refl refl refl
control_again size at (Xid true) more m fits = one_octet_again size at 0xAF true (Xid true) more refl refl refl refl
control_again size at (Xid false) more m fits = one_octet_again size at 0xAF false (Xid false) more refl refl refl refl
control_again size at (Test true) more m fits = one_octet_again size at 0xE3 true (Test true) more refl refl refl refl
control_again size at (Test false) more m fits = one_octet_again size at 0xE3 false (Test false) more refl refl refl refl
