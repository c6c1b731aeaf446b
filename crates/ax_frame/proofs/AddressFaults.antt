-- Where the first fault of the addresses stands.
use Rattle.std.proofs.Common.{◌≡◌, ◌≤◌, ◌<◌, ◌+◌, ◌-◌, ◌%◌, ◌++◌, ◌∙◌, ℕ, refl, sym, ap, subst, List, ◌∷◌, length, take, drop, get_or, arith, Bool, true, false, cond}
use Rattle.std.specs.Prelude.{◌==◌, Option, Some, None, Result, Ok, Err, nat_lt}
use Rattle.std.proofs.lemmas.List.{take-append-drop, take-append-le, take_all, length-append, length-drop, length-take, get_or_at}
use Rattle.std.proofs.lemmas.Bool.Decides.{nat_tests}
use Rattle.ax_address.specs.declared.address_refusal.AddressRefusal.{AddressRefusal}
use Rattle.ax_address.specs.Octets as octets
use Rattle.ax_address.specs.Octets.{fault_in, address_fault}
use Rattle.ax_address.proofs.CallFaults.{drop_front}
use Rattle.ax_frame.specs.declared.frame.FrameRefusal.{FrameRefusal}
use Rattle.ax_frame.specs.declared.frame.FrameRefusal.TheVariants.{Short, BadCall}
use Rattle.ax_frame.specs.Reading.{extension_from, extension_at}
use Rattle.ax_frame.specs.Faults.{refused_place, IsPlaced}
use Rattle.ax_frame.proofs.Kept.{Kept, kept_less, kept_get_or, kept_drop}

-- ---- one address

pub record Extension (at len ssid : ℕ) (fault : Option AddressRefusal) (last : Bool) : Type 0 where
  pub none : fault ≡ None
  pub long : at + 7 ≤ len
  pub bit : (ssid % 2 == 1) ≡ last

abbrev ok_bool : Bool → Result Bool FrameRefusal
ok_bool b = Ok b

extension_told : (at len ssid : ℕ) (last t : Bool) → nat_lt len (at + 7) ≡ t → cond t (Err (Short len)) (ok_bool (ssid % 2 == 1)) ≡ ok_bool last → Extension at len ssid None last
extension_told at len ssid last true e h = absurd cc
extension_told at len ssid last false e h = record { none = refl; long = grind (arith, nat_tests); bit = cc }

extension_ok : (at len ssid : ℕ) (fault : Option AddressRefusal) (last : Bool) → extension_from at len ssid fault ≡ Ok last → Extension at len ssid fault last
extension_ok at len ssid None last h = extension_told at len ssid last (nat_lt len (at + 7)) refl h
extension_ok at len ssid (Some r) last h = absurd cc

pub extension_is : (at : ℕ) (os : List ℕ) (last : Bool) → address_fault (drop at os) ≡ None → at + 7 ≤ length os → (get_or os (at + 6) 0 % 2 == 1) ≡ last → extension_at at os ≡ Ok last
extension_is at os last none long bit =
    let enough : nat_lt (length os) (at + 7) ≡ false = grind (arith, nat_tests) in
    rw (none, enough, bit) refl

-- it depends on its seven octets alone
pub record Read (at : ℕ) (bytes : List ℕ) (last : Bool) : Type 0 where
  pub long : at + 7 ≤ length bytes
  pub none : address_fault (drop at bytes) ≡ None
  pub kept : (other : List ℕ) → Kept (at + 7) bytes other → extension_at at other ≡ Ok last

pub six_same : (at : ℕ) (bytes other : List ℕ) → Kept (at + 6) bytes other → address_fault (drop at other) ≡ address_fault (drop at bytes)
six_same at bytes other kept = ap fault_in (kept_drop at 6 bytes other kept)

pub extension_read : (at : ℕ) (bytes : List ℕ) (last : Bool) → extension_at at bytes ≡ Ok last → Read at bytes last
extension_read at bytes last h =
    let x = extension_ok at (length bytes) (get_or bytes (at + 6) 0) (address_fault (drop at bytes)) last h in
    record {
      long = x.long;
      none = x.none;
      kept = λ other kept. extension_is at other last (six_same at bytes other (kept_less (at + 6) (at + 7) bytes other (omega arith) kept) ∙ x.none) kept.long
          (ap (λ o. o % 2 == 1) (kept_get_or (at + 6) (at + 7) bytes other (omega arith) kept) ∙ x.bit);
    }

-- a fault in an address
pub record Bad (at : ℕ) (bytes : List ℕ) (e : FrameRefusal) : Type 0 where
  pub later : at ≤ refused_place e
  pub place : IsPlaced bytes e
  pub within : refused_place e ≤ length bytes
  pub stays : refused_place e < length bytes → (other : List ℕ) → Kept (refused_place e + 1) bytes other → extension_at at other ≡ Err e
  -- six octets for characters, whatever follows
  pub goes_on : (more : List ℕ) × (length (take (refused_place e) bytes ++ more) ≡ at + 6) × (address_fault (drop at (take (refused_place e) bytes ++ more)) ≡ None)

goes_on_from : octets.FrontGoesOn → (at p : ℕ) (bytes : List ℕ) → at + p ≤ length bytes → p ≤ 6 → address_fault (take p (drop at bytes)) ≡ None
    → (more : List ℕ) × (length (take (at + p) bytes ++ more) ≡ at + 6) × (address_fault (drop at (take (at + p) bytes ++ more)) ≡ None)
goes_on_from law at p bytes within six none =
    let front = take p (drop at bytes) in
    let len : length front ≡ p = omega (arith, length-take p (drop at bytes), length-drop at bytes, within) in
    let m = law front (omega (arith, len, six)) none in
    (m.0, omega (arith, length-append (take (at + p) bytes) m.0, length-take (at + p) bytes, length-append front m.0, m.1, len, within), ap address_fault (drop_front at p bytes m.0 within) ∙ m.2)

abbrev err_bool : FrameRefusal → Result Bool FrameRefusal
err_bool e = Err e

same_refusal : (d e : FrameRefusal) → err_bool d ≡ err_bool e → d ≡ e
same_refusal d e h = cc

bad_call : octets.FaultIsFirst → octets.FrontGoesOn → (at : ℕ) (bytes : List ℕ) (r : AddressRefusal) → address_fault (drop at bytes) ≡ Some r → Bad at bytes (BadCall (at + octets.refused_octet r))
bad_call first law at bytes r h =
    let p = octets.refused_octet r in
    let f = first (drop at bytes) r h in
    let there : at + p < length bytes = omega (arith, f.within, length-drop at bytes) in
    record {
      later = omega arith;
      place = there;
      within = omega (arith, there);
      stays = λ _ other kept.
          let next : (at + p) + 1 ≡ at + (p + 1) = omega arith in
          let same = kept_drop at (p + 1) bytes other (rw next at kept) in
          let whole : drop at other ≡ take (p + 1) (drop at bytes) ++ drop (p + 1) (drop at other) = sym (take-append-drop (p + 1) (drop at other)) ∙ ap (λ os. os ++ drop (p + 1) (drop at other)) same in
          let fault : address_fault (drop at other) ≡ Some r = ap address_fault whole ∙ f.stays (drop (p + 1) (drop at other)) in
          rw fault refl;
      goes_on = goes_on_from law at p bytes (omega (arith, there)) (omega (arith, f.among)) f.before;
    }

too_short : octets.FrontGoesOn → (at : ℕ) (bytes : List ℕ) → at ≤ length bytes → length bytes < at + 7 → address_fault (drop at bytes) ≡ None → Bad at bytes (Short (length bytes))
too_short law at bytes within short none =
    let p = length bytes - at in
    let all : at + p ≡ length bytes = omega (arith, within) in
    let whole : take p (drop at bytes) ≡ drop at bytes = take_all p (drop at bytes) (omega (arith, length-drop at bytes)) in
    record {
      later = within;
      place = refl;
      within = omega arith;
      stays = λ l. absurd (omega (arith, l));
      goes_on = rw all at (goes_on_from law at p bytes (omega (arith, all)) (omega (arith, short, within)) (ap address_fault whole ∙ none));
    }

bad_length : octets.FrontGoesOn → (at : ℕ) (bytes : List ℕ) (e : FrameRefusal) (t : Bool) → at ≤ length bytes → nat_lt (length bytes) (at + 7) ≡ t → address_fault (drop at bytes) ≡ None → cond t (err_bool (Short (length bytes))) (Ok (get_or bytes (at + 6) 0 % 2 == 1)) ≡ err_bool e → Bad at bytes e
bad_length law at bytes e true within t none h = subst (Bad at bytes) (same_refusal (Short (length bytes)) e h) (too_short law at bytes within (grind (arith, nat_tests)) none)
bad_length law at bytes e false within t none h = absurd cc

bad_by : octets.FaultIsFirst → octets.FrontGoesOn → (at : ℕ) (bytes : List ℕ) (e : FrameRefusal) (fault : Option AddressRefusal) → at ≤ length bytes → address_fault (drop at bytes) ≡ fault → extension_from at (length bytes) (get_or bytes (at + 6) 0) fault ≡ Err e → Bad at bytes e
bad_by first law at bytes e (Some r) within f h = subst (Bad at bytes) (same_refusal (BadCall (at + octets.refused_octet r)) e h) (bad_call first law at bytes r f)
bad_by first law at bytes e None within f h = bad_length law at bytes e (nat_lt (length bytes) (at + 7)) within refl f h

pub extension_bad : octets.FaultIsFirst → octets.FrontGoesOn → (at : ℕ) (bytes : List ℕ) (e : FrameRefusal) → at ≤ length bytes → extension_at at bytes ≡ Err e → Bad at bytes e
extension_bad first law at bytes e within h = bad_by first law at bytes e (address_fault (drop at bytes)) within refl h

-- six good octets, an octet with the SSID, and whatever follows
pub ended_by : (at : ℕ) (front tail : List ℕ) (ssid : ℕ) (last : Bool) → length front ≡ at + 6 → address_fault (drop at front) ≡ None → (ssid % 2 == 1) ≡ last → extension_at at (front ++ ssid ∷ tail) ≡ Ok last
ended_by at front tail ssid last len none bit =
    let kept : Kept (at + 6) front (front ++ ssid ∷ tail) = record {
      same = take-append-le (at + 6) front (ssid ∷ tail) (omega (arith, len));
      long = omega (arith, len, length-append front (ssid ∷ tail));
    } in
    let octet : get_or (front ++ ssid ∷ tail) (at + 6) 0 ≡ ssid = get_or_at front ssid tail 0 (at + 6) len in
    extension_is at (front ++ ssid ∷ tail) last (six_same at front (front ++ ssid ∷ tail) kept ∙ none) (omega (arith, len, length-append front (ssid ∷ tail))) (ap (λ o. o % 2 == 1) octet ∙ bit)
