-- Where the first fault of a call stands.
use Rattle.std.proofs.Common.{◌≡◌, ◌≤◌, ◌<◌, ◌+◌, ◌++◌, ◌∙◌, ℕ, ap, List, length, take, drop, arith}
use Rattle.std.specs.Prelude.{Option, Some, None}
use Rattle.std.proofs.lemmas.List.{drop-append-le, drop-take, take-append-le, length-append, length-drop, length-take}
use Rattle.ax_address.specs.declared.address_refusal.AddressRefusal.{AddressRefusal}
use Rattle.ax_address.specs.Octets.{FaultIsFirst, FrontGoesOn, address_fault, fault_in, refused_octet}

-- from a place on, of a front and what is put behind it
pub drop_front : (at n : ℕ) (os more : List ℕ) → at + n ≤ length os → drop at (take (at + n) os ++ more) ≡ take n (drop at os) ++ more
drop_front at n os more h = drop-append-le at (take (at + n) os) more (omega (arith, length-take (at + n) os, h)) ∙ ap (λ xs. xs ++ more) (drop-take at n os)

-- six octets without a fault have none, whatever is put behind them
pub still_none : (at : ℕ) (os more : List ℕ) → length os ≡ at + 6 → address_fault (drop at os) ≡ None → address_fault (drop at (os ++ more)) ≡ None
still_none at os more len none =
    ap address_fault (drop-append-le at os more (omega (arith, len))) ∙ (ap fault_in (take-append-le 6 (drop at os) more (omega (arith, length-drop at os, len))) ∙ none)

-- a fault in the call that stands at a place
pub record CallBad (at : ℕ) (os : List ℕ) (r : AddressRefusal) : Type 0 where
  pub within : at + refused_octet r < length os
  pub among : refused_octet r < 6
  pub stays : (more : List ℕ) → address_fault (drop at (take (at + refused_octet r + 1) os ++ more)) ≡ Some r
  -- the six octets are completed
  pub more : List ℕ
  pub six : length (take (at + refused_octet r) os ++ more) ≡ at + 6
  pub none : address_fault (drop at (take (at + refused_octet r) os ++ more)) ≡ None

pub call_bad : FaultIsFirst → FrontGoesOn → (at : ℕ) (os : List ℕ) (r : AddressRefusal) → address_fault (drop at os) ≡ Some r → CallBad at os r
call_bad first law at os r h =
    let p = refused_octet r in
    let f = first (drop at os) r h in
    let there : at + p < length os = omega (arith, f.within, length-drop at os) in
    let front = take p (drop at os) in
    let len : length front ≡ p = omega (arith, length-take p (drop at os), f.within) in
    let m = law front (omega (arith, len, f.among)) f.before in
    let next : at + p + 1 ≡ at + (p + 1) = omega arith in
    record {
      within = there;
      among = f.among;
      stays = λ more. rw next (ap address_fault (drop_front at (p + 1) os more (omega (arith, there))) ∙ f.stays more);
      more = m.0;
      six = omega (arith, length-append (take (at + p) os) m.0, length-take (at + p) os, length-append front m.0, m.1, len, there);
      none = ap address_fault (drop_front at p os m.0 (omega (arith, there))) ∙ m.2;
    }

pub not_both : (o : Option AddressRefusal) (r : AddressRefusal) → o ≡ None → o ≡ Some r → ⊥
not_both o r h k = cc
