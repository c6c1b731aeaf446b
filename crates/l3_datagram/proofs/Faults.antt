-- The octet that a refusal names is the first that no datagram has at its place.
use Rattle.std.proofs.Common.{◌≡◌, ◌≤◌, ◌<◌, ◌+◌, ◌++◌, ◌∙◌, ◌⊎◌, inl, inr, ℕ, refl, sym, ap, subst, List, [], ◌∷◌, length, take, drop, get_or, arith, Bool, true, false, cond}
use Rattle.std.specs.Prelude.{Option, Some, None, Result, Ok, Err, nat_lt}
use Rattle.std.proofs.lemmas.Bool.{ltb-true, ltb-false}
use Rattle.std.proofs.lemmas.List.{append_assoc, take-take, take-append-le, length-append, length-take}
use Rattle.ax_address.specs.Callsign.{Callsign}
use Rattle.ax_address.specs.Octets.{net_call_in, unless_at_fault, address_fault, fault_in, refused_octet}
use Rattle.ax_address.specs.Octets as octets
use Rattle.ax_address.specs.Results.{◌>>=◌}
use Rattle.ax_address.specs.declared.address_refusal.AddressRefusal.{AddressRefusal}
use Rattle.l3_datagram.specs.declared.datagram.DatagramHead.{DatagramHead}
use Rattle.l3_datagram.specs.declared.datagram.DatagramRefusal.{DatagramRefusal}
use Rattle.l3_datagram.specs.declared.datagram.DatagramRefusal.TheVariants.{Short, TooLong, BadCall}
use Rattle.l3_datagram.specs.Datagrams.{sized, fault_from, call_from, head_at}
use Rattle.l3_datagram.specs.Faults.{FirstBad, FirstFault, FaultIsFirst}
use Rattle.ax_address.proofs.CallFaults.{call_bad, not_both, still_none}
use Rattle.l3_datagram.proofs.Spelling.{sized_whole, drop_at}

-- ---- a head is read by the number of octets and the faults of its two calls

abbrev head_told : Callsign → Callsign → ℕ → Result DatagramHead DatagramRefusal
head_told origin dest ttl = Ok (record { origin = origin; dest = dest; ttl = ttl })

abbrev judged : List ℕ → Result DatagramHead DatagramRefusal
judged whole = call_from 0 whole >>= (λ origin. call_from 7 whole >>= (λ dest. head_told origin dest (get_or whole 14 0)))

head_is : (os : List ℕ) → head_at os ≡ (sized os >>= judged)
unfolding head_at
head_is os = refl

abbrev two_calls : Option AddressRefusal → Option AddressRefusal → Callsign → Callsign → ℕ → Result DatagramHead DatagramRefusal
two_calls f g c d ttl = fault_from 0 (unless_at_fault f c) >>= (λ origin. fault_from 7 (unless_at_fault g d) >>= (λ dest. head_told origin dest ttl))

two_same : (f g h j : Option AddressRefusal) (c d : Callsign) (ttl : ℕ) → f ≡ h → g ≡ j → two_calls f g c d ttl ≡ two_calls h j c d ttl
two_same f g h j c d ttl e i = rw (e, i) refl

two_good : (f g : Option AddressRefusal) (c d : Callsign) (ttl : ℕ) → f ≡ None → g ≡ None → two_calls f g c d ttl ≡ head_told c d ttl
two_good f g c d ttl h e = rw (h, e) refl

two_ok : (f g : Option AddressRefusal) (c d : Callsign) (ttl : ℕ) (head : DatagramHead) → two_calls f g c d ttl ≡ Ok head → (f ≡ None) × (g ≡ None)
two_ok None None c d ttl head h = (refl, refl)
two_ok None (Some r) c d ttl head h = absurd cc
two_ok (Some r) g c d ttl head h = absurd cc

abbrev FirstCall : Option AddressRefusal → DatagramRefusal → Type 0
FirstCall f w = (r : AddressRefusal) × (f ≡ Some r) × (BadCall (0 + refused_octet r) ≡ w)

abbrev SecondCall : Option AddressRefusal → Option AddressRefusal → DatagramRefusal → Type 0
SecondCall f g w = (r : AddressRefusal) × (f ≡ None) × (g ≡ Some r) × (BadCall (7 + refused_octet r) ≡ w)

two_err : (f g : Option AddressRefusal) (c d : Callsign) (ttl : ℕ) (w : DatagramRefusal) → two_calls f g c d ttl ≡ Err w → FirstCall f w ⊎ SecondCall f g w
two_err None None c d ttl w h = absurd cc
two_err None (Some r) c d ttl w h = inr (r, refl, refl, cc)
two_err (Some r) g c d ttl w h = inl (r, refl, cc)

same_six : (at : ℕ) (os : List ℕ) → address_fault (take 7 (drop at os)) ≡ address_fault (drop at os)
same_six at os = ap fault_in (take-take 6 7 (drop at os) (omega arith))

abbrev origin_in : List ℕ → Callsign
origin_in os = net_call_in (take 7 (drop 0 os))

abbrev dest_in : List ℕ → Callsign
dest_in os = net_call_in (take 7 (drop 7 os))

judged_is : (os : List ℕ) → judged os ≡ two_calls (address_fault (drop 0 os)) (address_fault (drop 7 os)) (origin_in os) (dest_in os) (get_or os 14 0)
judged_is os =
    two_same (address_fault (take 7 (drop 0 os))) (address_fault (take 7 (drop 7 os))) (address_fault (drop 0 os)) (address_fault (drop 7 os)) (origin_in os) (dest_in os) (get_or os 14 0) (same_six 0 os) (same_six 7 os)

abbrev size_by : Bool → Bool → List ℕ → Result (List ℕ) DatagramRefusal
size_by short long os = cond short (Err (Short (length os))) (cond long (Err TooLong) (Ok os))

sized_ok : (short long : Bool) (os : List ℕ) (head : DatagramHead) → (size_by short long os >>= judged) ≡ Ok head → (short ≡ false) × (long ≡ false) × (judged os ≡ Ok head)
sized_ok false false os head h = (refl, refl, h)
sized_ok false true os head h = absurd cc
sized_ok true long os head h = absurd cc

record Heads (os : List ℕ) : Type 0 where
  low : 15 ≤ length os
  high : length os ≤ 256
  origin : address_fault (drop 0 os) ≡ None
  dest : address_fault (drop 7 os) ≡ None

heads : (os : List ℕ) (head : DatagramHead) → head_at os ≡ Ok head → Heads os
heads os head h =
    let s = sized_ok (nat_lt (length os) 15) (nat_lt 256 (length os)) os head (sym (head_is os) ∙ h) in
    let c = two_ok (address_fault (drop 0 os)) (address_fault (drop 7 os)) (origin_in os) (dest_in os) (get_or os 14 0) head (sym (judged_is os) ∙ s.2) in
    record { low = ltb-false (length os) 15 s.0; high = ltb-false 256 (length os) s.1; origin = c.0; dest = c.1 }

heads_by : (os : List ℕ) → Heads os → head_at os ≡ head_told (origin_in os) (dest_in os) (get_or os 14 0)
heads_by os h =
    head_is os
    ∙ (ap (λ (r : Result (List ℕ) DatagramRefusal). r >>= judged) (sized_whole os h.low h.high)
    ∙ (judged_is os ∙ two_good (address_fault (drop 0 os)) (address_fault (drop 7 os)) (origin_in os) (dest_in os) (get_or os 14 0) h.origin h.dest))

-- ---- a call at fault

-- a last octet of a call, the call A, and a time to live
abbrev behind_origin : List ℕ
behind_origin = 96 ∷ 130 ∷ 64 ∷ 64 ∷ 64 ∷ 64 ∷ 64 ∷ 96 ∷ 0 ∷ []

abbrev behind_dest : List ℕ
behind_dest = 96 ∷ 0 ∷ []

abbrev BeginsHead : List ℕ → Type 0
BeginsHead front = (more : List ℕ) × (head : DatagramHead) × (head_at (front ++ more) ≡ Ok head)

goes_on : (front more rest : List ℕ) → Heads ((front ++ more) ++ rest) → BeginsHead front
goes_on front more rest h =
    let all = (front ++ more) ++ rest in
    (more ++ rest, record { origin = origin_in all; dest = dest_in all; ttl = get_or all 14 0 }, ap head_at (sym (append_assoc front more rest)) ∙ heads_by all h)

origin_bad : octets.FaultIsFirst → octets.FrontGoesOn → (os : List ℕ) (r : AddressRefusal) → address_fault (drop 0 os) ≡ Some r → FirstBad os (0 + refused_octet r)
origin_bad first law os r h =
    let b = call_bad first law 0 os r h in
    let p = 0 + refused_octet r in
    let front = take p os ++ b.more in
    let all = front ++ behind_origin in
    let len : length all ≡ 15 = omega (arith, length-append front behind_origin, b.six) in
    record {
      within = b.within;
      before = goes_on (take p os) b.more behind_origin (record {
        low = omega (arith, len);
        high = omega (arith, len);
        origin = still_none 0 front behind_origin b.six b.none;
        dest = ap address_fault (drop_at front behind_origin 6 1 b.six);
      });
      stays = λ more head k. not_both (address_fault (drop 0 (take (p + 1) os ++ more))) r (heads (take (p + 1) os ++ more) head k).origin (b.stays more);
    }

-- the octets of the first call are kept
origin_kept : (k : ℕ) (os more : List ℕ) → 6 ≤ k → k ≤ length os → address_fault (drop 0 (take k os ++ more)) ≡ address_fault (drop 0 os)
origin_kept k os more h g = ap fault_in (take-append-le 6 (take k os) more (omega (arith, length-take k os, h, g)) ∙ take-take 6 k os h)

dest_bad : octets.FaultIsFirst → octets.FrontGoesOn → (os : List ℕ) (r : AddressRefusal) → address_fault (drop 0 os) ≡ None → address_fault (drop 7 os) ≡ Some r → FirstBad os (7 + refused_octet r)
dest_bad first law os r none h =
    let b = call_bad first law 7 os r h in
    let p = 7 + refused_octet r in
    let front = take p os ++ b.more in
    let all = front ++ behind_dest in
    let len : length all ≡ 15 = omega (arith, length-append front behind_dest, b.six) in
    let whole : all ≡ take p os ++ (b.more ++ behind_dest) = append_assoc (take p os) b.more behind_dest in
    record {
      within = b.within;
      before = goes_on (take p os) b.more behind_dest (record {
        low = omega (arith, len);
        high = omega (arith, len);
        origin = ap address_fault whole ∙ (origin_kept p os (b.more ++ behind_dest) (omega arith) (omega (arith, b.within)) ∙ none);
        dest = still_none 7 front behind_dest b.six b.none;
      });
      stays = λ more head k. not_both (address_fault (drop 7 (take (p + 1) os ++ more))) r (heads (take (p + 1) os ++ more) head k).dest (b.stays more);
    }

-- ---- whichever it is

abbrev err_head : DatagramRefusal → Result DatagramHead DatagramRefusal
err_head w = Err w

same_refusal : (d w : DatagramRefusal) → err_head d ≡ err_head w → d ≡ w
same_refusal d w h = cc

too_short : (os : List ℕ) → length os < 15 → FirstFault os (Short (length os))
too_short os short = (refl, λ few le other head len k. omega (arith, short, le, len, (heads other head k).low))

too_long : (os : List ℕ) → 256 < length os → FirstFault os TooLong
too_long os long many le other head len k = omega (arith, long, le, len, (heads other head k).high)

by_calls : octets.FaultIsFirst → octets.FrontGoesOn → (os : List ℕ) (w : DatagramRefusal) → FirstCall (address_fault (drop 0 os)) w ⊎ SecondCall (address_fault (drop 0 os)) (address_fault (drop 7 os)) w → FirstFault os w
by_calls first law os w (inl f) = subst (FirstFault os) f.2 (origin_bad first law os f.0 f.1)
by_calls first law os w (inr s) = subst (FirstFault os) s.3 (dest_bad first law os s.0 s.1 s.2)

by_size : octets.FaultIsFirst → octets.FrontGoesOn → (os : List ℕ) (w : DatagramRefusal) (short long : Bool) → nat_lt (length os) 15 ≡ short → nat_lt 256 (length os) ≡ long → (size_by short long os >>= judged) ≡ Err w → FirstFault os w
by_size first law os w true long s l h = subst (FirstFault os) (same_refusal (Short (length os)) w h) (too_short os (ltb-true (length os) 15 s))
by_size first law os w false true s l h = subst (FirstFault os) (same_refusal TooLong w h) (too_long os (ltb-true 256 (length os) l))
by_size first law os w false false s l h =
    by_calls first law os w (two_err (address_fault (drop 0 os)) (address_fault (drop 7 os)) (origin_in os) (dest_in os) (get_or os 14 0) w (sym (judged_is os) ∙ h))

pub fault_is_first : octets.FaultIsFirst → octets.FrontGoesOn → FaultIsFirst
fault_is_first first law os w h = by_size first law os w (nat_lt (length os) 15) (nat_lt 256 (length os)) refl refl (sym (head_is os) ∙ h)
