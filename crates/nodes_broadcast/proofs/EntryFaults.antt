-- Where the first fault of the entries stands.
use Rattle.std.proofs.Common.{◌≡◌, ◌≤◌, ◌<◌, ◌+◌, ◌*◌, ◌++◌, ◌∙◌, ◌⊎◌, inl, inr, ℕ, zero, suc, refl, sym, ap, List, [], ◌∷◌, length, take, drop, get_or, arith}
use Rattle.std.specs.Prelude.{Option, Some, None, Result, Ok, Err}
use Rattle.std.proofs.lemmas.List.{append_assoc, drop-take, take-take, take-append-le, length-append, length-drop, length-take}
use Rattle.std.proofs.Math.Seq.{drop-append-add}
use Rattle.ax_address.specs.Callsign.{Callsign}
use Rattle.ax_address.specs.Octets.{net_call_in, unless_at_fault, FaultIsFirst, FrontGoesOn, address_fault, fault_in, refused_octet}
use Rattle.ax_address.specs.Results.{◌>>=◌}
use Rattle.ax_address.specs.declared.address_refusal.AddressRefusal.{AddressRefusal}
use Rattle.ax_address.specs.declared.alias.Alias.{Alias}
use Rattle.ax_address.specs.declared.entry.Entry.{Entry}
use Rattle.nodes_broadcast.specs.declared.nodes.NodesRefusal.{NodesRefusal}
use Rattle.nodes_broadcast.specs.declared.nodes.NodesRefusal.TheVariants.{BadCall}
use Rattle.nodes_broadcast.specs.Nodes.{call_from, entry_at, entries_at}
use Rattle.ax_address.proofs.CallFaults.{call_bad, drop_front, still_none, not_both}
use Rattle.nodes_broadcast.proofs.Spelled.{entry_told}

-- ---- one entry

-- an entry is read by the faults of its two calls
abbrev two_calls : ℕ → Option AddressRefusal → Option AddressRefusal → Callsign → Callsign → Alias → ℕ → Result Entry NodesRefusal
two_calls at f g c d a k = call_from at (unless_at_fault f c) >>= (λ dest. call_from (at + 13) (unless_at_fault g d) >>= (λ best. entry_told dest a best k))

two_same : (at : ℕ) (f g h j : Option AddressRefusal) (c d : Callsign) (a : Alias) (k : ℕ) → f ≡ h → g ≡ j → two_calls at f g c d a k ≡ two_calls at h j c d a k
two_same at f g h j c d a k e i = rw (e, i) refl

two_good : (at : ℕ) (f g : Option AddressRefusal) (c d : Callsign) (a : Alias) (k : ℕ) → f ≡ None → g ≡ None → two_calls at f g c d a k ≡ entry_told c a d k
two_good at f g c d a k h e = rw (h, e) refl

two_ok : (at : ℕ) (f g : Option AddressRefusal) (c d : Callsign) (a : Alias) (k : ℕ) (e : Entry) → two_calls at f g c d a k ≡ Ok e → (f ≡ None) × (g ≡ None)
two_ok at None None c d a k e h = (refl, refl)
two_ok at None (Some r) c d a k e h = absurd cc
two_ok at (Some r) g c d a k e h = absurd cc

abbrev FirstCall : ℕ → Option AddressRefusal → NodesRefusal → Type 0
FirstCall at f w = (r : AddressRefusal) × (f ≡ Some r) × (w ≡ BadCall (at + refused_octet r))

abbrev SecondCall : ℕ → Option AddressRefusal → Option AddressRefusal → NodesRefusal → Type 0
SecondCall at f g w = (r : AddressRefusal) × (f ≡ None) × (g ≡ Some r) × (w ≡ BadCall (at + 13 + refused_octet r))

two_err : (at : ℕ) (f g : Option AddressRefusal) (c d : Callsign) (a : Alias) (k : ℕ) (w : NodesRefusal) → two_calls at f g c d a k ≡ Err w → FirstCall at f w ⊎ SecondCall at f g w
two_err at None None c d a k w h = absurd cc
two_err at None (Some r) c d a k w h = inr (r, refl, refl, cc)
two_err at (Some r) g c d a k w h = inl (r, refl, cc)

first_same : (os : List ℕ) → address_fault (take 7 (take 21 os)) ≡ address_fault os
first_same os = ap fault_in (take-take 6 7 (take 21 os) (omega arith) ∙ take-take 6 21 os (omega arith))

second_same : (os : List ℕ) → address_fault (take 7 (drop 13 (take 21 os))) ≡ address_fault (drop 13 os)
second_same os = ap fault_in (take-take 6 7 (drop 13 (take 21 os)) (omega arith) ∙ (ap (take 6) (drop-take 13 8 os) ∙ take-take 6 8 (drop 13 os) (omega arith)))

abbrev dest_in : List ℕ → Callsign
dest_in os = net_call_in (take 7 (take 21 os))

abbrev best_in : List ℕ → Callsign
best_in os = net_call_in (take 7 (drop 13 (take 21 os)))

abbrev alias_in : List ℕ → Alias
alias_in os = take 6 (drop 7 (take 21 os))

abbrev quality_in : List ℕ → ℕ
quality_in os = get_or (take 21 os) 20 0

entry_parts : (at : ℕ) (os : List ℕ) → entry_at at (take 21 os) ≡ two_calls at (address_fault os) (address_fault (drop 13 os)) (dest_in os) (best_in os) (alias_in os) (quality_in os)
unfolding entry_at
entry_parts at os =
    two_same at (address_fault (take 7 (take 21 os))) (address_fault (take 7 (drop 13 (take 21 os)))) (address_fault os) (address_fault (drop 13 os)) (dest_in os) (best_in os) (alias_in os) (quality_in os)
    (first_same os) (second_same os)

entry_good : (at : ℕ) (os : List ℕ) → address_fault os ≡ None → address_fault (drop 13 os) ≡ None → entry_at at (take 21 os) ≡ entry_told (dest_in os) (alias_in os) (best_in os) (quality_in os)
entry_good at os h k = entry_parts at os ∙ two_good at (address_fault os) (address_fault (drop 13 os)) (dest_in os) (best_in os) (alias_in os) (quality_in os) h k

entry_ok : (at : ℕ) (os : List ℕ) (e : Entry) → entry_at at (take 21 os) ≡ Ok e → (address_fault os ≡ None) × (address_fault (drop 13 os) ≡ None)
entry_ok at os e h = two_ok at (address_fault os) (address_fault (drop 13 os)) (dest_in os) (best_in os) (alias_in os) (quality_in os) e (sym (entry_parts at os) ∙ h)

record EntryBad (at : ℕ) (os : List ℕ) (w : NodesRefusal) : Type 0 where
  place : ℕ
  is : w ≡ BadCall (at + place)
  within : place < length os
  more : List ℕ
  long : length (take place os ++ more) ≡ 21
  entry : Entry
  read : entry_at at (take 21 (take place os ++ more)) ≡ Ok entry
  stays : (more : List ℕ) (e : Entry) → entry_at at (take 21 (take (place + 1) os ++ more)) ≡ Ok e → ⊥

past : (front back : List ℕ) (n more : ℕ) → length front ≡ n → drop (n + more) (front ++ back) ≡ drop more back
past front back n more len = ap (λ k. drop (k + more) (front ++ back)) (sym len) ∙ drop-append-add front back more

-- a last octet of a call, an alias of spaces, the call A and a quality
abbrev behind_dest : List ℕ
behind_dest = 96 ∷ 32 ∷ 32 ∷ 32 ∷ 32 ∷ 32 ∷ 32 ∷ 130 ∷ 64 ∷ 64 ∷ 64 ∷ 64 ∷ 64 ∷ 96 ∷ 0 ∷ []

abbrev behind_best : List ℕ
behind_best = 96 ∷ 0 ∷ []

dest_bad : FaultIsFirst → FrontGoesOn → (at : ℕ) (os : List ℕ) (w : NodesRefusal) (r : AddressRefusal) → address_fault os ≡ Some r → w ≡ BadCall (at + refused_octet r) → EntryBad at os w
dest_bad first law at os w r h is =
    let b = call_bad first law 0 os r h in
    let p = 0 + refused_octet r in
    let front = take p os ++ b.more in
    let all = front ++ behind_dest in
    let whole : take p os ++ (b.more ++ behind_dest) ≡ all = sym (append_assoc (take p os) b.more behind_dest) in
    let dest : address_fault all ≡ None = still_none 0 front behind_dest b.six b.none in
    let best : address_fault (drop 13 all) ≡ None = ap address_fault (past front behind_dest 6 7 b.six) in
    record {
      place = p;
      is = is ∙ ap BadCall (omega arith);
      within = b.within;
      more = b.more ++ behind_dest;
      long = ap length whole ∙ omega (arith, length-append front behind_dest, b.six);
      entry = record { dest = dest_in all; alias = alias_in all; best = best_in all; quality = quality_in all };
      read = ap (λ xs. entry_at at (take 21 xs)) whole ∙ entry_good at all dest best;
      stays = λ more e k. not_both (address_fault (take (p + 1) os ++ more)) r (entry_ok at (take (p + 1) os ++ more) e k).0 (b.stays more);
    }

-- the octets of the first call are kept
dest_kept : (k : ℕ) (os more : List ℕ) → 6 ≤ k → k ≤ length os → address_fault (take k os ++ more) ≡ address_fault os
dest_kept k os more h g = ap fault_in (take-append-le 6 (take k os) more (omega (arith, length-take k os, h, g)) ∙ take-take 6 k os h)

best_bad : FaultIsFirst → FrontGoesOn → (at : ℕ) (os : List ℕ) (w : NodesRefusal) (r : AddressRefusal) → address_fault os ≡ None → address_fault (drop 13 os) ≡ Some r → w ≡ BadCall (at + 13 + refused_octet r) → EntryBad at os w
best_bad first law at os w r none h is =
    let b = call_bad first law 13 os r h in
    let p = 13 + refused_octet r in
    let front = take p os ++ b.more in
    let all = front ++ behind_best in
    let whole : take p os ++ (b.more ++ behind_best) ≡ all = sym (append_assoc (take p os) b.more behind_best) in
    let dest : address_fault all ≡ None = ap address_fault (sym whole) ∙ (dest_kept p os (b.more ++ behind_best) (omega arith) (omega (arith, b.within)) ∙ none) in
    let best : address_fault (drop 13 all) ≡ None = still_none 13 front behind_best b.six b.none in
    record {
      place = p;
      is = is ∙ ap BadCall (omega arith);
      within = b.within;
      more = b.more ++ behind_best;
      long = ap length whole ∙ omega (arith, length-append front behind_best, b.six);
      entry = record { dest = dest_in all; alias = alias_in all; best = best_in all; quality = quality_in all };
      read = ap (λ xs. entry_at at (take 21 xs)) whole ∙ entry_good at all dest best;
      stays = λ more e k. not_both (address_fault (drop 13 (take (p + 1) os ++ more))) r (entry_ok at (take (p + 1) os ++ more) e k).1 (b.stays more);
    }

entry_by : FaultIsFirst → FrontGoesOn → (at : ℕ) (os : List ℕ) (w : NodesRefusal) → FirstCall at (address_fault os) w ⊎ SecondCall at (address_fault os) (address_fault (drop 13 os)) w → EntryBad at os w
entry_by first law at os w (inl f) = dest_bad first law at os w f.0 f.1 f.2
entry_by first law at os w (inr s) = best_bad first law at os w s.0 s.1 s.2 s.3

entry_bad : FaultIsFirst → FrontGoesOn → (at : ℕ) (os : List ℕ) (w : NodesRefusal) → entry_at at (take 21 os) ≡ Err w → EntryBad at os w
entry_bad first law at os w h =
    entry_by first law at os w (two_err at (address_fault os) (address_fault (drop 13 os)) (dest_in os) (best_in os) (alias_in os) (quality_in os) w (sym (entry_parts at os) ∙ h))

-- ---- the entries

abbrev one_more : Result Entry NodesRefusal → Result (List Entry) NodesRefusal → Result (List Entry) NodesRefusal
one_more p q = p >>= (λ x. q >>= (λ xs. Ok (x ∷ xs)))

entries_parts : (n at : ℕ) (os : List ℕ) → entries_at (suc n) at os ≡ one_more (entry_at at (take 21 os)) (entries_at n (at + 21) (drop 21 os))
unfolding entries_at
entries_parts n at os = refl

nothing_read : (at : ℕ) (os : List ℕ) → entries_at 0 at os ≡ Ok []
unfolding entries_at
nothing_read at os = refl

more_good : (p : Result Entry NodesRefusal) (q : Result (List Entry) NodesRefusal) (e : Entry) (es : List Entry) → p ≡ Ok e → q ≡ Ok es → one_more p q ≡ Ok (e ∷ es)
more_good p q e es h k = rw (h, k) refl

more_ok : (p : Result Entry NodesRefusal) (q : Result (List Entry) NodesRefusal) (all : List Entry) → one_more p q ≡ Ok all → (e : Entry) × (es : List Entry) × (p ≡ Ok e) × (q ≡ Ok es)
more_ok (Ok e) (Ok es) all h = (e, es, refl, refl)
more_ok (Ok e) (Err w) all h = absurd cc
more_ok (Err w) q all h = absurd cc

-- a fault in the entries from a place on
pub record EntriesBad (n at : ℕ) (os : List ℕ) (w : NodesRefusal) : Type 0 where
  pub place : ℕ
  pub is : w ≡ BadCall (at + place)
  pub within : place < length os
  -- the entry is completed, and is the last one
  pub count : ℕ
  pub few : count ≤ n
  pub more : List ℕ
  pub long : length (take place os ++ more) ≡ 21 * count
  pub entries : List Entry
  pub read : entries_at count at (take place os ++ more) ≡ Ok entries
  pub stays : (m : ℕ) (more : List ℕ) (es : List Entry) → length (take (place + 1) os ++ more) ≤ 21 * m → entries_at m at (take (place + 1) os ++ more) ≡ Ok es → ⊥

-- octets up to a place that is there are not none
some_there : (p : ℕ) (os more : List ℕ) → p < length os → length (take (p + 1) os ++ more) ≤ 21 * 0 → ⊥
some_there p os more h k = omega (arith, h, k, length-append (take (p + 1) os) more, length-take (p + 1) os)

bad_here : (n at : ℕ) (os : List ℕ) (w : NodesRefusal) → EntryBad at os w → EntriesBad (suc n) at os w
bad_here n at os w b = record {
  place = b.place;
  is = b.is;
  within = b.within;
  count = 1;
  few = omega arith;
  more = b.more;
  long = b.long;
  entries = b.entry ∷ [];
  read =
      let all = take b.place os ++ b.more in
      entries_parts 0 at all ∙ more_good (entry_at at (take 21 all)) (entries_at 0 (at + 21) (drop 21 all)) b.entry [] b.read (nothing_read (at + 21) (drop 21 all));
  stays = here;
}
  where
    here : (m : ℕ) (more : List ℕ) (es : List Entry) → length (take (b.place + 1) os ++ more) ≤ 21 * m → entries_at m at (take (b.place + 1) os ++ more) ≡ Ok es → ⊥
    here zero more es len h = some_there b.place os more b.within len
    here (suc m) more es len h =
        let all = take (b.place + 1) os ++ more in
        let k = more_ok (entry_at at (take 21 all)) (entries_at m (at + 21) (drop 21 all)) es (sym (entries_parts m at all) ∙ h) in
        b.stays more k.0 k.2

-- the first 21 octets are kept
entry_kept : (k : ℕ) (os more : List ℕ) → 21 ≤ k → k ≤ length os → take 21 (take k os ++ more) ≡ take 21 os
entry_kept k os more h g = take-append-le 21 (take k os) more (omega (arith, length-take k os, h, g)) ∙ take-take 21 k os h

bad_later : (n at : ℕ) (os : List ℕ) (w : NodesRefusal) (e : Entry) → 21 ≤ length os → entry_at at (take 21 os) ≡ Ok e → EntriesBad n (at + 21) (drop 21 os) w → EntriesBad (suc n) at os w
bad_later n at os w e there read b = record {
  place = 21 + q;
  is = b.is ∙ ap BadCall (omega arith);
  within = within;
  count = suc b.count;
  few = omega (arith, b.few);
  more = b.more;
  long = omega (arith, length-append (take (21 + q) os) b.more, length-take (21 + q) os, within, length-append (take q (drop 21 os)) b.more, length-take q (drop 21 os), b.within, b.long);
  entries = e ∷ b.entries;
  read =
      let all = take (21 + q) os ++ b.more in
      let entry : entry_at at (take 21 all) ≡ Ok e = ap (entry_at at) (entry_kept (21 + q) os b.more (omega arith) (omega (arith, within))) ∙ read in
      let rest : entries_at b.count (at + 21) (drop 21 all) ≡ Ok b.entries = ap (entries_at b.count (at + 21)) (drop_front 21 q os b.more (omega (arith, within))) ∙ b.read in
      entries_parts b.count at all ∙ more_good (entry_at at (take 21 all)) (entries_at b.count (at + 21) (drop 21 all)) e b.entries entry rest;
  stays = later;
}
  where
    q : ℕ
    q = b.place

    within : 21 + q < length os
    within = omega (arith, b.within, length-drop 21 os)

    later : (m : ℕ) (more : List ℕ) (es : List Entry) → length (take (21 + q + 1) os ++ more) ≤ 21 * m → entries_at m at (take (21 + q + 1) os ++ more) ≡ Ok es → ⊥
    later zero more es len h = some_there (21 + q) os more within len
    later (suc m) more es len h =
        let all = take (21 + q + 1) os ++ more in
        let next : 21 + q + 1 ≡ 21 + (q + 1) = omega arith in
        let rest : drop 21 all ≡ take (q + 1) (drop 21 os) ++ more = rw next (drop_front 21 (q + 1) os more (omega (arith, within))) in
        let k = more_ok (entry_at at (take 21 all)) (entries_at m (at + 21) (drop 21 all)) es (sym (entries_parts m at all) ∙ h) in
        b.stays m more k.1 (omega (arith, ap length rest, length-drop 21 all, len)) (ap (entries_at m (at + 21)) (sym rest) ∙ k.3)

abbrev err_entries : NodesRefusal → Result (List Entry) NodesRefusal
err_entries w = Err w

same_refusal : (d w : NodesRefusal) → err_entries d ≡ err_entries w → d ≡ w
same_refusal d w h = cc

bad_by : FaultIsFirst → FrontGoesOn → (n at : ℕ) (os : List ℕ) (w : NodesRefusal) (p : Result Entry NodesRefusal) (q : Result (List Entry) NodesRefusal) → 21 ≤ length os → entry_at at (take 21 os) ≡ p
    → entries_at n (at + 21) (drop 21 os) ≡ q → (q ≡ Err w → EntriesBad n (at + 21) (drop 21 os) w) → one_more p q ≡ Err w → EntriesBad (suc n) at os w
bad_by first law n at os w (Err d) q there e f ih h = bad_here n at os w (entry_bad first law at os w (e ∙ ap Err (same_refusal d w h)))
bad_by first law n at os w (Ok x) (Err d) there e f ih h = bad_later n at os w x there e (ih (ap Err (same_refusal d w h)))
bad_by first law n at os w (Ok x) (Ok xs) there e f ih h = absurd cc

pub entries_bad : FaultIsFirst → FrontGoesOn → (n at : ℕ) (os : List ℕ) (w : NodesRefusal) → 21 * n ≤ length os → entries_at n at os ≡ Err w → EntriesBad n at os w
entries_bad first law zero at os w len h = absurd (let k = nothing_read at os in cc)
entries_bad first law (suc n) at os w len h =
    bad_by first law n at os w (entry_at at (take 21 os)) (entries_at n (at + 21) (drop 21 os)) (omega (arith, len)) refl refl
    (λ k. entries_bad first law n (at + 21) (drop 21 os) w (omega (arith, len, length-drop 21 os)) k)
    (sym (entries_parts n at os) ∙ h)
