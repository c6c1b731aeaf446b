-- The octet that a refusal names is the first that no broadcast has at its place.
use Rattle.std.proofs.Common.{◌≡◌, ◌≤◌, ◌<◌, ◌+◌, ◌-◌, ◌*◌, ◌/◌, ◌%◌, ◌++◌, ◌∙◌, inl, inr, ℕ, refl, sym, ap, subst, List, [], ◌∷◌, length, take, drop, arith, Bool, true, false, cond}
use Rattle.std.specs.Prelude.{Option, Some, None, Result, Ok, Err, nat_le, nat_lt, not, ◌==◌}
use Rattle.std.proofs.lemmas.Bool.{and_parts, both_ways, eqb-true, leb-true, ltb-true, ltb-false}
use Rattle.std.proofs.lemmas.List.{take-take, take-append-le, length-append, length-drop, length-take}
use Rattle.ax_address.specs.Octets as octets
use Rattle.ax_address.specs.Results.{◌>>=◌}
use Rattle.ax_address.specs.declared.alias.Alias.{Alias}
use Rattle.ax_address.specs.declared.entry.Entry.{Entry}
use Rattle.nodes_broadcast.specs.declared.nodes.NodesRefusal.{NodesRefusal}
use Rattle.nodes_broadcast.specs.declared.nodes.NodesRefusal.TheVariants.{NotNodes, BadLength, TooMany}
use Rattle.nodes_broadcast.specs.Nodes.{Broadcast, is_nodes, is_length, shape_fault, entries_at, broadcast_at, unless_misshapen, nodes_at}
use Rattle.nodes_broadcast.specs.Faults.{NoneHas, FirstFault, FaultIsFirst}
use Rattle.ax_address.proofs.CallFaults.{drop_front}
use Rattle.nodes_broadcast.proofs.EntryFaults.{EntriesBad, entries_bad}
use Rattle.nodes_broadcast.proofs.Spelled.{broadcast_told, shape_of, reads_entries}

-- ---- what is read

abbrev shape_by : Bool → Bool → Bool → ℕ → Option NodesRefusal
shape_by p q r n = cond (not p) (Some NotNodes) (cond (not q) (Some (BadLength n)) (cond r (Some TooMany) None))

abbrev Shape : Bool → Bool → Bool → Type 0
Shape p q r = (p ≡ true) × (q ≡ true) × (r ≡ false)

shape_ok : (p q r : Bool) (n : ℕ) → shape_by p q r n ≡ None → Shape p q r
shape_ok true true false n h = (refl, refl, refl)
shape_ok true true true n h = absurd cc
shape_ok true false r n h = absurd cc
shape_ok false q r n h = absurd cc

unless_ok : (f : Option NodesRefusal) (p : Result Broadcast NodesRefusal) (b : Broadcast) → unless_misshapen f p ≡ Ok b → (f ≡ None) × (p ≡ Ok b)
unless_ok None p b h = (refl, h)
unless_ok (Some w) p b h = absurd cc

told_ok : (r : Result (List Entry) NodesRefusal) (a : Alias) (b : Broadcast) → (r >>= (λ xs. broadcast_told a xs)) ≡ Ok b → (es : List Entry) × (r ≡ Ok es)
told_ok (Ok es) a b h = (es, refl)
told_ok (Err w) a b h = absurd cc

broadcast_ok : (os : List ℕ) (b : Broadcast) → broadcast_at os ≡ Ok b → (es : List Entry) × (entries_at (length (drop 7 os) / 21) 7 (drop 7 os) ≡ Ok es)
unfolding broadcast_at
broadcast_ok os b h = told_ok (entries_at (length (drop 7 os) / 21) 7 (drop 7 os)) (take 6 (drop 1 os)) b h

record Reads (os : List ℕ) : Type 0 where
  shape : Shape (is_nodes os) (is_length (length os)) (nat_lt 238 (length os))
  entries : List Entry
  read : entries_at (length (drop 7 os) / 21) 7 (drop 7 os) ≡ Ok entries

reads : (os : List ℕ) (b : Broadcast) → nodes_at os ≡ Ok b → Reads os
reads os b h =
    let k = unless_ok (shape_fault os) (broadcast_at os) b h in
    let es = broadcast_ok os b k.1 in
    record { shape = shape_ok (is_nodes os) (is_length (length os)) (nat_lt 238 (length os)) (length os) k.0; entries = es.0; read = es.1 }

record Counted (n : ℕ) : Type 0 where
  head : 7 ≤ n
  whole : (n - 7) % 21 ≡ 0

counted : (n : ℕ) → is_length n ≡ true → Counted n
counted n h =
    let p = and_parts (nat_le 7 n) ((n - 7) % 21 == 0) h in
    record { head = leb-true 7 n p.0; whole = eqb-true ((n - 7) % 21) 0 p.1 }

-- ---- what isn't

not_nodes : (os : List ℕ) → is_nodes os ≡ false → FirstFault os NotNodes
unfolding broadcast_at entries_at
not_nodes [] h = inl refl
not_nodes (o ∷ os) h = inr (record {
  within = omega arith;
  before = (255 ∷ 32 ∷ 32 ∷ 32 ∷ 32 ∷ 32 ∷ 32 ∷ [], record { alias = 32 ∷ 32 ∷ 32 ∷ 32 ∷ 32 ∷ 32 ∷ []; entries = [] }, refl);
  stays = λ more b k. both_ways (is_nodes (o ∷ more)) h (reads (o ∷ more) b k).shape.0;
})

bad_length : (many : ℕ) → is_length many ≡ false → NoneHas many
bad_length many h other b len k = both_ways (is_length many) h (sym (ap is_length len) ∙ (reads other b k).shape.1)

too_many : (many : ℕ) → 238 < many → NoneHas many
too_many many h other b len k = omega (arith, h, len, ltb-false 238 (length other) (reads other b k).shape.2)

nodes_read : (n : ℕ) (os : List ℕ) (es : List Entry) → take 1 os ≡ 255 ∷ [] → length os ≡ 7 + 21 * n → n ≤ 11 → entries_at n 7 (drop 7 os) ≡ Ok es → nodes_at os ≡ broadcast_told (take 6 (drop 1 os)) es
nodes_read n os es first len few h =
    let count : length (drop 7 os) / 21 ≡ n = omega (arith, length-drop 7 os, len) in
    reads_entries os (take 6 (drop 1 os)) es (sym (shape_of n os first len few)) refl (ap (λ k. entries_at k 7 (drop 7 os)) count ∙ h)

bad_call : (n : ℕ) (os : List ℕ) (w : NodesRefusal) → take 1 os ≡ 255 ∷ [] → n ≤ 11 → EntriesBad n 7 (drop 7 os) w → FirstFault os w
bad_call n os w first few b =
    let q = b.place in
    let within : 7 + q < length os = omega (arith, b.within, length-drop 7 os) in
    let all = take (7 + q) os ++ b.more in
    let begins : take 1 all ≡ 255 ∷ [] = take-append-le 1 (take (7 + q) os) b.more (omega (arith, length-take (7 + q) os, within)) ∙ (take-take 1 (7 + q) os (omega arith) ∙ first) in
    let rest : drop 7 all ≡ take q (drop 7 os) ++ b.more = drop_front 7 q os b.more (omega (arith, within)) in
    let len : length all ≡ 7 + 21 * b.count = omega (arith, ap length rest, length-drop 7 all, b.long, length-append (take (7 + q) os) b.more, length-take (7 + q) os, within) in
    let next : 7 + q + 1 ≡ 7 + (q + 1) = omega arith in
    subst (FirstFault os) (sym b.is) (record {
      within = within;
      before = (
        b.more,
        record { alias = take 6 (drop 1 all); entries = b.entries },
        nodes_read b.count all b.entries begins len (omega (arith, few, b.few)) (ap (entries_at b.count 7) rest ∙ b.read),
      );
      stays = λ more x h.
          let other = take (7 + q + 1) os ++ more in
          let behind : drop 7 other ≡ take (q + 1) (drop 7 os) ++ more = rw next (drop_front 7 (q + 1) os more (omega (arith, within))) in
          let r = reads other x h in
          let c = counted (length other) r.shape.1 in
          let m = length (drop 7 other) / 21 in
          b.stays m more r.entries (omega (arith, ap length behind, length-drop 7 other, c.head, c.whole)) (ap (entries_at m 7) (sym behind) ∙ r.read);
    })

-- ---- whichever it is

told_err : (r : Result (List Entry) NodesRefusal) (a : Alias) (w : NodesRefusal) → (r >>= (λ xs. broadcast_told a xs)) ≡ Err w → r ≡ Err w
told_err (Ok es) a w h = absurd cc
told_err (Err d) a w h = let e : d ≡ w = cc in ap Err e

broadcast_err : (os : List ℕ) (w : NodesRefusal) → broadcast_at os ≡ Err w → entries_at (length (drop 7 os) / 21) 7 (drop 7 os) ≡ Err w
unfolding broadcast_at
broadcast_err os w h = told_err (entries_at (length (drop 7 os) / 21) 7 (drop 7 os)) (take 6 (drop 1 os)) w h

unless_err : (f : Option NodesRefusal) (p : Result Broadcast NodesRefusal) (d w : NodesRefusal) → f ≡ Some d → unless_misshapen f p ≡ Err w → d ≡ w
unless_err None p d w e h = absurd cc
unless_err (Some c) p d w e h = cc

unless_none : (f : Option NodesRefusal) (p : Result Broadcast NodesRefusal) (w : NodesRefusal) → f ≡ None → unless_misshapen f p ≡ Err w → p ≡ Err w
unless_none None p w e h = h
unless_none (Some c) p w e h = absurd cc

begins_so : (os : List ℕ) → is_nodes os ≡ true → take 1 os ≡ 255 ∷ []
begins_so [] h = absurd cc
begins_so (o ∷ os) h = ap (λ x. x ∷ []) (eqb-true o 255 h)

by_shape : octets.FaultIsFirst → octets.FrontGoesOn → (os : List ℕ) (w : NodesRefusal) (p q r : Bool) → is_nodes os ≡ p → is_length (length os) ≡ q → nat_lt 238 (length os) ≡ r → shape_fault os ≡ shape_by p q r (length os) → nodes_at os ≡ Err w → FirstFault os w
by_shape first law os w false q r e f g s h = subst (FirstFault os) (unless_err (shape_fault os) (broadcast_at os) NotNodes w s h) (not_nodes os e)
by_shape first law os w true false r e f g s h = subst (FirstFault os) (unless_err (shape_fault os) (broadcast_at os) (BadLength (length os)) w s h) (refl, bad_length (length os) f)
by_shape first law os w true true true e f g s h = subst (FirstFault os) (unless_err (shape_fault os) (broadcast_at os) TooMany w s h) (λ many more. too_many many (omega (arith, more, ltb-true 238 (length os) g)))
by_shape first law os w true true false e f g s h =
    let c = counted (length os) f in
    let n = length (drop 7 os) / 21 in
    let refused : entries_at n 7 (drop 7 os) ≡ Err w = broadcast_err os w (unless_none (shape_fault os) (broadcast_at os) w s h) in
    let few : length os ≤ 238 = ltb-false 238 (length os) g in
    bad_call n os w (begins_so os e) (omega (arith, few, length-drop 7 os)) (entries_bad first law n 7 (drop 7 os) w (omega (arith, length-drop 7 os)) refused)

pub fault_is_first : octets.FaultIsFirst → octets.FrontGoesOn → FaultIsFirst
fault_is_first first law os w h = by_shape first law os w (is_nodes os) (is_length (length os)) (nat_lt 238 (length os)) refl refl refl refl h
