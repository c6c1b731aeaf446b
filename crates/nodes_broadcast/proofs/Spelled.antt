-- Octets that spell a broadcast are read as it.
use Rattle.std.proofs.Common.{◌≡◌, ◌≤◌, ◌+◌, ◌-◌, ◌*◌, ◌/◌, ◌%◌, ◌∙◌, ℕ, zero, suc, refl, sym, ap, List, [], ◌∷◌, length, take, drop, get_or, arith, Bool, true, false, cond, length-take, length-drop, drop-cons}
use Rattle.std.specs.Prelude.{Option, Some, None, Result, Ok, Err, nat_le, nat_lt, not, ◌==◌, IsOkAnd, MatchResult}
use Rattle.std.proofs.lemmas.Bool.{eq-eqb, and_from}
use Rattle.std.proofs.lemmas.Bool.Decides.{nat_tests}
use Rattle.ax_address.specs.Callsign.{Callsign}
use Rattle.ax_address.specs.Octets.{SpelledNetCallIsRead, net_call_at}
use Rattle.ax_address.specs.declared.address_refusal.AddressRefusal.{AddressRefusal}
use Rattle.ax_address.specs.declared.alias.Alias.{Alias}
use Rattle.ax_address.specs.declared.entry.Entry.{Entry}
use Rattle.ax_address.specs.Results.{◌>>=◌}
use Rattle.nodes_broadcast.specs.declared.nodes.Nodes.{Nodes}
use Rattle.nodes_broadcast.specs.declared.nodes.NodesRefusal.{NodesRefusal}
use Rattle.nodes_broadcast.specs.declared.nodes.NodesRefusal.TheVariants.{NotNodes, BadLength, TooMany}
use Rattle.nodes_broadcast.specs.Nodes.{Broadcast, view, Spells, SpellsEntry, SpellsEntries, is_nodes, is_length, shape_fault, call_from, entry_at, entries_at, broadcast_at, unless_misshapen, nodes_at}
use Rattle.nodes_broadcast.specs.Laws.{SpelledIsRead}

pub entry_len : (e : Entry) (os : List ℕ) → SpellsEntry e os → length os ≡ 21
entry_len e os h = omega (arith, length-drop 20 os, ap length h.quality)

pub entries_len : (es : List Entry) (os : List ℕ) → SpellsEntries es os → length os ≡ 21 * length es
entries_len [] os h = ap length h
entries_len (e ∷ es) os h = omega (arith, length-take 21 os, length-drop 21 os, entry_len e (take 21 os) h.0, entries_len es (drop 21 os) h.1)

last_octet : (os : List ℕ) (q : ℕ) → drop 20 os ≡ q ∷ [] → get_or os 20 0 ≡ q
last_octet os q h = sym (get_or_drop 20 os 0) ∙ ap (λ xs. get_or xs 0 0) h
  where
    get_or_drop : (n : ℕ) (xs : List ℕ) (d : ℕ) → get_or (drop n xs) 0 d ≡ get_or xs n d
    get_or_drop zero xs d = refl
    get_or_drop (suc n) [] d = refl
    get_or_drop (suc n) (x ∷ xs) d = get_or_drop n xs d

abbrev pub entry_told : Callsign → Alias → Callsign → ℕ → Result Entry NodesRefusal
entry_told dest alias best quality = Ok (record { dest = dest; alias = alias; best = best; quality = quality })

calls_read : (at : ℕ) (p q : Result Callsign AddressRefusal) (c d : Callsign) (a : Alias) (k : ℕ) → p ≡ Ok c → q ≡ Ok d → (call_from at p >>= (λ dest. call_from (at + 13) q >>= (λ best. entry_told dest a best k))) ≡ entry_told c a d k
calls_read at p q c d a k h g = rw (h, g) refl

parts_are : (c d : Callsign) (a b : Alias) (k j : ℕ) → a ≡ b → k ≡ j → entry_told c a d k ≡ entry_told c b d j
parts_are c d a b k j h g = rw (h, g) refl

-- the octet that is left of 21
pub one_left : (os : List ℕ) → length os ≡ 21 → drop 20 os ≡ get_or os 20 0 ∷ []
one_left os h = drop-cons os 20 0 (omega arith) ∙ ap (λ xs. get_or os 20 0 ∷ xs) (drop_all 21 os (omega arith))
  where
    drop_all : (n : ℕ) (xs : List ℕ) → length xs ≤ n → drop n xs ≡ []
    drop_all zero [] h = refl
    drop_all zero (x ∷ xs) h = absurd (omega arith)
    drop_all (suc n) [] h = refl
    drop_all (suc n) (x ∷ xs) h = drop_all n xs (omega arith)

pub entry_read : SpelledNetCallIsRead → (e : Entry) (at : ℕ) (os : List ℕ) → SpellsEntry e os → entry_at at os ≡ Ok e
unfolding entry_at
entry_read law e at os h =
    calls_read at (net_call_at (take 7 os)) (net_call_at (take 7 (drop 13 os))) e.dest e.best (take 6 (drop 7 os)) (get_or os 20 0) (law e.dest (take 7 os) h.dest) (law e.best (take 7 (drop 13 os)) h.best)
    ∙ parts_are e.dest e.best (take 6 (drop 7 os)) e.alias (get_or os 20 0) e.quality h.alias (last_octet os e.quality h.quality)

both_read : (p : Result Entry NodesRefusal) (q : Result (List Entry) NodesRefusal) (e : Entry) (es : List Entry) → p ≡ Ok e → q ≡ Ok es → (p >>= (λ x. q >>= (λ xs. Ok (x ∷ xs)))) ≡ Ok (e ∷ es)
both_read p q e es h g = rw (h, g) refl

pub entries_read : SpelledNetCallIsRead → (es : List Entry) (at : ℕ) (os : List ℕ) → SpellsEntries es os → entries_at (length es) at os ≡ Ok es
unfolding entries_at
entries_read law [] at os h = refl
entries_read law (e ∷ es) at os h =
    both_read (entry_at at (take 21 os)) (entries_at (length es) (at + 21) (drop 21 os)) e es (entry_read law e at (take 21 os) h.0) (entries_read law es (at + 21) (drop 21 os) h.1)

abbrev pub broadcast_told : Alias → List Entry → Result Broadcast NodesRefusal
broadcast_told alias entries = Ok (record { alias = alias; entries = entries })

all_read : (p : Result (List Entry) NodesRefusal) (a b : Alias) (es : List Entry) → p ≡ Ok es → a ≡ b → (p >>= (λ xs. broadcast_told a xs)) ≡ broadcast_told b es
all_read p a b es h g = rw (h, g) refl

broadcast_read : SpelledNetCallIsRead → (b : Broadcast) (os : List ℕ) → Spells b os → broadcast_at os ≡ Ok b
unfolding broadcast_at
broadcast_read law b os h =
    let count : length (drop 7 os) / 21 ≡ length b.entries = omega (arith, entries_len b.entries (drop 7 os) h.entries) in
    all_read (entries_at (length (drop 7 os) / 21) 7 (drop 7 os)) (take 6 (drop 1 os)) b.alias b.entries
    (ap (λ n. entries_at n 7 (drop 7 os)) count ∙ entries_read law b.entries 7 (drop 7 os) h.entries)
    h.alias

-- the information of a good shape is read as far as its entries are

pub reads_entries : (os : List ℕ) (a : Alias) (es : List Entry) → None ≡ shape_fault os → a ≡ take 6 (drop 1 os) → entries_at (length (drop 7 os) / 21) 7 (drop 7 os) ≡ Ok es → nodes_at os ≡ broadcast_told a es
unfolding broadcast_at
reads_entries os a es f h g = rw (← f) (all_read (entries_at (length (drop 7 os) / 21) 7 (drop 7 os)) (take 6 (drop 1 os)) a es g (sym h))

none_read : (p : Result (List Entry) NodesRefusal) (a : Alias) (w : NodesRefusal) → p ≡ Err w → (p >>= (λ xs. broadcast_told a xs)) ≡ Err w
none_read p a w h = rw h refl

pub refuses_entries : (os : List ℕ) (w : NodesRefusal) → None ≡ shape_fault os → entries_at (length (drop 7 os) / 21) 7 (drop 7 os) ≡ Err w → nodes_at os ≡ Err w
unfolding broadcast_at
refuses_entries os w f g = rw (← f) (none_read (entries_at (length (drop 7 os) / 21) 7 (drop 7 os)) (take 6 (drop 1 os)) w g)

no_fault : (p q r : Bool) (n : ℕ) → p ≡ true → q ≡ true → r ≡ false → cond (not p) (Some NotNodes) (cond (not q) (Some (BadLength n)) (cond r (Some TooMany) None)) ≡ None
no_fault p q r n h g k = rw (h, g, k) refl

first_is : (os : List ℕ) → take 1 os ≡ 255 ∷ [] → is_nodes os ≡ true
first_is [] h = absurd (cc)
first_is (o ∷ os) h = let e : o ≡ 255 = cc in eq-eqb o 255 e

-- there are as many octets as a broadcast has
pub spelled_len : (b : Broadcast) (os : List ℕ) → Spells b os → length os ≡ 7 + 21 * length b.entries
spelled_len b os h = omega (arith, length-drop 7 os, length-drop 1 os, length-take 6 (drop 1 os), ap length h.alias, h.six, entries_len b.entries (drop 7 os) h.entries)

pub shape_of : (n : ℕ) (os : List ℕ) → take 1 os ≡ 255 ∷ [] → length os ≡ 7 + 21 * n → n ≤ 11 → shape_fault os ≡ None
shape_of n os first len few =
    let head : nat_le 7 (length os) ≡ true = grind (arith, nat_tests) in
    let rest : (length os - 7) % 21 ≡ 0 = omega (arith, len) in
    let whole : ((length os - 7) % 21 == 0) ≡ true = eq-eqb ((length os - 7) % 21) 0 rest in
    let short : nat_lt 238 (length os) ≡ false = grind (arith, nat_tests) in
    no_fault (is_nodes os) (is_length (length os)) (nat_lt 238 (length os)) (length os) (first_is os first)
    (and_from (nat_le 7 (length os)) ((length os - 7) % 21 == 0) head whole) short

shape_good : (b : Broadcast) (os : List ℕ) → Spells b os → shape_fault os ≡ None
shape_good b os h = shape_of (length b.entries) os h.is_nodes (spelled_len b os h) h.few

taken : (f : Option NodesRefusal) (p : Result Broadcast NodesRefusal) (b : Broadcast) → f ≡ None → p ≡ Ok b → unless_misshapen f p ≡ Ok b
taken f p b h g = rw (h, g) refl

pub spelled_is_read : SpelledNetCallIsRead → SpelledIsRead
spelled_is_read law b os h = taken (shape_fault os) (broadcast_at os) b (shape_good b os h) (broadcast_read law b os h)

-- and so what is read is what is spelled
pub reads_only : SpelledIsRead → (os : List ℕ) (r : Result Nodes NodesRefusal)
    → MatchResult r (λ n. nodes_at os ≡ Ok (view n)) (λ e. nodes_at os ≡ Err e)
    → (b : Broadcast) → Spells b os → IsOkAnd r (λ n. view n ≡ b)
reads_only law os (Ok n) h b s =
    let e = law b os s in
    let k : view n ≡ b = cc in
    k
reads_only law os (Err e) h b s = let k = law b os s in absurd (cc)
