-- What is written for a broadcast spells it.
use Rattle.std.proofs.Common.{◌≡◌, ◌+◌, ◌-◌, ◌++◌, ◌∙◌, ℕ, refl, sym, ap, subst, List, [], ◌∷◌, length, take, drop, arith, append_assoc, length-take, length-drop}
use Rattle.std.specs.List.{AllByRecursion}
use Rattle.std.proofs.lemmas.List.{take_at, drop_at, length-append}
use Rattle.ax_address.specs.Octets.{WrittenNetCallSpellsIt, SpellsNetCall, net_call_octets}
use Rattle.ax_address.specs.declared.entry.Entry.{Entry}
use Rattle.ax_address.proofs.NetCallLaws.{call_len}
use Rattle.nodes_broadcast.specs.Nodes.{Broadcast, IsEntry, IsBroadcast, Spells, SpellsEntry, SpellsEntries, entry_octets, entries_octets, nodes_octets}
use Rattle.nodes_broadcast.specs.Laws.{SpelledIsRead, WrittenSpellsIt, WrittenIsRead}
use Rattle.nodes_broadcast.proofs.Spelled.{entry_len}

-- two calls of seven octets, an alias of six and an octet, one after the other

regroup : (d a b q : List ℕ) → ((d ++ a) ++ b) ++ q ≡ d ++ (a ++ (b ++ q))
regroup d a b q = append_assoc (d ++ a) b q ∙ append_assoc d a (b ++ q)

dest_at : (d a b q : List ℕ) → length d ≡ 7 → take 7 (((d ++ a) ++ b) ++ q) ≡ d
dest_at d a b q h = ap (take 7) (regroup d a b q) ∙ take_at d (a ++ (b ++ q)) 7 h

alias_at : (d a b q : List ℕ) → length d ≡ 7 → length a ≡ 6 → take 6 (drop 7 (((d ++ a) ++ b) ++ q)) ≡ a
alias_at d a b q h g = ap (λ xs. take 6 (drop 7 xs)) (regroup d a b q) ∙ (ap (take 6) (drop_at d (a ++ (b ++ q)) 7 h) ∙ take_at a (b ++ q) 6 g)

best_at : (d a b q : List ℕ) → length d ≡ 7 → length a ≡ 6 → length b ≡ 7 → take 7 (drop 13 (((d ++ a) ++ b) ++ q)) ≡ b
best_at d a b q h g k =
    let len : length (d ++ a) ≡ 13 = omega (arith, length-append d a) in
    ap (λ xs. take 7 (drop 13 xs)) (append_assoc (d ++ a) b q) ∙ (ap (take 7) (drop_at (d ++ a) (b ++ q) 13 len) ∙ take_at b q 7 k)

quality_at : (d a b q : List ℕ) → length d ≡ 7 → length a ≡ 6 → length b ≡ 7 → drop 20 (((d ++ a) ++ b) ++ q) ≡ q
quality_at d a b q h g k =
    let len : length ((d ++ a) ++ b) ≡ 20 = omega (arith, length-append (d ++ a) b, length-append d a) in
    drop_at ((d ++ a) ++ b) q 20 len

written_entry : WrittenNetCallSpellsIt → (e : Entry) → IsEntry e → SpellsEntry e (entry_octets e)
written_entry law e h =
    let d = net_call_octets e.dest in
    let b = net_call_octets e.best in
    let q = e.quality ∷ [] in
    record {
      dest = subst (SpellsNetCall e.dest) (sym (dest_at d e.alias b q (call_len e.dest h.dest))) (law e.dest h.dest);
      alias = alias_at d e.alias b q (call_len e.dest h.dest) h.alias;
      best = subst (SpellsNetCall e.best) (sym (best_at d e.alias b q (call_len e.dest h.dest) h.alias (call_len e.best h.best))) (law e.best h.best);
      quality = quality_at d e.alias b q (call_len e.dest h.dest) h.alias (call_len e.best h.best);
    }

written_entries : WrittenNetCallSpellsIt → (es : List Entry) → AllByRecursion IsEntry es → SpellsEntries es (entries_octets es)
written_entries law [] h = refl
written_entries law (e ∷ es) h =
    let entry = written_entry law e h.0 in
    let len : length (entry_octets e) ≡ 21 = entry_len e (entry_octets e) entry in (
      subst (SpellsEntry e) (sym (take_at (entry_octets e) (entries_octets es) 21 len)) entry,
      subst (SpellsEntries es) (sym (drop_at (entry_octets e) (entries_octets es) 21 len)) (written_entries law es h.1),
    )

pub written_spells : WrittenNetCallSpellsIt → WrittenSpellsIt
written_spells law b h = record {
  is_nodes = refl;
  alias = take_at b.alias (entries_octets b.entries) 6 h.alias;
  six = h.alias;
  entries = subst (SpellsEntries b.entries) (sym (drop_at b.alias (entries_octets b.entries) 6 h.alias)) (written_entries law b.entries h.entries);
  few = h.few;
}

pub written_is_read : SpelledIsRead → WrittenSpellsIt → WrittenIsRead
written_is_read read written b h = read b (nodes_octets b) (written b h)

-- what is spelled is a broadcast

pub is_entry : (e : Entry) (os : List ℕ) → SpellsEntry e os → IsEntry e
is_entry e os h = record {
  dest = h.dest.is_call;
  alias = omega (arith, entry_len e os h, ap length h.alias, length-take 6 (drop 7 os), length-drop 7 os);
  best = h.best.is_call;
}

are_entries : (es : List Entry) (os : List ℕ) → SpellsEntries es os → AllByRecursion IsEntry es
are_entries [] os h = tt
are_entries (e ∷ es) os h = (is_entry e (take 21 os) h.0, are_entries es (drop 21 os) h.1)

pub is_broadcast : (b : Broadcast) (os : List ℕ) → Spells b os → IsBroadcast b
is_broadcast b os h = record { alias = h.six; few = h.few; entries = are_entries b.entries (drop 7 os) h.entries }
