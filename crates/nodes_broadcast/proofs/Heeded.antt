-- What is heeded of octets is what they spell, so octets that spell one broadcast differ in what isn't heeded alone.
use Rattle.std.proofs.Common.{◌≡◌, ◌++◌, ◌∙◌, ℕ, refl, sym, ap, List, [], ◌∷◌, length, take, drop}
use Rattle.ax_address.specs.Callsign.{Callsign}
use Rattle.ax_address.specs.Octets.{SpellsNetCall, heeded_call}
use Rattle.ax_address.specs.declared.entry.Entry.{Entry}
use Rattle.ax_address.proofs.NetCallLaws.{six_doubled, call_parts}
use Rattle.ax_address.proofs.CallOctets.{doubles}
use Rattle.nodes_broadcast.specs.Nodes.{Broadcast, Spells, SpellsEntry, SpellsEntries, nodes_octets}
use Rattle.nodes_broadcast.specs.Laws.{WrittenSpellsIt, WrittenAgainIsTheSame, heeded_entry, heeded_entries, heeded}
use Rattle.nodes_broadcast.proofs.Written.{is_broadcast}

abbrev call_said : Callsign → List ℕ
call_said c = doubles c.letters ++ c.ssid ∷ []

abbrev entry_said : Entry → List ℕ
entry_said e = call_said e.dest ++ e.alias ++ call_said e.best ++ e.quality ∷ []

abbrev entries_said : List Entry → List ℕ
entries_said [] = []
entries_said (e ∷ es) = entry_said e ++ entries_said es

call_heeded : (c : Callsign) (os : List ℕ) → SpellsNetCall c os → heeded_call os ≡ call_said c
call_heeded c os h = ap heeded_call h.spelled ∙ call_parts (doubles c.letters) h.last c.ssid (six_doubled c h.is_call) h.ssid

four : (a b c d w x y z : List ℕ) → a ≡ w → b ≡ x → c ≡ y → d ≡ z → ((a ++ b) ++ c) ++ d ≡ ((w ++ x) ++ y) ++ z
four a b c d w x y z e f g h = rw (e, f, g, h) refl

entry_heeded : (e : Entry) (os : List ℕ) → SpellsEntry e os → heeded_entry os ≡ entry_said e
entry_heeded e os h =
    four (heeded_call (take 7 os)) (take 6 (drop 7 os)) (heeded_call (take 7 (drop 13 os))) (drop 20 os) (call_said e.dest) e.alias (call_said e.best) (e.quality ∷ [])
    (call_heeded e.dest (take 7 os) h.dest) h.alias (call_heeded e.best (take 7 (drop 13 os)) h.best) h.quality

two : (a b x y : List ℕ) → a ≡ x → b ≡ y → a ++ b ≡ x ++ y
two a b x y e f = rw (e, f) refl

entries_heeded : (es : List Entry) (os : List ℕ) → SpellsEntries es os → heeded_entries (length es) os ≡ entries_said es
entries_heeded [] os h = h
entries_heeded (e ∷ es) os h =
    two (heeded_entry (take 21 os)) (heeded_entries (length es) (drop 21 os)) (entry_said e) (entries_said es) (entry_heeded e (take 21 os) h.0) (entries_heeded es (drop 21 os) h.1)

seven : (a os : List ℕ) → take 1 os ≡ 255 ∷ [] → take 6 (drop 1 os) ≡ a → take 7 os ≡ 255 ∷ a
seven a [] h k = absurd (cc)
seven a (o ∷ os) h k = let e : o ≡ 255 = cc in rw e (ap (λ xs. 255 ∷ xs) k)

all_heeded : (b : Broadcast) (os : List ℕ) → Spells b os → heeded (length b.entries) os ≡ (255 ∷ b.alias) ++ entries_said b.entries
all_heeded b os h =
    two (take 7 os) (heeded_entries (length b.entries) (drop 7 os)) (255 ∷ b.alias) (entries_said b.entries) (seven b.alias os h.is_nodes h.alias) (entries_heeded b.entries (drop 7 os) h.entries)

pub written_again : WrittenSpellsIt → WrittenAgainIsTheSame
written_again written b os h = all_heeded b (nodes_octets b) (written b (is_broadcast b os h)) ∙ sym (all_heeded b os h)
