-- Laws of the spelling of broadcasts.
use Rattle.std.specs.Prelude.{ℕ, zero, suc, ◌≡◌, List, ◌++◌, length, take, drop, Ok}
use Rattle.ax_address.specs.Octets.{heeded_call}
use Rattle.nodes_broadcast.specs.Nodes.{Broadcast, IsBroadcast, Spells, nodes_octets, nodes_at}

-- octets that spell a broadcast are read as it
abbrev pub SpelledIsRead : Type 0
SpelledIsRead = (b : Broadcast) (octets : List ℕ) → Spells b octets → nodes_at octets ≡ Ok b

-- what is written for a broadcast spells it
abbrev pub WrittenSpellsIt : Type 0
WrittenSpellsIt = (b : Broadcast) → IsBroadcast b → Spells b (nodes_octets b)

-- what is written for a broadcast is read as it
abbrev pub WrittenIsRead : Type 0
WrittenIsRead = (b : Broadcast) → IsBroadcast b → nodes_at (nodes_octets b) ≡ Ok b

-- what is heeded of an entry's octets
abbrev pub heeded_entry : List ℕ → List ℕ
heeded_entry octets = heeded_call (take 7 octets) ++ take 6 (drop 7 octets) ++ heeded_call (take 7 (drop 13 octets)) ++ drop 20 octets

-- what is heeded of the octets of so many entries, and all of what stands behind them
abbrev pub heeded_entries : ℕ → List ℕ → List ℕ
heeded_entries zero octets = octets
heeded_entries (suc n) octets = heeded_entry (take 21 octets) ++ heeded_entries n (drop 21 octets)

-- what is heeded of the octets of a broadcast with so many entries
abbrev pub heeded : ℕ → List ℕ → List ℕ
heeded n octets = take 7 octets ++ heeded_entries n (drop 7 octets)

-- octets that are read and written again are the same, but for what isn't heeded
abbrev pub WrittenAgainIsTheSame : Type 0
WrittenAgainIsTheSame = (b : Broadcast) (octets : List ℕ) → Spells b octets → heeded (length b.entries) (nodes_octets b) ≡ heeded (length b.entries) octets
