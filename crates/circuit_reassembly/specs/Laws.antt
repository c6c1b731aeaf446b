-- What holds of every message.
use Rattle.std.specs.Prelude.{◌≡◌, ℕ, ◌-◌, ◌<◌, ◌≤◌, true, false, List, [], ◌∷◌, ◌++◌, length, replicate}
use Rattle.circuit_reassembly.specs.declared.TheConstants.{FRAGMENT, LONGEST}
use Rattle.circuit_reassembly.specs.Fragments.{Fragment, fragments_of, Answer, More, Whole, gather_step}

-- these fragments carry this message: pieces of 236 bytes with the flag that more follow, and a last one of 1 to 236 bytes
-- without it. An empty message has none
abbrev pub Carry : List Fragment → List ℕ → Type 0
Carry [] message = message ≡ []
Carry (last ∷ []) message = (message ≡ last.0) × (0 < length last.0) × (length last.0 ≤ FRAGMENT) × (last.1 ≡ false)
Carry (f ∷ next ∷ rest) message = (length f.0 ≡ FRAGMENT) × (f.1 ≡ true) × ((more : List ℕ) × (message ≡ f.0 ++ more) × Carry (next ∷ rest) more)

-- the fragments of a message carry it
abbrev pub FragmentsMakeTheMessage : Type 0
FragmentsMakeTheMessage = (message : List ℕ) → Carry (fragments_of message) message

-- what fragments are answered by, one after the other
abbrev pub answers : List ℕ → List Fragment → List Answer
answers held [] = []
answers held (f ∷ rest) = (gather_step held f.0 f.1).1 ∷ answers (gather_step held f.0 f.1).0 rest

-- what is held after them
abbrev pub held_after : List ℕ → List Fragment → List ℕ
held_after held [] = held
held_after held (f ∷ rest) = held_after (gather_step held f.0 f.1).0 rest

-- the fragments of a message give it back
abbrev pub GathersTheMessage : Type 0
GathersTheMessage =
    (message : List ℕ) → 0 < length message → length message ≤ LONGEST →
    (answers [] (fragments_of message) ≡ replicate (length (fragments_of message) - 1) More ++ Whole message ∷ []) × (held_after [] (fragments_of message) ≡ [])
