-- Messages in a queue of bytes, by their lengths. No public clause cites it: not for the reader of a contract.
use Rattle.std.specs.Prelude.{◌≡◌, ℕ, ◌-◌, ◌<◌, ◌≤◌, List, [], ◌∷◌, take, drop, length}
use Rattle.circular_buffer.specs.Buffer.{Buffer}

-- messages one behind the other, and how many bytes they may have
pub record Queue : Type 0 where
  pub messages : List (List ℕ)
  pub room : ℕ

-- bytes cut into messages of these lengths
abbrev pub cut : List ℕ → List ℕ → List (List ℕ)
cut [] bytes = []
cut (n ∷ lengths) bytes = take n bytes ∷ cut lengths (drop n bytes)

-- so many bytes have messages of these lengths, and no others; none is empty, and none is too long
abbrev pub Lengths : List ℕ → ℕ → Type 0
Lengths [] held = held ≡ 0
Lengths (n ∷ lengths) held = (0 < n) × (n ≤ 8192) × (n ≤ held) × Lengths lengths (held - n)

-- what always holds of the two rings
pub record IsQueue (bytes lengths : Buffer ℕ) : Type 0 where
  pub room : lengths.capacity ≡ bytes.capacity
  pub small : bytes.capacity ≤ 65536
  pub fits : length bytes.items ≤ bytes.capacity
  pub cuts : Lengths lengths.items (length bytes.items)
