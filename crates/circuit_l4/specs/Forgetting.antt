-- Messages of which all fragments are acknowledged are forgotten. No public clause cites it: not for the reader of a contract.
use Rattle.std.specs.Prelude.{◌≡◌, ℕ, ◌+◌, ◌<◌, Bool, true, false, List, [], ◌∷◌, ◌++◌, length}
use Rattle.circuit_reassembly.specs.Fragments.{fragments_of}
use Rattle.circuit_l4.specs.State.{fragments_of_all}

-- so many fragments are acknowledged, and the first message has more
abbrev pub IsUnder : ℕ → List (List ℕ) → Type 0
IsUnder done [] = Unit {0}
IsUnder done (m ∷ ms) = done < length (fragments_of m)

-- of so many fragments acknowledged, the first message was forgotten with its own, or it has more
abbrev pub ForgetsFirst : Bool → List (List ℕ) → ℕ → List (List ℕ) → ℕ → Type 0
ForgetsFirst true old done new left = (message : List ℕ) × (old ≡ message ∷ new) × (done ≡ length (fragments_of message) + left)
ForgetsFirst false old done new left = (new ≡ old) × (left ≡ done) × IsUnder done old

-- of so many fragments acknowledged, each message was forgotten with its own up to the first one that has more
pub record Forgets (old : List (List ℕ)) (done : ℕ) (new : List (List ℕ)) (left : ℕ) : Type 0 where
  pub before : List (List ℕ)
  pub queue : old ≡ before ++ new
  pub fragments : done ≡ length (fragments_of_all before) + left
  pub first : IsUnder left new
