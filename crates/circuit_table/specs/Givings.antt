-- The pairs that a set gives its ends, as it tells them.
use Rattle.std.specs.Prelude.{◌≡◌, ◌≢◌, ℕ, ◌<◌, if◌then◌else◌, List, [], ◌∷◌, slice_get, Some}
use Rattle.circuit_l4.specs.declared.pair.Pair.{Pair}
use Rattle.circuit_table.specs.Pairs.{Change, EndMade, Giving, EndGone, IsPair, after_giving, is_full, pairs_given, without}
use Rattle.circuit_table.specs.Sets.{Act, Made, Restart, SetDone, SetState, CircuitTold, held_pairs}
use Rattle.circuit_table.specs.Pumps.{runs}
use Rattle.circuit_table.specs.Runs.{IsStart}

-- where a set stands with its pairs
abbrev pub giving : SetState → Giving
giving s = record { next = s.next; held = held_pairs s.ends }

-- where a node stands after these changes
abbrev pub after_changes : List Change → Giving → Giving
after_changes [] g = g
after_changes (EndMade ∷ more) g = if is_full g then after_changes more g else after_changes more (after_giving g)
after_changes (EndGone nth ∷ more) g = after_changes more (record { next = g.next; held = without nth g.held })

-- the pairs of the ends that are made, in order
abbrev pub pairs_made : List CircuitTold → List Pair
pairs_made [] = []
pairs_made (Made id pair at request ∷ ts) = pair ∷ pairs_made ts
pairs_made (t ∷ ts) = pairs_made ts

-- the node doesn't start again
abbrev pub IsUp : Act → Type 0
IsUp (Restart pair more) = ⊥
IsUp _ = Unit {0}

abbrev pub StaysUp : List Act → Type 0
StaysUp [] = Unit {0}
StaysUp (a ∷ acts) = IsUp a × StaysUp acts

-- Whatever a set was given before: while its node doesn't start again, its ends are made and go by some changes, and the pairs that it
-- tells are those that are given by them.
pub record GivenBy (s : SetState) (done : SetDone) : Type 0 where
  pub changes : List Change
  pub pairs : pairs_made done.told ≡ pairs_given changes (giving s)
  pub stands : giving done.set ≡ after_changes changes (giving s)

abbrev pub MadeAreGiven : Type 0
MadeAreGiven =
    (s : SetState) → IsStart s → (before acts : List Act) → StaysUp acts
    → let t : SetState = (runs before s).set in GivenBy t (runs acts t)

-- A set that holds no end, as at its start and where its node has started again: among the first 48,960 pairs that it tells then none
-- stands twice.
abbrev pub MadeDiffer : Type 0
MadeDiffer =
    (s : SetState) → IsStart s → (before acts : List Act) → StaysUp acts
    → let t : SetState = (runs before s).set in
    held_pairs t.ends ≡ [] → IsPair t.next → (i j : ℕ) (p q : Pair) → i < j → j < 48960
    → slice_get (pairs_made (runs acts t).told) i ≡ Some p → slice_get (pairs_made (runs acts t).told) j ≡ Some q → p ≢ q
