-- The pairs by which a node names its ends: the order in which it gives them is this project's profile.
use Rattle.std.specs.Prelude.{◌≡◌, ◌≢◌, ℕ, zero, suc, ◌+◌, ◌≤◌, ◌<◌, Bool, false, ◌||◌, nat_eq, nat_lt, if◌then◌else◌, List, [], ◌∷◌, ◌++◌, length, slice_get, Some}
use Rattle.circuit_l4.specs.declared.pair.Pair.{Pair}

-- the index fastest
abbrev pub pair_after : Pair → Pair
pair_after p =
    if nat_lt p.index 255 then record { index = p.index + 1; ident = p.ident }
    else record { index = 1; ident = if nat_lt p.ident 255 then p.ident + 1 else 1 }

-- one of these has its index
abbrev pub is_used : Pair → List Pair → Bool
is_used p [] = false
is_used p (q ∷ qs) = nat_eq q.index p.index || is_used p qs

-- the first pair from p on whose index none of these has, where at most so many are skipped
abbrev pub next_free : ℕ → List Pair → Pair → Pair
next_free zero held p = p
next_free (suc many) held p = if is_used p held then next_free many held (pair_after p) else p

-- where a node stands with its pairs
pub record Giving : Type 0 where
  pub next : Pair  -- the pair from which on it looks for the next one
  pub held : List Pair  -- those of the ends that it holds, in their order

abbrev pub is_full : Giving → Bool
is_full g = nat_lt 63 (length g.held)

abbrev pub pair_given : Giving → Pair
pair_given g = next_free 255 g.held g.next

abbrev pub after_giving : Giving → Giving
after_giving g = record { next = pair_after (pair_given g); held = g.held ++ pair_given g ∷ [] }

-- all but the one behind so many others
abbrev pub without : {A : Type 0} → ℕ → List A → List A
without k [] = []
without zero (x ∷ xs) = xs
without (suc k) (x ∷ xs) = x ∷ without k xs

-- an end is made, where fewer than 64 are held; an end is held no longer
pub data Change : Type 0 where
  EndMade : Change
  EndGone : (nth : ℕ) → Change

abbrev pub pairs_given : List Change → Giving → List Pair
pairs_given [] g = []
pairs_given (EndMade ∷ more) g = if is_full g then pairs_given more g else pair_given g ∷ pairs_given more (after_giving g)
pairs_given (EndGone nth ∷ more) g = pairs_given more (record { next = g.next; held = without nth g.held })

pub record IsPair (p : Pair) : Type 0 where
  pub index_some : 1 ≤ p.index
  pub index_most : p.index ≤ 255
  pub ident_some : 1 ≤ p.ident
  pub ident_most : p.ident ≤ 255

-- among the first 48,960 pairs that a node gives after its start none stands twice
abbrev pub PairsDiffer : Type 0
PairsDiffer =
    (start : Pair) → IsPair start → (changes : List Change) (i j : ℕ) (p q : Pair) → i < j → j < 48960
    → slice_get (pairs_given changes (record { next = start; held = [] })) i ≡ Some p
    → slice_get (pairs_given changes (record { next = start; held = [] })) j ≡ Some q
    → p ≢ q
