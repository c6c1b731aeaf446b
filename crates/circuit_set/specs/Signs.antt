-- By what it shows that something comes too late, by the events that were told before it (this project's profile).
use Rattle.std.specs.Prelude.{◌≡◌, ◌≢◌, ℕ, ◌⊎◌, List, [], ◌∷◌, ◌++◌, length, Contains, Option}
use Rattle.std.specs.List.{AllByRecursion, IsDistinct}
use Rattle.ax_address.specs.Callsign.{Callsign}
use Rattle.circuit_l4.specs.declared.pair.Pair.{Pair}
use Rattle.circuit_table.specs.Events.{Event, Name}
use Rattle.circuit_set.specs.Owned.{PartnerSent}
use Rattle.circuit_set.specs.TooLate.{Allowing, Asks, Gives, Has, HasPartner, IsOpen, LatestSending, Overtaker, Overtakes, Partners, same_overtaker}

-- ---- x has heeded d

-- no partner of x has sent a copy of it
abbrev pub IsUnsent : List Event → Name → List ℕ → Type 0
IsUnsent before x d = PartnerSent before x d → ⊥

-- of a circuit of x and y, these are all the fragments that have overtaken a sending, each once
pub record AreOvertakers (x y : Name) (upto since : List Event) (os : List Overtaker) : Type 0 where
  pub different : IsDistinct same_overtaker os
  pub only : AllByRecursion (Overtakes x y upto since) os
  pub all : (o : Overtaker) → Overtakes x y upto since o → Contains os o

-- y is x's partner, and so many events come before its latest sending of a copy of d, which so many fragments have overtaken
pub record OvertakenBy (before : List Event) (x y : Name) (d : List ℕ) (place count : ℕ) : Type 0 where
  pub joined : Partners before x y
  pub number : Option ℕ
  pub sending : LatestSending before y d number
  pub place_is : length sending.before ≡ place
  pub overtakers : List Overtaker
  pub are : AreOvertakers x y (sending.before ++ sending.at ∷ []) sending.after overtakers
  pub count_is : length overtakers ≡ count

-- So many are too many: as many as are in this circuit, or 0 where that isn't said, since the end by whose window it is was not told that
-- the circuit is open.
abbrev pub AreTooMany : Allowing → List Event → Name → Name → ℕ → Type 0
AreTooMany allows before x y n = allows before x y n ⊎ (((m : ℕ) → allows before x y m → ⊥) × (n ≡ 0))

-- ---- an end was made

-- for this request, which no end has sent that has no partner
abbrev pub IsUnasked : List Event → List ℕ → Type 0
IsUnasked before d = (x : Name) → Asks before d x → (HasPartner before x → ⊥) → ⊥

-- with this pair, which this node gave to the partner of z, an open end of another node
pub record StillHolds (before : List Event) (node : ℕ) (pair : Pair) (z : Name) : Type 0 where
  pub stands : IsOpen before z
  pub far : z.node ≢ node
  pub partner : Name
  pub joined : Partners before z partner
  pub there : partner.node ≡ node
  pub given : Has (λ p e. (own : Callsign) × Gives own pair partner e) before
