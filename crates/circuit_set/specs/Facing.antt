-- That partners name each other's nodes. Own profile.
use Rattle.std.specs.Prelude.{◌≡◌, ℕ, List, slice_get, Some}
use Rattle.ax_address.specs.Callsign.{Callsign}
use Rattle.circuit_set.specs.Books.{partner}
use Rattle.circuit_table.specs.Events.{Name}
use Rattle.circuit_set.specs.NotedRuns.{Net, begins, end_at, net_run, net_step}
use Rattle.circuit_set.specs.Returning.{CallsDiffer}
use Rattle.circuit_table.specs.Runs.{AreStarts, AreSteps, Step}
use Rattle.circuit_table.specs.Sets.{Holder, SetState}

-- the call of the node at a place
abbrev pub IsCallOf : List SetState → ℕ → Callsign → Type 0
IsCallOf sets node own = (s : SetState) × (slice_get sets node ≡ Some s) × (s.own ≡ own)

-- each of two ends has the call of the other's node as that of its partner's node
pub record Faces (net : Net) (x y : Name) : Type 0 where
  pub mine : Holder
  pub here : end_at net x ≡ Some mine
  pub other : Holder
  pub there : end_at net y ≡ Some other
  pub at : IsCallOf net.sets y.node mine.at
  pub back : IsCallOf net.sets x.node other.at

-- So it is with an end and its partner, at each moment of every run of nodes of which no two have one call: timely and fresh or not,
-- and where nodes start again.
abbrev pub PartnersFace : Type 0
PartnersFace =
    (sets : List SetState) → AreStarts sets → CallsDiffer sets → (steps : List Step) → AreSteps steps
    → (x y : Name) → partner (net_run (begins sets) steps).book x ≡ Some y → Faces (net_run (begins sets) steps) x y

-- At each step of every run, also where nodes start again: an end stays, with the call of its partner's node.
abbrev pub EndsStay : Type 0
EndsStay =
    (sets : List SetState) → AreStarts sets → (steps : List Step) (st : Step) (x : Name) (h : Holder)
    → let net : Net = net_run (begins sets) steps in
    end_at net x ≡ Some h → (k : Holder) × (end_at (net_step net st) x ≡ Some k) × (k.at ≡ h.at)
