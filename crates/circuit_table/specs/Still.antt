-- Which ends may have something to tell, by what the code remembers of it. No public clause cites it: not for the reader of a contract.
use Rattle.std.specs.Prelude.{◌≡◌, ℕ, min, ◌-◌, ◌^◌, false, ◌||◌, nat_eq, List, [], ◌∷◌, length, is_some}
use Rattle.std.specs.Coded.{Coded-set, coded_bool, coded_ℕ, ×_prop, Π_prop, Unit-prop}
use Rattle.std.specs.Map.{remove_entry, set_value}
use Rattle.circuit_l4.specs.State.{State}
use Rattle.circuit_l4.specs.Standing.{StandsFor}
use Rattle.circuit_table.specs.Sets.{is_over}
use Rattle.circuit_table.specs.declared.holder.Holder.{Holder}
use Rattle.circuit_table.specs.declared.loud.Loud.{Loud}
use Rattle.circuit_table.specs.declared.loud.Loud.TheVariants.{Nobody, One, Any}

-- an end has nothing to tell, and is to be held on
abbrev pub IsHeldOn : Holder → Type 0
IsHeldOn k = (x : State) → StandsFor k.end x → k.taken ≡ min x.receiving.taken (2 ^ 64 - 1) → (k.discarded || is_over x) ≡ false

abbrev pub IsStill : Holder → Type 0
IsStill k = ((k.unannounced ≡ false) × (length k.end.outs ≡ 0)) × ((is_some k.end.notice ≡ false) × IsHeldOn k)

abbrev pub AreStill : List (ℕ × Holder) → Type 0
AreStill [] = Unit {0}
AreStill (e ∷ es) = IsStill e.1 × AreStill es

-- those that may not have anything to tell have nothing
abbrev pub OthersAreStill : Loud → List (ℕ × Holder) → Type 0
OthersAreStill Nobody es = AreStill es
OthersAreStill (One id) es = AreStill (remove_entry (nat_eq id) es)
OthersAreStill Any es = Unit {0}

-- the same, whatever the one with this number comes to
abbrev pub AreStillBeside : ℕ → Loud → List (ℕ × Holder) → Type 0
AreStillBeside id l old = (new : List (ℕ × Holder)) → remove_entry (nat_eq id) new ≡ remove_entry (nat_eq id) old → OthersAreStill l new

-- and once it has come to this
abbrev pub ComesTo : ℕ → Loud → Holder → Loud → Type 0
ComesTo id before k after =
    (old new : List (ℕ × Holder)) → AreStillBeside id before old → new ≡ set_value (nat_eq id) old k → OthersAreStill after new

-- ---- each of these is known in one way only ----
IsHeldOn-prop : (k : Holder) → IsProp (IsHeldOn k)
IsHeldOn-prop k =
    Π_prop {A = State} (λ x. Π_prop {A = StandsFor k.end x} (λ s.
    Π_prop {A = k.taken ≡ min x.receiving.taken (2 ^ 64 - 1)} (λ t. Coded-set coded_bool (k.discarded || is_over x) false)))

IsStill-prop : (k : Holder) → IsProp (IsStill k)
IsStill-prop k =
    ×_prop (×_prop {A = k.unannounced ≡ false} (Coded-set coded_bool k.unannounced false) (Coded-set coded_ℕ (length k.end.outs) 0))
    (×_prop {A = is_some k.end.notice ≡ false} (Coded-set coded_bool (is_some k.end.notice) false) (IsHeldOn-prop k))

AreStill-prop : (es : List (ℕ × Holder)) → IsProp (AreStill es)
AreStill-prop [] = Unit-prop
AreStill-prop (e ∷ es) = ×_prop (IsStill-prop e.1) (AreStill-prop es)

pub OthersAreStill-prop : (l : Loud) (es : List (ℕ × Holder)) → IsProp (OthersAreStill l es)
OthersAreStill-prop Nobody es = AreStill-prop es
OthersAreStill-prop (One id) es = AreStill-prop (remove_entry (nat_eq id) es)
OthersAreStill-prop Any es = Unit-prop
