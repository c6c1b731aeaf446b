-- Safe: what the two ends of a circuit have, by the events that were told; and when an end is told that its retries are used up
-- (this project's profile).
use Rattle.std.specs.Prelude.{◌≡◌, ◌≢◌, ◌+◌, ◌⊎◌, ◌↔◌, List, [], ◌++◌, take, Option, Some, ℕ, ◌-◌, suc, nat_lt, if◌then◌else◌, ◌∷◌, length}
use Rattle.circuit_l4.specs.declared.notice.EndNotice.TheVariants.{Closed, ClosedByPartner, FailedRetries}
use Rattle.circuit_l4.specs.State.{State}
use Rattle.circuit_reassembly.specs.Fragments.{fragments_of}
use Rattle.circuit_table.specs.Events.{Event, Name}
use Rattle.circuit_table.specs.Runs.{AreStarts, AreSteps, Step, end_named, events_of, expiries_in, sets_run}
use Rattle.circuit_table.specs.Sets.{Holder, SetState}
use Rattle.circuit_set.specs.TooLate.{AllowsByWindow, HasPartner, IsFresh, IsTimely, Partners, WasTold}

-- The beginning of what was written, and how many of its messages are whole (this project's profile).

-- the second list begins with the first
abbrev pub IsBeginning : List (List ℕ) → List (List ℕ) → Type 0
IsBeginning xs ys = (rest : List (List ℕ)) × (ys ≡ xs ++ rest)

-- how many messages have their last fragment below number g
abbrev pub wholes : List (List ℕ) → ℕ → ℕ
wholes [] g = 0
wholes (m ∷ ms) g = if nat_lt g (length (fragments_of m)) then 0 else suc (wholes ms (g - length (fragments_of m)))

-- What x wrote and its partner y received: a beginning of it, with every message that is acknowledged in it; and all of it where x was
-- told that its circuit is closed, or y that its partner has closed it.
pub record SafeBetween (events : List Event) (x y : Name) (from to : State) : Type 0 where
  pub received : IsBeginning to.receiving.received from.sending.wrote
  pub acked : IsBeginning (take (wholes from.sending.wrote from.sending.acked) from.sending.wrote) to.receiving.received
  pub closed : WasTold events x Closed ⊎ WasTold events y ClosedByPartner → to.receiving.received ≡ from.sending.wrote

-- an end without a partner has received nothing, and nothing of it is acknowledged
pub record SafeAlone (x : State) : Type 0 where
  pub received : x.receiving.received ≡ []
  pub acked : x.sending.acked ≡ 0

-- So it is with the end x of these ends. Its partner is another end, whose partner it is: so what x has received is a beginning of what its
-- partner wrote.
pub record SafeEnd (events : List Event) (ends : Name → Option Holder) (x : Name) (h : Holder) : Type 0 where
  pub joined : (y : Name) (k : Holder) → Partners events x y → ends y ≡ Some k → SafeBetween events x y h.end k.end
  pub back : (y : Name) → Partners events x y → Partners events y x × (x ≢ y)
  pub alone : (HasPartner events x → ⊥) → SafeAlone h.end

-- By these steps it is so with each end, and its partner is an end, too. And each was told that its retries are used up exactly where
-- there was one expiry more than there are retries.
pub record IsSafe (sets : List SetState) (steps : List Step) (x : Name) (h : Holder) : Type 0 where
  pub end : SafeEnd (events_of sets steps) (end_named (sets_run sets steps)) x h
  pub partner : (y : Name) → Partners (events_of sets steps) x y → (k : Holder) × (end_named (sets_run sets steps) y ≡ Some k)
  pub retries : WasTold (events_of sets steps) x FailedRetries ↔ (expiries_in sets steps x ≡ h.end.config.retries + 1)

abbrev pub Safe : List SetState → List Step → Type 0
Safe sets steps = (x : Name) (h : Holder) → end_named (sets_run sets steps) x ≡ Some h → IsSafe sets steps x h

-- at each moment of each run that is timely and fresh
abbrev pub CircuitsSafe : Type 0
CircuitsSafe =
    (sets : List SetState) → AreStarts sets → (steps later : List Step) → AreSteps (steps ++ later)
    → IsTimely AllowsByWindow (events_of sets (steps ++ later)) → IsFresh (events_of sets (steps ++ later))
    → Safe sets steps

-- There a partner stays, and partners are two ends of which each is the other's.
abbrev pub PartnersLast : Type 0
PartnersLast =
    (sets : List SetState) → AreStarts sets → (steps later : List Step) → AreSteps (steps ++ later)
    → IsTimely AllowsByWindow (events_of sets (steps ++ later)) → IsFresh (events_of sets (steps ++ later))
    → (x y : Name) → Partners (events_of sets steps) x y
    → Partners (events_of sets (steps ++ later)) x y × Partners (events_of sets steps) y x × (x ≢ y)

-- What holds of every run, timely or not: when an end is told that its retries are used up. Own profile.

-- By these steps each end was told that its retries are used up exactly where there was one expiry more than there are retries, since
-- it was made, since more was acknowledged, or since it began to close.
abbrev pub TellsRetries : List SetState → List Step → Type 0
TellsRetries sets steps =
    (x : Name) (h : Holder) → end_named (sets_run sets steps) x ≡ Some h
    → WasTold (events_of sets steps) x FailedRetries ↔ (expiries_in sets steps x ≡ h.end.config.retries + 1)

-- so it is at each moment of any run
abbrev pub RetriesAreTold : Type 0
RetriesAreTold = (sets : List SetState) → AreStarts sets → (steps : List Step) → AreSteps steps → TellsRetries sets steps
