-- By what it shows that something in a trace came too late. Own profile.
use Rattle.std.specs.Prelude.{ℕ, suc, ◌≡◌, ◌+◌, List, [], ◌∷◌, ◌++◌, map, length, slice_get, slice_index, Bool, true, false, if◌then◌else◌, Option, Some, None}
use Rattle.circuit_verdict.specs.Causes.{Shows, cause_after}
use Rattle.circuit_verdict.specs.Verdicts.{AreInTime, allows_of, events_of}
use Rattle.circuit_verdict.specs.declared.cause.Cause.{Cause}
use Rattle.circuit_verdict.specs.declared.cause.Cause.TheVariants as causes
use Rattle.circuit_verdict.specs.declared.event.Numbered.{Numbered}
use Rattle.circuit_verdict.specs.declared.allowance.Allowance.{Allowance}
use Rattle.circuit_verdict.specs.declared.late.Late.{Late}
use Rattle.circuit_verdict.specs.declared.verdict.Verdict.{Verdict}
use Rattle.circuit_verdict.specs.Standing.{StandsFor, allowance_in}
use Rattle.network_file.specs.Plan.{Plan}
use Rattle.net_verdict.specs.declared.causes.LateCause.{LateCause}
use Rattle.net_verdict.specs.declared.sign.Sign.{Sign}
use Rattle.net_verdict.specs.declared.sign.Sign.TheVariants as signs
use Rattle.net_model.specs.Circuits.{CircuitEvent, what_was_told, allowance_of, event_at, events_at, judged}
use Rattle.net_model.specs.Events.{NumberedEvent}
use Rattle.net_model.specs.Starting.{Placed}
use Rattle.net_model.specs.World.{World}

-- ---- nodes and events by their numbers

abbrev pub tells : List CircuitEvent → Bool
tells [] = false
tells (e ∷ es) = true

-- the numbers of the events that tell of circuits; the first of these events has this number
abbrev pub telling : List Placed → ℕ → List NumberedEvent → List ℕ
telling nodes number [] = []
telling nodes number (e ∷ es) = if tells (event_at nodes e.line e.event) then number ∷ telling nodes (suc number) es else telling nodes (suc number) es

-- of what was told of circuits: the number of the event at this place among all events, which are numbered from 1
abbrev pub number_at : List Placed → List NumberedEvent → ℕ → ℕ
number_at nodes events place = slice_index (telling nodes 1 events) place

abbrev pub number_in : Option Placed → ℕ
number_in None = 0
number_in (Some p) = p.declared.node

abbrev pub sign_of : List Placed → List NumberedEvent → Cause → Sign
sign_of nodes events causes.Unsent = signs.Unsent
sign_of nodes events (causes.Overtaken sent overtakers allowance) = signs.Overtaken (number_at nodes events sent) overtakers allowance
sign_of nodes events causes.Unasked = signs.Unasked
sign_of nodes events (causes.Held node id) = signs.Held (number_in (slice_get nodes node)) id

-- ---- the event that came too late, judged by those before it

-- The event of this number came too late by this cause, and none before it did. The cause is the one that is read off the notes of those
-- before, and by these themselves it is so (`Shows`).
pub record ComesLateBy (a : Allowance) (nodes : List Placed) (told : List NumberedEvent) (number : ℕ) (cause : Cause) : Type 0 where
  pub before : List NumberedEvent
  pub at : NumberedEvent
  pub after : List NumberedEvent
  pub event : CircuitEvent
  pub parts : told ≡ before ++ at ∷ after
  pub number_is : number ≡ length before + 1
  pub told_is : event_at nodes at.line at.event ≡ event ∷ []
  pub in_time : AreInTime a (what_was_told (events_at nodes before))
  pub late : AreInTime a (what_was_told (events_at nodes before) ++ event.event ∷ []) → ⊥
  pub found : cause_after a (what_was_told (events_at nodes before)) event.event ≡ Some cause
  pub shows : Shows (allows_of a) (what_was_told (events_at nodes before)) event.event cause

-- it is the event of the verdict's line
abbrev pub IsCauseIn : Plan → World → Late → LateCause → Type 0
IsCauseIn plan w late c =
    (cause : Cause) × (comes : ComesLateBy (allowance_of plan) w.nodes w.told c.event cause) × (comes.at.line ≡ late.line) × (c.sign ≡ sign_of w.nodes w.told cause)

-- where nothing came too late there is no cause, and where something did there is
abbrev pub IsCauseOf : Plan → World → Option Late → Option LateCause → Type 0
IsCauseOf plan w None cause = cause ≡ None
IsCauseOf plan w (Some late) None = ⊥
IsCauseOf plan w (Some late) (Some cause) = IsCauseIn plan w late cause

-- ---- for the parts of the search; not for the reader of a contract

-- a verdict has taken in what was told, and none of it came too late
pub record HasTaken (a : Allowance) (v : Verdict) (told : List CircuitEvent) : Type 0 where
  pub allows : allowance_in v ≡ a
  pub events : List Numbered
  pub are : map judged events ≡ told
  pub stands : StandsFor v events
  pub in_time : AreInTime a (events_of events)

-- what is told next is taken in as well, or it comes too late by this cause
abbrev pub Judges : Verdict → Verdict → List CircuitEvent → Option Cause → Type 0
Judges old new told None = (a : Allowance) (before : List CircuitEvent) → HasTaken a old before → HasTaken a new (before ++ told)
Judges old new told (Some cause) =
    (a : Allowance) (before : List CircuitEvent) → HasTaken a old before
    → (e : CircuitEvent)
    × (told ≡ e ∷ [])
    × (cause_after a (what_was_told before) e.event ≡ Some cause)
    × (AreInTime a (what_was_told before ++ e.event ∷ []) → ⊥)
    × Shows (allows_of a) (what_was_told before) e.event cause

abbrev pub Finds : Allowance → List Placed → List NumberedEvent → Option (ℕ × Cause) → Type 0
Finds a nodes told None = AreInTime a (what_was_told (events_at nodes told))
Finds a nodes told (Some found) = ComesLateBy a nodes told found.0 found.1
