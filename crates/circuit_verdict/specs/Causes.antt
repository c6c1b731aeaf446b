-- By what it shows that an event comes too late: as it is read off the notes of what was told before it, and what it says of the events
-- themselves (this project's profile).
use Rattle.std.specs.Prelude.{◌≡◌, ℕ, ◌≤◌, ◌&&◌, nat_le, is_some, if◌then◌else◌, List, [], filter, flat_map, slice_get, Option, Some, None}
use Rattle.circuit_l4.specs.declared.pair.Pair.{Pair}
use Rattle.circuit_set.specs.Books.{Book, MadeNote, SentNote, empty, is_unknown, latest_in, with_events, overtakers, partner, requester, lost_in}
use Rattle.circuit_table.specs.Events.{Event, Name, same_name}
use Rattle.circuit_table.specs.Sets.{Made, Heeded, CircuitTold}
use Rattle.circuit_set.specs.Signs.{AreTooMany, IsUnasked, IsUnsent, OvertakenBy, StillHolds}
use Rattle.circuit_set.specs.TooLate.{Allowing}
use Rattle.indexmap.specs.IndexMap.{get}
use Rattle.circuit_verdict.specs.declared.cause.Cause.{Cause}
use Rattle.circuit_verdict.specs.declared.cause.Cause.TheVariants.{Unsent, Overtaken, Unasked, Held}
use Rattle.circuit_verdict.specs.declared.ends.Ends.{Ends}
use Rattle.circuit_verdict.specs.declared.allowance.Allowance.{Allowance}
use Rattle.circuit_verdict.specs.Ends.{faces, facing_in, given_in, kept_faces}
use Rattle.circuit_verdict.specs.Lists.{list_in}
use Rattle.circuit_verdict.specs.ByBook.{allowance_of}
use Rattle.circuit_verdict.specs.Verdicts.{AreInTime, allows_of}

-- ---- x has heeded a datagram: it has no partner, its partner never sent it, or too many messages have overtaken the latest sending
abbrev pub overtaken_cause : Allowance → Book → Name → Name → Option SentNote → Option Cause
overtaken_cause a b x y None = Some Unsent
overtaken_cause a b x y (Some s) =
    let count : ℕ = overtakers y x s.place b.sent b.heard in
    if nat_le (allowance_of a b x) count then Some (Overtaken s.place count (allowance_of a b x)) else None

abbrev pub heeded_cause : Allowance → Book → Name → List ℕ → Option Name → Option Cause
heeded_cause a b x d None = Some Unsent
heeded_cause a b x d (Some y) = overtaken_cause a b x y (latest_in b.sent y d)

-- ---- an end was made: no end asks for it, or one still has a partner with its pair

-- the open ends of other nodes whose partner is an end to which this node gave this pair
abbrev pub holders : List MadeNote → List Name → ℕ → Pair → List Name
holders ms lost node pair = flat_map (λ (x : Name). filter (faces ms lost x) (facing_in ms x)) (given_in ms node pair)

abbrev pub held_cause : Option Name → Option Cause
held_cause None = None
held_cause (Some x) = Some (Held x.node x.id)

abbrev pub made_cause : Book → List Name → ℕ → Pair → Option (List ℕ) → Option Cause
made_cause b lost node pair request =
    if is_some request && is_unknown (requester b request) then Some Unasked else held_cause (slice_get (holders b.made lost node pair) 0)

-- ---- any event
abbrev pub cause_told : Allowance → Book → List Name → ℕ → CircuitTold → Option Cause
cause_told a b lost node (Made id pair at request) = made_cause b lost node pair request
cause_told a b lost node (Heeded id d) = let x : Name = record { node = node; id = id } in heeded_cause a b x d (partner b x)
cause_told a b lost node told = None

-- behind these events
abbrev pub cause_after : Allowance → List Event → Event → Option Cause
cause_after a es e = cause_told a (with_events empty es) (lost_in [] es) e.node e.told

-- ---- what a cause says of an event, by the events before it

-- of a datagram that x heeds
abbrev pub ShowsHeeded : Allowing → List Event → Name → List ℕ → Cause → Type 0
ShowsHeeded allows before x d Unsent = IsUnsent before x d
ShowsHeeded allows before x d (Overtaken sent count allowed) =
    (y : Name) × OvertakenBy before x y d sent count × AreTooMany allows before x y allowed × (allowed ≤ count)
ShowsHeeded allows before x d cause = ⊥

-- of an end that is made with this pair, for this request or for none
abbrev pub ShowsMade : List Event → ℕ → Pair → Option (List ℕ) → Cause → Type 0
ShowsMade before node pair request Unasked = (d : List ℕ) × (request ≡ Some d) × IsUnasked before d
ShowsMade before node pair request (Held other end) = StillHolds before node pair (record { node = other; id = end })
ShowsMade before node pair request cause = ⊥

-- nothing else comes too late
abbrev pub ShowsTold : Allowing → List Event → ℕ → CircuitTold → Cause → Type 0
ShowsTold allows before node (Made id pair at request) cause = ShowsMade before node pair request cause
ShowsTold allows before node (Heeded id d) cause = ShowsHeeded allows before (record { node = node; id = id }) d cause
ShowsTold allows before node told cause = ⊥

abbrev pub Shows : Allowing → List Event → Event → Cause → Type 0
Shows allows before e cause = ShowsTold allows before e.node e.told cause

-- so it is of each cause, where none of the events before came too late
abbrev pub CausesShow : Type 0
CausesShow =
    (a : Allowance) (before : List Event) (e : Event) (cause : Cause) → AreInTime a before
    → cause_after a before e ≡ Some cause → Shows (allows_of a) before e cause

-- ---- the same as the code reads it off what is kept
abbrev pub kept_partners : Ends → Name → List Name
kept_partners e x = filter (kept_faces e x) (list_in (get same_name e.facing.lists x))
