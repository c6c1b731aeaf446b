-- The verdict on a list of events: none where it is timely and fresh, and else the first event at which it isn't (this project's
-- profile). `IsTimely` and `IsFresh` are those of the law of circuits.
use Rattle.std.specs.Prelude.{◌≡◌, ℕ, ◌↔◌, List, [], ◌∷◌, ◌++◌, Option, Some, None}
use Rattle.std.specs.Option.{option_copied}
use Rattle.circuit_table.specs.Events.{Event}
use Rattle.circuit_set.specs.TooLate.{Allowing, AllowsByWindow, IsFresh, IsTimely, allows_fixed}
use Rattle.circuit_table.specs.Sets as sets
use Rattle.circuit_table.specs.Events as events
use Rattle.circuit_verdict.specs.declared.event.Numbered.{Numbered}
use Rattle.circuit_verdict.specs.declared.allowance.Allowance.{Allowance}
use Rattle.circuit_verdict.specs.declared.allowance.Allowance.TheVariants.{Fixed, OfWindow}
use Rattle.circuit_verdict.specs.declared.late.Late.{Late}
use Rattle.circuit_verdict.specs.declared.late.LateWhy.{LateWhy}
use Rattle.circuit_verdict.specs.declared.late.LateWhy.TheVariants.{Overtaken, Returned}
use Rattle.circuit_verdict.specs.declared.circuit_told.CircuitTold.{CircuitTold}
use Rattle.circuit_verdict.specs.declared.circuit_told.CircuitTold.TheVariants.{Made, Sent, Heeded, Notice, Gone, Restarted, Lost}
use Rattle.circuit_verdict.specs.declared.event.Event as code

-- What is told here, as it stands in a run of sets.

abbrev pub told_in_run : CircuitTold → sets.CircuitTold
told_in_run (Made id pair partner request) = sets.Made id pair partner (option_copied request)
told_in_run (Sent id number datagram) = sets.Sent id number datagram.now
told_in_run (Heeded id datagram) = sets.Heeded id datagram.now
told_in_run (Notice id notice) = sets.Notice id notice
told_in_run (Gone id facts) = sets.Gone id facts
told_in_run (Restarted pair) = sets.Restarted pair
told_in_run (Lost id facts) = sets.Lost id facts

abbrev pub event_of : code.Event → events.Event
event_of e = record { node = e.node; own = e.own; told = told_in_run e.told }

abbrev pub events_of : List Numbered → List events.Event
events_of [] = []
events_of (n ∷ ns) = event_of n.event ∷ events_of ns

-- how many overtakers are too many
abbrev pub allows_of : Allowance → Allowing
allows_of Fixed = allows_fixed
allows_of OfWindow = AllowsByWindow

-- none of these events comes too late
abbrev pub AreInTime : Allowance → List Event → Type 0
AreInTime a es = IsTimely (allows_of a) es × IsFresh es

-- one of them comes too late, for this reason
abbrev pub Fails : Allowance → List Event → LateWhy → Type 0
Fails a es Overtaken = IsTimely (allows_of a) es → ⊥
Fails a es Returned = IsFresh es → ⊥

-- all before this event was timely and fresh, and with it that isn't so
pub record IsFirstLate (a : Allowance) (ns : List Numbered) (late : Late) : Type 0 where
  pub before : List Numbered
  pub at : Numbered
  pub after : List Numbered
  pub parts : ns ≡ before ++ at ∷ after
  pub line : late.line ≡ at.line
  pub in_time : AreInTime a (events_of before)
  pub fails : Fails a (events_of before ++ event_of at.event ∷ []) late.why

pub record IsVerdict (a : Allowance) (ns : List Numbered) (answer : Option Late) : Type 0 where
  pub none : answer ≡ None ↔ AreInTime a (events_of ns)
  pub first : (late : Late) → answer ≡ Some late → IsFirstLate a ns late

abbrev pub late_of : ℕ → Option LateWhy → Option Late
late_of line None = None
late_of line (Some why) = Some (record { line = line; why = why })
