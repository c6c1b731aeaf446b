-- The verdict on a list of events by the notes that are kept of them, as `circuit_set` says. Of the public calls `Verdict::cause` alone
-- speaks by them.
use Rattle.std.specs.Prelude.{◌≡◌, ℕ, List, [], ◌∷◌, ◌++◌}
use Rattle.circuit_set.specs.Books.{Book, Timely, TimelyTold, Fresh, FreshTold, empty, lost_in, with_events}
use Rattle.circuit_table.specs.Events.{Event, Name}
use Rattle.circuit_set.specs.NotedRuns.{allowance_at}
use Rattle.circuit_verdict.specs.declared.event.Numbered.{Numbered}
use Rattle.circuit_verdict.specs.declared.allowance.Allowance.{Allowance}
use Rattle.circuit_verdict.specs.declared.allowance.Allowance.TheVariants.{Fixed, OfWindow}
use Rattle.circuit_verdict.specs.declared.late.Late.{Late}
use Rattle.circuit_verdict.specs.declared.late.LateWhy.{LateWhy}
use Rattle.circuit_verdict.specs.declared.late.LateWhy.TheVariants.{Overtaken, Returned}
use Rattle.circuit_verdict.specs.Verdicts.{event_of, events_of}

-- how many overtakers are too many
abbrev pub allowance_of : Allowance → Book → Name → ℕ
allowance_of Fixed b x = 128
allowance_of OfWindow b x = allowance_at b x

-- none of these events comes too late
abbrev pub InTimeByBook : Allowance → List Event → Type 0
InTimeByBook a es = Timely (allowance_of a) empty es × Fresh empty es

-- an event, judged by what was noted before it, is late for this reason
abbrev pub FailsAt : Allowance → Book → List Name → Event → LateWhy → Type 0
FailsAt a b lost e Overtaken = TimelyTold (allowance_of a) b e.node e.told → ⊥
FailsAt a b lost e Returned = FreshTold b lost e.node e.told → ⊥

-- all before this event was timely and fresh, and it isn't
pub record FirstLateByBook (a : Allowance) (ns : List Numbered) (late : Late) : Type 0 where
  pub before : List Numbered
  pub at : Numbered
  pub after : List Numbered
  pub parts : ns ≡ before ++ at ∷ after
  pub line : late.line ≡ at.line
  pub timely : Timely (allowance_of a) empty (events_of before)
  pub fresh : Fresh empty (events_of before)
  pub fails : FailsAt a (with_events empty (events_of before)) (lost_in [] (events_of before)) (event_of at.event) late.why
