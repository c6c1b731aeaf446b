-- What a verdict stands for: the events that it has taken in.
use Rattle.std.specs.Prelude.{◌≡◌, List, [], Option, Some, None, true}
use Rattle.circuit_set.specs.Books.{Fresh, Timely, empty, with_events, lost_in}
use Rattle.circuit_verdict.specs.declared.event.Numbered.{Numbered}
use Rattle.circuit_verdict.specs.declared.allowance.Allowance.{Allowance}
use Rattle.circuit_verdict.specs.declared.late.Late.{Late}
use Rattle.circuit_verdict.specs.declared.verdict.Verdict.{Verdict}
use Rattle.circuit_verdict.specs.declared.book.Book.{Book}
use Rattle.circuit_verdict.specs.Verdicts.{events_of}
use Rattle.circuit_verdict.specs.Judging.{BookStands}
use Rattle.circuit_verdict.specs.ByBook.{FirstLateByBook, allowance_of}

-- none of these was late, and all are noted
pub record InTime (a : Allowance) (k : Book) (ns : List Numbered) : Type 0 where
  pub timely : Timely (allowance_of a) empty (events_of ns)
  pub fresh : Fresh empty (events_of ns)
  pub book : BookStands k (with_events empty (events_of ns)) (lost_in [] (events_of ns))

abbrev pub Follows : Allowance → Option Late → Book → List Numbered → Type 0
Follows a None k ns = InTime a k ns
Follows a (Some late) k ns = FirstLateByBook a ns late

-- these events were told, in this order, since it was new
abbrev pub StandsFor : Verdict → List Numbered → Type 0
StandsFor v ns = Follows v.allowance v.late v.book ns

-- its memory ran out
abbrev pub IsSpent : Verdict → Type 0
IsSpent v = v.spent ≡ true

-- how many overtakers are too many for it
abbrev pub allowance_in : Verdict → Allowance
allowance_in v = v.allowance
