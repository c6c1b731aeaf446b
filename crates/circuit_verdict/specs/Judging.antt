-- What is kept stands for a book and the ends that were lost, and how an event is judged by it.
use Rattle.std.specs.Prelude.{◌≡◌, List, Option, Some, None}
use Rattle.circuit_set.specs.Books as books
use Rattle.circuit_table.specs.Events.{Event, Name}
use Rattle.circuit_set.specs.Books.{FreshTold, TimelyTold, lost_with, with_event}
use Rattle.circuit_verdict.specs.declared.book.Book.{Book}
use Rattle.circuit_verdict.specs.declared.allowance.Allowance.{Allowance}
use Rattle.circuit_verdict.specs.declared.late.LateWhy.{LateWhy}
use Rattle.circuit_verdict.specs.declared.late.LateWhy.TheVariants.{Overtaken, Returned}
use Rattle.circuit_verdict.specs.Ends.{EndsStand}
use Rattle.circuit_verdict.specs.Sendings.{SendingsStand}
use Rattle.circuit_verdict.specs.ByBook.{FailsAt, allowance_of}

pub record PartsStand (k : Book) (b : books.Book) (lost : List Name) : Type 0 where
  pub ends : EndsStand k.ends b.made lost
  pub sendings : SendingsStand k.sendings b.places b.sent b.heard

pub record BookStands (k : Book) (b : books.Book) (lost : List Name) : Type 0 where
  pub places : k.places ≡ b.places
  pub parts : PartsStand k b lost

-- an event that isn't late is noted
pub record Noted (a : Allowance) (b : books.Book) (lost : List Name) (e : Event) (new : Book) : Type 0 where
  pub timely : TimelyTold (allowance_of a) b e.node e.told
  pub fresh : FreshTold b lost e.node e.told
  pub parts : PartsStand new (with_event b e) (lost_with lost e.node e.told)

abbrev pub Judges : Allowance → books.Book → List Name → Event → Option LateWhy → Book → Type 0
Judges a b lost e None new = Noted a b lost e new
Judges a b lost e (Some why) new = FailsAt a b lost e why

-- the same where an end was made, and where one has heeded a datagram
abbrev pub JudgesMade : books.Book → List Name → Event → Option LateWhy → Book → Type 0
JudgesMade b lost e None new = FreshTold b lost e.node e.told × PartsStand new (with_event b e) lost
JudgesMade b lost e (Some Returned) new = FreshTold b lost e.node e.told → ⊥
JudgesMade b lost e (Some Overtaken) new = ⊥

abbrev pub JudgesHeeded : Allowance → books.Book → List Name → Event → Option LateWhy → Book → Type 0
JudgesHeeded a b lost e None new = TimelyTold (allowance_of a) b e.node e.told × PartsStand new (with_event b e) lost
JudgesHeeded a b lost e (Some Overtaken) new = TimelyTold (allowance_of a) b e.node e.told → ⊥
JudgesHeeded a b lost e (Some Returned) new = ⊥
