-- How a node's code goes on with the states that it stands for: words for the clauses of its own functions, which no public clause cites.
use Rattle.std.specs.Prelude.{ℕ, ◌≡◌, Bool, slice_get, Result}
use Rattle.circuit_table.specs.CircuitSets.{Circuits, SetStands}
pub use Rattle.kiss_framing.specs.Feeding.{item_of}
use Rattle.link_table.specs.Standing.{TableView as Kept}
use Rattle.node_core.specs.declared.acts.ActDone.{ActDone}
use Rattle.node_core.specs.declared.acts.ActRefusal.{ActRefusal}
use Rattle.node_core.specs.declared.station.Station.{Station}
use Rattle.node_core.specs.Acts.{Answered}
use Rattle.node_model.specs.Sessions.{Session}
use Rattle.node_core.specs.Standing.{Holds, IsAnswer, IsTold}
use Rattle.node_model.specs.States.{State}
use Rattle.node_model.specs.Turns.{Turn}
use Rattle.node_model.specs.Users.{change_if}

-- Whatever state it stood for, it stands for the one after the step now.
abbrev pub StationGoes : (State → State) → Station → Station → Type 0
StationGoes step old new = (n : State) → Holds old n → Holds new (step n)

-- whether a step does something, by whatever state it stands for
abbrev pub Did : (State → Bool) → Station → Bool → Type 0
Did test s did = (n : State) → Holds s n → did ≡ test n

-- it stands for some state
abbrev pub StandsForSome : Station → Type 0
StandsForSome s = (n : State) × Holds s n

-- it stands for a state of which nothing is untold
abbrev pub HoldsTold : Station → State → Type 0
HoldsTold s n = Holds s n × IsTold n

-- the same of its circuits alone
abbrev pub SetHoldsTold : Circuits Kept → State → Type 0
SetHoldsTold c n = SetStands c n.set × IsTold n

abbrev pub StandsTold : Station → Type 0
StandsTold s = (n : State) × HoldsTold s n

abbrev pub GoesWhereTold : (State → State) → Station → Station → Type 0
GoesWhereTold step old new = (n : State) → Holds old n → IsTold n → Holds new (step n)

-- from each such state it goes over to the one after the step, which is such a one, too
abbrev pub Steps : (State → State) → Station → Station → Type 0
Steps step old new = (n : State) → HoldsTold old n → HoldsTold new (step n)

-- the same of a turn, and whether it did something
pub record HasTurned (t : Turn State) (new : Station) (did : Bool) : Type 0 where
  pub did_is : did ≡ t.did
  pub stands : HoldsTold new t.after

abbrev pub Turns : (State → Turn State) → Station → Station → Bool → Type 0
Turns turn old new did = (n : State) → HoldsTold old n → HasTurned (turn n) new did

-- the session in a place is changed, if there is one
pub record Changes (nth : ℕ) (change : Session → Session) (old new : Station) : Type 0 where
  pub sessions : new.sessions.items ≡ change_if (slice_get old.sessions.items nth) nth change old.sessions.items
  pub same : new ≡ record old { sessions = new.sessions }

-- it is changed by each step that says what a change does
abbrev pub ChangesBy : ℕ → (Session → Session → Type 0) → Station → Station → Type 0
ChangesBy nth does old new = (step : Session → Session) → ((x y : Session) → does x y → y ≡ step x) → Changes nth step old new

-- Whatever state it stood for: what an act comes to.
pub record Answers (new : Station) (result : Result ActDone ActRefusal) (a : Answered) : Type 0 where
  pub answer : result ≡ a.answer
  pub stands : Holds new a.node

abbrev pub Acts : (State → Answered) → Station → Station → Result ActDone ActRefusal → Type 0
Acts act old new result = IsAnswer result → (n : State) → Holds old n → IsTold n → Answers new result (act n)
