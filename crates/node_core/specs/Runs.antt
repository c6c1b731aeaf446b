-- The inputs of a node as inputs of its circuits: so what `circuit_set` promises of every run of sets holds of nodes. Own profile.
use Rattle.std.specs.Prelude.{ℕ, ◌≡◌, ◌+◌, false, List, [], ◌∷◌, ◌++◌, slice_get, slice_set, Some, Result, Ok}
use Rattle.std.specs.List.{AllByRecursion}
use Rattle.ax_address.specs.Callsign.{IsCallsign}
use Rattle.link_table.specs.Reaching.{IsWay}
use Rattle.circuit_table.specs.Givings.{IsUp}
use Rattle.circuit_table.specs.Pumps.{of_circuits, runs, at_rest}
use Rattle.circuit_table.specs.Runs.{IsAct, Step, events_at, events_of, sets_run}
use Rattle.circuit_table.specs.Sets.{Act, Calls, Writes, SetState, CircuitTold, Made}
use Rattle.node_core.specs.declared.acts.ActDone.{ActDone}
use Rattle.node_core.specs.declared.acts.ActRefusal.{ActRefusal}
use Rattle.node_core.specs.Inputs.{act_answer, after_act, after_bytes, after_tick, moment}
use Rattle.node_core.specs.Standing.{IsTold}
use Rattle.node_model.specs.States.{Entry, NodeState, Of_link, Of_set, Overflow, State}
use Rattle.node_core.specs.Acts.{UserAct, Connect, ConnectFor, OpenLink, Write}

-- what is told of circuits in these entries, in order
abbrev pub circuits_told : List Entry → List CircuitTold
circuits_told [] = []
circuits_told (Of_set told ∷ entries) = of_circuits (Some told) ++ circuits_told entries
circuits_told (Of_link peer notice ∷ entries) = circuits_told entries
circuits_told (Overflow live would_be ∷ entries) = circuits_told entries

-- ends are made with one number after another from this one on, and the next one will have that
abbrev pub MadeFrom : ℕ → List CircuitTold → ℕ → Type 0
MadeFrom first [] next = next ≡ first
MadeFrom first (Made id pair partner request ∷ ts) next = (id ≡ first) × MadeFrom (first + 1) ts next
MadeFrom first (t ∷ ts) next = MadeFrom first ts next

-- A node has come from one state to another: its circuits took some inputs, each of them one that a run of sets may have, and none that
-- starts the node again, and the entries that are new tell what these inputs told, in their order. It is at rest again.
pub record RunsOn (old new : State) : Type 0 where
  pub inputs : List Act
  pub more : List Entry
  pub allowed : AllByRecursion IsAct inputs
  pub up : AllByRecursion IsUp inputs
  pub entries : new.entries ≡ old.entries ++ more
  pub set : new.set ≡ at_rest (runs inputs old.set.set).set
  pub told : circuits_told more ≡ (runs inputs old.set.set).told
  pub made : MadeFrom old.set.set.number (circuits_told more) new.set.set.number
  pub own : new.set.set.own ≡ old.set.set.own
  pub settings : new.settings ≡ old.settings

-- the writes among inputs of circuits, in order
abbrev pub write_in : Act → List Act
write_in (Calls id (Writes message) now) = Calls id (Writes message) now ∷ []
write_in _ = []

abbrev pub writes_in : List Act → List Act
writes_in [] = []
writes_in (act ∷ acts) = write_in act ++ writes_in acts

-- what a user's act writes, by its answer
abbrev pub user_writes : ℕ → UserAct → Result ActDone ActRefusal → List Act
user_writes now (Write id message) (Ok _) = Calls id (Writes message) now ∷ []
user_writes now act answer = []

-- So it went on, and where no user is served, its inputs write what its own user has written and nothing else.
pub record RunsBy (written : List Act) (old new : State) : Type 0 where
  pub run : RunsOn old new
  pub writes : old.settings.prompt ≡ false → writes_in run.inputs ≡ written

-- a circuit is asked for with a callsign, and for one; and a link, over callsigns
abbrev pub IsUserAct : UserAct → Type 0
IsUserAct (Connect dest) = IsCallsign dest.letters dest.ssid
IsUserAct (ConnectFor user dest) = IsCallsign user.letters user.ssid × IsCallsign dest.letters dest.ssid
IsUserAct (OpenLink to path) = IsCallsign to.letters to.ssid × IsWay path
IsUserAct _ = Unit {0}

-- so does each input of a node that is at rest
abbrev pub BytesRun : Type 0
BytesRun = (now : ℕ) (bytes : List ℕ) (n : NodeState) → IsTold n.station → RunsBy [] n.station (after_bytes now bytes n).station

abbrev pub TicksRun : Type 0
TicksRun = (now : ℕ) (n : NodeState) → IsTold n.station → RunsBy [] n.station (after_tick now n).station

abbrev pub ActsRun : Type 0
ActsRun =
    (now : ℕ) (act : UserAct) (n : NodeState) → IsUserAct act → IsTold n.station
    → RunsBy (user_writes (moment now) act (act_answer now act n)) n.station (after_act now act n).station

-- ---- among several nodes
-- inputs of the set at a node, as steps of a run of sets
abbrev pub steps_at : ℕ → List Act → List Step
steps_at node [] = []
steps_at node (act ∷ acts) = record { node = node; act = act } ∷ steps_at node acts

-- they tell what they told of the set alone, and of the sets that one alone is changed
pub record StepsOf (sets : List SetState) (node : ℕ) (s : SetState) (inputs : List Act) : Type 0 where
  pub events : events_of sets (steps_at node inputs) ≡ events_at node s.own (runs inputs s).told
  pub sets_then : sets_run sets (steps_at node inputs) ≡ slice_set sets node (runs inputs s).set

abbrev pub InputsAreSteps : Type 0
InputsAreSteps = (sets : List SetState) (node : ℕ) (s : SetState) (inputs : List Act) → slice_get sets node ≡ Some s → StepsOf sets node s inputs
