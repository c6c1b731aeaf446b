-- What the ends of a run have written. Own profile.
use Rattle.std.specs.Prelude.{◌≡◌, ℕ, ◌++◌, nat_eq, if◌then◌else◌, List, [], Option, Some, None}
use Rattle.circuit_l4.specs.Laws.{written_by}
use Rattle.circuit_table.specs.Events.{Name}
use Rattle.circuit_set.specs.NotedRuns.{Net, begins, end_at, net_run, net_step}
use Rattle.circuit_table.specs.Runs.{AreStarts, Step}
use Rattle.circuit_table.specs.Sets.{Act, Call, Calls, Holder, SetState, input_of}

-- the messages that an end has ever written; none, where there is no end
abbrev pub wrote_of : Option Holder → List (List ℕ)
wrote_of None = []
wrote_of (Some h) = h.end.sending.wrote

-- what a call writes at an end: a message that is accepted, where the end is held
abbrev pub called_writes : Call → Option Holder → List (List ℕ)
called_writes call None = []
called_writes call (Some h) = if h.gone then [] else written_by h.end (input_of call)

-- what an input of a node's set writes at the end of this number
abbrev pub act_writes : Act → ℕ → Option Holder → List (List ℕ)
act_writes (Calls id call now) n end = if nat_eq id n then called_writes call end else []
act_writes _ n end = []

-- what a step of a run writes at the end of this name
abbrev pub step_writes : Net → Step → Name → List (List ℕ)
step_writes net st x = if nat_eq st.node x.node then act_writes st.act x.id (end_at net x) else []

-- At each step of every run, also where nodes start again: what an end has written grows by what is written there, and by nothing else.
abbrev pub EndsWroteByWrites : Type 0
EndsWroteByWrites =
    (sets : List SetState) → AreStarts sets → (steps : List Step) (st : Step) (x : Name)
    → let net = net_run (begins sets) steps in wrote_of (end_at (net_step net st) x) ≡ wrote_of (end_at net x) ++ step_writes net st x
