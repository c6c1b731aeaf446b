-- A replay while it runs. No public clause cites it: not for the reader of a contract.
use Rattle.std.specs.Prelude.{ℕ, zero, suc, ◌≡◌, min, List, [], ◌∷◌, ◌++◌, length, map, Option, Some, None, Result, Ok, Err, Bool, true, false, if◌then◌else◌, slice_get}
use Rattle.circuit_table.specs.CircuitSets.{facts_at}
use Rattle.circuit_table.specs.Sets.{end_of}
use Rattle.radio_base.specs.declared.modulus.LinkModulus.{LinkModulus}
use Rattle.node_core.specs.Standing.{Kept, NodeStands, entries_left, frames_left}
use Rattle.node_model.specs.States.{NodeState, fetch_entry, fetch_frame, frames}
use Rattle.node_model.specs.States as states
use Rattle.link_table.specs.declared.written.Written.{Written}
use Rattle.network_file.specs.declared.plan.channels.Channel.{Channel}
use Rattle.net_model.specs.declared.air.Aired.{Aired}
use Rattle.net_model.specs.declared.members.Member.{Member}
use Rattle.net_world.specs.declared.world.World as code
use Rattle.net_model.specs.declared.refusals.ReplayRefusal.{ReplayRefusal}
use Rattle.net_model.specs.Events.{Event, Entry}
use Rattle.net_model.specs.Lines.{loss_of, losses_of}
use Rattle.net_model.specs.Starting.{Placed}
use Rattle.net_model.specs.Traces.{IsRefusal}
use Rattle.net_model.specs.Standing.{IsTraceOf, Left}
use Rattle.net_model.specs.World.{World, air_events, aired_as, at_node, puts, tell, tells_entries, with_state}

-- what is there while a replay runs: its time is at most 2^64 - 1 milliseconds
pub record Course : Type 0 where
  pub left : Left
  pub channels : List Channel
  pub now : ℕ

abbrev pub course : code.World → Course
course w = record {
  left = record {
    members = w.members.items;
    air = w.air;
    ends = w.ends;
    events = w.events.items;
    allowance = w.allowance;
  };
  channels = w.channels.now;
  now = w.time.0;
}

pub record Stands (c : Course) (w : World) : Type 0 where
  pub trace : IsTraceOf c.left w
  pub channels : c.channels ≡ w.channels
  pub now : c.now ≡ min w.now 18446744073709551615

-- Whatever world it stood for, it stands for the next one now.
abbrev pub GoesOn : Course → Course → (World → World) → Type 0
GoesOn old new next = (w : World) → Stands old w → Stands new (next w)

abbrev pub Stops : Course → ReplayRefusal → (World → World) → Type 0
Stops old refusal next = (w : World) → Stands old w → IsRefusal refusal (length (next w).air)

-- It was done, or it stopped.
abbrev pub Runs : Course → Course → (World → World) → Result (Unit {0}) ReplayRefusal → Type 0
Runs old new next (Ok _) = GoesOn old new next
Runs old new next (Err refusal) = Stops old refusal next

-- the node that is lent is the one at a place
abbrev pub NodeLent : Option Kept → Option Placed → Type 0
NodeLent None None = Unit {0}
NodeLent (Some n) (Some p) = NodeStands n p.state
NodeLent _ _ = ⊥

-- ---- steps within a move

-- the node at a place does a step
unfoldable pub change : ℕ → (NodeState → NodeState) → World → World
change at step w = at_node at (λ p. with_state at p (step p.state)) w

abbrev pub fetched_entry : NodeState → NodeState
fetched_entry n = record n { station = fetch_entry n.station }

abbrev pub fetched_frame : NodeState → NodeState
fetched_frame n = record n { station = fetch_frame n.station }

-- what waits first at the node at a place
abbrev pub first_entry : Option Placed → Option states.Entry
first_entry None = None
first_entry (Some p) = slice_get p.state.station.entries 0

abbrev pub first_frame : Option Placed → Option Written
first_frame None = None
first_frame (Some p) = slice_get (frames p.state.station) 0

-- how much is left to be fetched
abbrev pub entries_at : ℕ → List Member → ℕ
entries_at at [] = 0
entries_at zero (m ∷ members) = entries_left m.node
entries_at (suc at) (m ∷ members) = entries_at at members

abbrev pub frames_at : ℕ → List Member → ℕ
frames_at at [] = 0
frames_at zero (m ∷ members) = frames_left m.node
frames_at (suc at) (m ∷ members) = frames_at at members

-- an entry of the node at a place
abbrev pub entry_events : states.Entry → Option Placed → List Event
entry_events entry None = []
entry_events entry (Some p) = Entry p.declared.node entry ∷ []

-- this event, if it is one, tells the first entry of the node at a place
abbrev pub IsFirst : Option Event → Option Placed → Type 0
IsFirst None o = Unit {0}
IsFirst (Some event) None = ⊥
IsFirst (Some event) (Some p) = (entry : states.Entry) × (Some entry ≡ first_entry (Some p)) × (event ≡ Entry p.declared.node entry)

-- all entries of the node at a place are told
unfoldable pub all_entries : ℕ → ℕ → World → World
all_entries line at w = at_node at (λ p. tells_entries line at p p.state) w

-- frames come in the air
abbrev pub airs : ℕ → List Aired → World → World
airs line new w = tell line (air_events (length w.air) (length new)) (record w { air = w.air ++ new })

abbrev pub aired_one : Bool → ℕ → LinkModulus → Written → List Aired
aired_one on_air node came f = if on_air then aired_as node came f ∷ [] else []

-- all frames of the node at a place, which has this number and is on a channel or not
unfoldable pub put_by : ℕ → ℕ → ℕ → Bool → LinkModulus → World → World
put_by line at node on_air came w =
    at_node at (λ p. puts line at p (if on_air then map (aired_as node came) (frames p.state.station) else [])) w

-- ---- a text of a burst: the burst has come to its end, or what is left of it is left

abbrev pub BurstGoes : Course → Course → (World → World) → (World → World) → Bool → Type 0
BurstGoes old new whole later true = GoesOn old new whole
BurstGoes old new whole later false = (w : World) → Stands old w → (v : World) × Stands new v × (whole w ≡ later v)

-- ---- a restart

abbrev pub loss_at : ℕ → ℕ → Option Placed → List Event
loss_at node id None = []
loss_at node id (Some p) = loss_of node id (facts_at (end_of id p.state.station.set.set.ends))

abbrev pub losses_at : ℕ → ℕ → Option Placed → List Event
losses_at node count None = []
losses_at node count (Some p) = losses_of node count p.state.station.set.set.ends
