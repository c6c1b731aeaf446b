-- What a node's code keeps, and for which states it stands.
use Rattle.std.specs.Prelude.{◌≡◌, ◌≤◌, map, Result, Ok, Err, ℕ, ◌+◌, Bool, false, length}
use Rattle.ax_link.specs.State.{count_end}
use Rattle.circuit_table.specs.CircuitSets as sets
use Rattle.circuit_table.specs.CircuitSets.{Circuits, SetStands}
use Rattle.circuit_table.specs.Pumps.{at_rest}
use Rattle.circuit_table.specs.Standing.{event_told}
use Rattle.link_table.specs.Standing.{TableView, TableStands, TableView as LinkTable}
use Rattle.route_table.specs.Held.{StandsFor}
use Rattle.node_model.specs.Sessions.{bare}
use Rattle.node_model.specs.States.{Entry, Of_link, Of_set, Overflow, State, NodeState}
use Rattle.kiss_framing.specs.Stream as kiss
use Rattle.node_core.specs.declared.acts.ActDone.{ActDone}
use Rattle.node_core.specs.declared.acts.ActRefusal.{ActRefusal}
use Rattle.node_core.specs.declared.acts.ActRefusal.TheVariants as refusal
use Rattle.node_core.specs.declared.entry.NodeEntry.{NodeEntry}
use Rattle.node_core.specs.declared.entry.NodeEntry.TheVariants as entry
use Rattle.node_core.specs.declared.station.Station.{Station}

abbrev pub entry_of : NodeEntry → Entry
entry_of (entry.Set event) = Of_set (event_told event)
entry_of (entry.Link peer notice) = Of_link peer notice
entry_of (entry.Overflow live would_be) = Overflow live would_be

-- the set that the node lends stands for its circuits, its router's carrier for its links, and its router's table for its log
pub record HoldsParts (c : Circuits TableView) (n : State) : Type 0 where
  pub links : TableStands c.router.carrier n.links
  pub log : StandsFor c.router.table n.log
  pub rules : c.router.table.rules ≡ n.settings.rules
  pub own : c.router.table.own ≡ n.settings.call
  pub call : c.router.own ≡ n.settings.call
  pub set : SetStands c n.set

pub record HoldsNames (s : Station) (n : State) : Type 0 where
  pub alias : s.alias ≡ n.settings.alias
  pub path_quality : s.path_quality ≡ n.settings.path_quality
  pub qualities : s.qualities.by_call.entries ≡ n.settings.qualities
  pub interval : s.interval ≡ n.settings.interval
  pub fits : n.settings.interval ≤ count_end

pub record HoldsQueues (s : Station) (n : State) : Type 0 where
  pub own : s.own.items ≡ n.own
  pub entries : map entry_of s.entries.items ≡ n.entries

-- the users are those of the state, but for what went over their bridges
pub record HoldsUsers (s : Station) (n : State) : Type 0 where
  pub prompt : s.prompt ≡ n.settings.prompt
  pub hosts : s.hosts ≡ n.settings.hosts
  pub sessions : s.sessions.items ≡ map bare n.sessions

-- a node above its KISS bytes stands for a state
pub record Holds (s : Station) (n : State) : Type 0 where
  pub parts : HoldsParts s.set n
  pub names : HoldsNames s n
  pub queues : HoldsQueues s n
  pub users : HoldsUsers s n
  pub next_round : s.next_round ≡ n.next_round

-- nothing is untold but what lies at the router
abbrev pub IsDrained : Station → Type 0
IsDrained s = sets.IsDrained s.set

-- nothing of its circuits is untold
abbrev pub IsTold : State → Type 0
IsTold n = n.set ≡ at_rest n.set.set

-- an act was done or refused, but not for want of memory
abbrev pub IsAnswer : Result ActDone ActRefusal → Type 0
IsAnswer (Ok _) = Unit {0}
IsAnswer (Err refusal.NoMemory) = ⊥
IsAnswer (Err _) = Unit {0}

-- What contracts see of a node.

pub record Kept : Type 0 where
  pub deframer : kiss.HeldPiece
  pub station : Station
  pub spent : Bool  -- memory ran out in an earlier call

abbrev pub view_of : kiss.HeldPiece → Station → Bool → Kept
view_of deframer station spent = record { deframer = deframer; station = station; spent = spent }

-- the circuits that it lends, and with them its router, table and links
abbrev pub circuits_of : Kept → Circuits LinkTable
circuits_of k = k.station.set

abbrev pub links_of : Kept → LinkTable
links_of k = k.station.set.router.carrier

-- A node that isn't spent stands for a state between two inputs: its deframer for all bytes that came, its set and queues for
-- those of the state, of which nothing is untold.
pub record NodeStands (k : Kept) (n : NodeState) : Type 0 where
  pub unspent : k.spent ≡ false
  pub stream : kiss.StandsFor k.deframer n.stream
  pub station : Holds k.station n.station
  pub told : IsTold n.station

-- how many frames wait to be fetched, and how many entries
abbrev pub station_frames : Station → ℕ
station_frames s = length s.own.items + length s.set.router.carrier.frames

abbrev pub frames_left : Kept → ℕ
frames_left k = station_frames k.station

abbrev pub entries_left : Kept → ℕ
entries_left k = length k.station.entries.items

abbrev pub NodeGoes : (NodeState → NodeState) → Kept → Kept → Type 0
NodeGoes step old new = (n : NodeState) → NodeStands old n → NodeStands new (step n)
