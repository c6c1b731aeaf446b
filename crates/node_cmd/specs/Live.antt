-- What a live node makes of the reads of a stream. Own profile.
use Rattle.std.specs.Prelude.{ℕ, ◌≡◌, List, [], ◌∷◌, ◌++◌}
use Rattle.std.specs.List.{flat_map}
use Rattle.kiss_framing.specs.Stream.{framed}
use Rattle.link_table.specs.declared.written.Written.{Written}
use Rattle.network_file.specs.declared.plan.live.LiveNode.{LiveNode}
use Rattle.node_cmd.specs.Starting.{live_started}
use Rattle.node_core.specs.Bounds.{IsWithin}
use Rattle.node_core.specs.Fetching.{without_entries, without_frames}
use Rattle.node_core.specs.Inputs.{after_bytes, after_tick}
use Rattle.node_core.specs.Standing.{Kept, NodeStands}
use Rattle.node_model.specs.States.{NodeState, frames}
use Rattle.node_cmd.specs.declared.ran.Ran.{Ran}
use Rattle.node_cmd.specs.declared.ran.Ran.TheVariants.{Served}
use Rattle.cmd_streams.specs.Streams.{Read}

-- a read brings its bytes and then a tick, both at the moment behind it
abbrev pub after_read : Read → NodeState → NodeState
after_read read n = after_tick read.now (after_bytes read.now read.bytes n)

-- frames as KISS bytes: data on port 0
abbrev pub kiss_of_frame : Written → List ℕ
kiss_of_frame f = framed 0 0 f.octets.items

abbrev pub kiss_of : List Written → List ℕ
kiss_of fs = flat_map kiss_of_frame fs

-- the text gains all frames that the node has to send
abbrev pub AddsFrames : Kept → List ℕ → List ℕ → Type 0
AddsFrames node old new = (n : NodeState) → NodeStands node n → new ≡ old ++ kiss_of (frames n.station)

-- all that it has to send and to tell was fetched
abbrev pub fetched : NodeState → NodeState
fetched n = record n { station = without_entries (without_frames n.station) }

-- the node after these reads, behind each of which all was fetched
abbrev pub after_reads : List Read → NodeState → NodeState
after_reads [] n = n
after_reads (read ∷ later) n = after_reads later (fetched (after_read read n))

-- what it sends at a read, and at these reads
abbrev pub answer_to : Read → NodeState → List ℕ
answer_to read n = kiss_of (frames (after_read read n).station)

abbrev pub answer_to_reads : List Read → NodeState → List ℕ
answer_to_reads [] n = []
answer_to_reads (read ∷ later) n = answer_to read n ++ answer_to_reads later (fetched (after_read read n))

-- the program's node at a read: behind its bytes, behind its tick, and once all was fetched
pub record NodeAtRead : Type 0 where
  pub fed : Kept
  pub ticked : Kept
  pub fetched : Kept

-- a node stands for that machine, and keeps no more than its bound
abbrev pub IsKept : Kept → NodeState → Type 0
IsKept node n = NodeStands node n × IsWithin node

-- So it is of the program's node before these reads, and then of those that it becomes at each of them, up to the last.
abbrev pub StaysWithin : Kept → List NodeAtRead → Kept → List Read → NodeState → Type 0
StaysWithin node [] last [] n = (last ≡ node) × IsKept node n
StaysWithin node (next ∷ nodes) last (read ∷ later) n =
    IsKept node n × IsKept next.fed (after_bytes read.now read.bytes n) × IsKept next.ticked (after_read read n)
    × StaysWithin next.fetched nodes last later (fetched (after_read read n))
StaysWithin node nodes last reads n = ⊥

-- the program's node has taken these reads from that machine on, answered them with that text, and become the last so
pub record HasLived (first last : Kept) (reads : List Read) (text : List ℕ) (n : NodeState) : Type 0 where
  pub stands : NodeStands last (after_reads reads n)
  pub within : IsWithin last
  pub answer : text ≡ answer_to_reads reads n
  pub nodes : List NodeAtRead
  pub stays : StaysWithin first nodes last reads n

-- the first node became the last so, from whatever machine it stood for
abbrev pub LivesThrough : Kept → Kept → List Read → List ℕ → Type 0
LivesThrough first last reads text = (n : NodeState) → NodeStands first n → IsWithin first → HasLived first last reads text n

-- a text is what the declared node sends at these reads, and at each moment of them the program's node keeps no more than its bound
pub record IsAnswerOf (declared : LiveNode) (reads : List Read) (text : List ℕ) : Type 0 where
  pub answer : text ≡ answer_to_reads reads (live_started declared)
  pub first : Kept
  pub nodes : List NodeAtRead
  pub last : Kept
  pub stays : StaysWithin first nodes last reads (live_started declared)

-- that node is left: it stands for the machine then, and keeps no more than its bound
abbrev pub LeavesNode : Ran → Kept → NodeState → Type 0
LeavesNode (Served node) last n = (node ≡ last) × IsKept node n
LeavesNode _ last n = ⊥

-- so a text is the answer, and the last of the nodes is left
abbrev pub ServesReads : LiveNode → Ran → List Read → List ℕ → Type 0
ServesReads declared ran reads text =
    (a : IsAnswerOf declared reads text) × LeavesNode ran a.last (after_reads reads (live_started declared))
