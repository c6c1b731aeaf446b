-- The nodes of the members, and the states for which they stand.
use Rattle.std.specs.Prelude.{ℕ, suc, is_some, length, Bool, false, List, []}
use Rattle.std.specs.Prelude.{◌∷◌, replicate, slice_get, Option, Some, None, Result, Err, if◌then◌else◌}
use Rattle.arrayvec.specs.ArrayVec.{ArrayVec}
use Rattle.ax_address.specs.declared.address.Address.{Address}
use Rattle.ax_address.specs.Callsign.{Callsign}
use Rattle.link_table.specs.Calls.{path_answer}
use Rattle.link_table.specs.Table.{link_with}
use Rattle.link_table.specs.declared.path_refusal.PathRefusal.{PathRefusal}
use Rattle.link_table.specs.declared.path_refusal.PathRefusal.TheVariants as paths
use Rattle.link_table.specs.declared.written.Written.{Written}
use Rattle.node_core.specs.declared.acts.ActDone.{ActDone}
use Rattle.node_core.specs.declared.acts.ActRefusal.{ActRefusal}
use Rattle.node_core.specs.declared.acts.ActRefusal.TheVariants.{NoEnd}
use Rattle.node_core.specs.declared.quality_refusal.QualityRefusal.{QualityRefusal}
use Rattle.node_core.specs.declared.quality_refusal.QualityRefusal.TheVariants as qualities
use Rattle.node_core.specs.Acts.{UserAct}
use Rattle.node_core.specs.Bridged.{Input, Fetches_frame, after_all}
use Rattle.node_core.specs.Inputs.{act_answer}
use Rattle.node_core.specs.Qualities.{quality_answer}
use Rattle.node_core.specs.Standing.{Kept, NodeStands}
use Rattle.node_model.specs.States.{Entry, NodeState, frames}
use Rattle.station_members.specs.Places.{at_place}

-- each node stands for the state at its place
abbrev pub AllStand : List Kept → List NodeState → Type 0
AllStand [] [] = Unit {0}
AllStand [] (n ∷ ns) = ⊥
AllStand (k ∷ ks) [] = ⊥
AllStand (k ∷ ks) (n ∷ ns) = NodeStands k n × AllStand ks ns

-- whatever states they stood for, the one at a place has made a step
abbrev pub NodesGo : ℕ → (NodeState → NodeState) → List Kept → List Kept → Type 0
NodesGo at step old new = (ns : List NodeState) → AllStand old ns → AllStand new (at_place at step ns)

-- they stand for the same states as before
abbrev pub NodesStay : List Kept → List Kept → Type 0
NodesStay old new = (ns : List NodeState) → AllStand old ns → AllStand new ns

-- what an act is answered: no end is held where no member stands
abbrev pub answer_of : ℕ → UserAct → Option NodeState → Result ActDone ActRefusal
answer_of now act None = Err NoEnd
answer_of now act (Some n) = act_answer now act n

abbrev pub frames_of : Option NodeState → List Written
frames_of None = []
frames_of (Some n) = frames n.station

-- all frames that wait are fetched, one after another, until none is left
abbrev pub fetches : List Written → List Input
fetches ws = Fetches_frame ∷ replicate (length ws) Fetches_frame

abbrev pub all_fetched : NodeState → NodeState
all_fetched n = after_all (fetches (frames n.station)) n

abbrev pub first_entry : Option NodeState → Option Entry
first_entry None = None
first_entry (Some n) = slice_get n.station.entries 0

abbrev pub behind : Option ℕ → Option ℕ
behind None = None
behind (Some at) = Some (suc at)

-- the place of the first that has something to tell
abbrev pub first_telling : List NodeState → Option ℕ
first_telling [] = None
first_telling (n ∷ ns) = if is_some (slice_get n.station.entries 0) then Some 0 else behind (first_telling ns)

-- a link with this peer stands
abbrev pub has_link : Callsign → Option NodeState → Bool
has_link peer None = false
has_link peer (Some n) = is_some (link_with peer n.station.links.links)

-- there is no room where no member stands
abbrev pub path_answer_of : Callsign → ArrayVec Address → Option NodeState → Result (Unit {0}) PathRefusal
path_answer_of peer path None = Err paths.Full
path_answer_of peer path (Some n) = path_answer peer path n.station.links

abbrev pub quality_answer_of : Callsign → Option NodeState → Result (Unit {0}) QualityRefusal
quality_answer_of neighbour None = Err qualities.Full
quality_answer_of neighbour (Some n) = quality_answer neighbour n.station
