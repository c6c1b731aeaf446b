-- What holds of the members of every station, whatever happens to them.
use Rattle.std.specs.Prelude.{ℕ, ◌≡◌, ◌≤◌, ◌==◌, ◌&&◌, not, nat_lt, length}
use Rattle.std.specs.Prelude.{Bool, false, List, [], ◌∷◌, ◌++◌, slice_get, Some, if◌then◌else◌}
use Rattle.std.specs.List.{AllByRecursion}
use Rattle.arrayvec.specs.ArrayVec.{ArrayVec}
use Rattle.radio_base.specs.declared.moment.Moment.{Moment}
use Rattle.ax_address.specs.declared.address.Address.{Address}
use Rattle.ax_address.specs.Callsign.{Callsign}
use Rattle.node_core.specs.Acts.{UserAct}
use Rattle.node_core.specs.Bridged as nodes
use Rattle.node_core.specs.Bridged.{Input}
use Rattle.node_core.specs.Configs.{hosting_node}
use Rattle.node_core.specs.declared.config.NodeConfig.{NodeConfig}
use Rattle.station_members.specs.declared.config.BeaconConfig.{BeaconConfig}
use Rattle.station_members.specs.declared.config.MemberConfig.{MemberConfig}
use Rattle.station_members.specs.declared.routing.Parcel.{Parcel}
use Rattle.station_members.specs.declared.routing.Parcel.TheVariants.{Nothing, For, ForFellows}
use Rattle.station_members.specs.declared.seat.Seat.{Seat}
use Rattle.station_members.specs.declared.ports.Port as ports
use Rattle.station_members.specs.States as states
use Rattle.station_members.specs.States.{Fellow, Given, Own, Port, Sent, Source, State, frame_in, new_state}

-- ---- every run

-- what whoever holds the members does
pub data Move : Type 0 where
  Adds : MemberConfig → Move
  Adds_beacon : BeaconConfig → Move
  Sets_path : (at : ℕ) (peer : Callsign) (path : ArrayVec Address) → Move
  Sets_quality : (at : ℕ) (neighbour : Callsign) (quality : ℕ) → Move
  Remembers : (at : ℕ) (call : Callsign) (port : ℕ) → Move
  Hears : (port : ℕ) (octets : List ℕ) (now : Moment) → Move
  Ticks : (now : Moment) → Move
  Rounds : (now : Moment) → Move
  Acts : (now : Moment) (at : ℕ) (act : UserAct) → Move
  Settles : (now : Moment) → Move
  Fetches_entry : Move
  Fetches_frame : Move

abbrev pub after : Move → State → State
after (Adds c) s = states.add c s
after (Adds_beacon c) s = states.add_beacon c s
after (Sets_path at peer path) s = states.set_path at peer path s
after (Sets_quality at neighbour quality) s = states.set_quality at neighbour quality s
after (Remembers at call port) s = states.remember at call port s
after (Hears port octets now) s = states.hear port octets now s
after (Ticks now) s = states.tick now s
after (Rounds now) s = states.round now s
after (Acts now at act) s = states.act now at act s
after (Settles now) s = states.send_all now s
after Fetches_entry s = states.fetch_told s
after Fetches_frame s = states.fetch_frame s

abbrev pub after_all : List Move → State → State
after_all [] s = s
after_all (m ∷ more) s = after_all more (after m s)

-- what any moves lead to, from the start of a station on
abbrev pub Always : (State → Type 0) → Type 0
Always P = (ports : ℕ) (deny : List Callsign) (moves : List Move) → P (after_all moves (new_state ports deny))

-- ---- each member is a node

-- all that the node of the member at a place was given, in order
abbrev pub inputs_of : ℕ → List Given → List Input
inputs_of at [] = []
inputs_of at (g ∷ gs) = if g.to == at then g.input ∷ inputs_of at gs else inputs_of at gs

-- the node of the member at a place is the one that was made there, after all that it was given
abbrev pub IsNode : State → ℕ → NodeConfig → Type 0
IsNode s at c = slice_get s.nodes at ≡ Some (nodes.after_all (inputs_of at s.given) (hosting_node c))

pub record AreNodes (s : State) : Type 0 where
  pub each : (at : ℕ) (c : NodeConfig) → slice_get s.made at ≡ Some c → IsNode s at c
  pub all : length s.made ≡ length s.nodes

abbrev pub MembersAreNodes : Type 0
MembersAreNodes = Always AreNodes

-- ---- the backplane loses nothing

abbrev pub is_from : ℕ → Source → Bool
is_from from (Port port) = false
is_from from (Fellow at) = at == from
is_from from Own = false

-- what a member was given from a fellow, in order
abbrev pub given_from : ℕ → ℕ → List Given → List Input
given_from from to [] = []
given_from from to (g ∷ gs) = if is_from from g.from && (g.to == to) then g.input ∷ given_from from to gs else given_from from to gs

-- what of a frame is for a member: a broadcast is for each fellow that stood then
abbrev pub parcel_for : ℕ → ℕ → ℕ → Moment → Parcel → List Input
parcel_for from to members now Nothing = []
parcel_for from to members now (For at octets) = if (at == to) && nat_lt at members then frame_in now octets ∷ [] else []
parcel_for from to members now (ForFellows octets) = if not (to == from) && nat_lt to members then frame_in now octets ∷ [] else []

abbrev pub sent_for : ℕ → ℕ → Sent → List Input
sent_for from to x = if x.from == from then parcel_for x.from to x.members x.now x.parcel else []

-- what a member has put out for another, in order
abbrev pub sent_to : ℕ → ℕ → List Sent → List Input
sent_to from to [] = []
sent_to from to (x ∷ xs) = sent_for from to x ++ sent_to from to xs

-- a member was given from each fellow what that has put out for it, each once, in order
abbrev pub LosesNothing : State → Type 0
LosesNothing s = (from to : ℕ) → given_from from to s.given ≡ sent_to from to s.sent

abbrev pub BackplaneLosesNothing : Type 0
BackplaneLosesNothing = Always LosesNothing

-- ---- what is kept is bounded

pub record SeatIsSmall (seat : Seat) : Type 0 where
  pub known : length seat.known ≤ 256
  pub peers : length seat.peers ≤ 64
  pub held : length seat.held ≤ 512

abbrev pub PortIsSmall : ports.Port → Type 0
PortIsSmall p = length p.heard ≤ 32

-- at most 8 members; of each at most 256 ports of calls, 64 that speak to it by its alias, and 512 frames that it holds back; and of each
-- port the last 32 calls that were heard there
pub record IsSmall (s : State) : Type 0 where
  pub members : length s.nodes ≤ 8
  pub seats : AllByRecursion SeatIsSmall s.desk.seats
  pub as_many : length s.desk.seats ≡ length s.nodes
  pub ports : AllByRecursion PortIsSmall s.desk.air.ports

abbrev pub MembersAreSmall : Type 0
MembersAreSmall = Always IsSmall
