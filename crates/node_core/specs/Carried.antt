-- Where the datagrams are from that a node carries: it has sent them, or frames in the air of its network have carried them. Own profile.
use Rattle.std.specs.Prelude.{ℕ, ◌≡◌, ◌+◌, ◌≤◌, ◌==◌, ◌&&◌, ◌||◌, ◌⊎◌, not, nat_eq, nat_le, Bool, true, false, List, [], ◌∷◌, ◌++◌, length, slice_index, Result, Ok, Err, if◌then◌else◌}
use Rattle.std.specs.Cmp.Lexicographic.{pointwise}
use Rattle.std.specs.List.{AllByRecursion}
use Rattle.radio_base.specs.declared.payload.Payload.{Payload}
use Rattle.ax_address.specs.Callsign.{Callsign, same_call}
use Rattle.ax_frame.specs.declared.frame.FrameRefusal.{FrameRefusal}
use Rattle.ax_frame.specs.Frames.{Frame, read_at}
use Rattle.ax_link.specs.Bounds.{Has}
use Rattle.circuit_table.specs.Events.{is_copy}
use Rattle.circuit_table.specs.Pumps.{runs}
use Rattle.circuit_table.specs.Sets.{Act, Comes, Sent, CircuitTold}
use Rattle.kiss_framing.specs.Stream as kiss
use Rattle.link_table.specs.Frames as frames
use Rattle.link_table.specs.Frames.{netrom, octets_of}
use Rattle.link_table.specs.Laws.{Carries, FrameHolds}
use Rattle.link_table.specs.Reaching.{IsCall, IsSpelled, IsWay, Reaches}
use Rattle.link_table.specs.declared.written.Written.{Written}
use Rattle.route_table.specs.Log as logs
use Rattle.route_table.specs.Log.{Item}
use Rattle.nodes_broadcast.specs.Nodes.{Broadcast}
use Rattle.arrayvec.specs.ArrayVec.{ArrayVec}
use Rattle.ax_address.specs.declared.address.Address.{Address}
use Rattle.link_table.specs.Calls.{with_path}
use Rattle.radio_base.specs.Modulus.{extended_if, modulus_size}
use Rattle.node_core.specs.declared.config.NodeConfig.{NodeConfig}
use Rattle.node_core.specs.Broadcasts.{broadcast_octets, has_netrom_pid, is_broadcast}
use Rattle.node_core.specs.Configs.{start_of}
use Rattle.node_model.specs.Links.{all_fetched}
use Rattle.node_core.specs.Inputs.{after_act, after_bytes, after_tick, new_items}
use Rattle.node_core.specs.Qualities.{with_quality}
use Rattle.node_core.specs.Runs.{IsUserAct, RunsOn}
use Rattle.node_core.specs.Standing.{IsTold}
use Rattle.node_model.specs.States as states
use Rattle.node_model.specs.States.{NodeState, State, at_links}
use Rattle.node_core.specs.Acts as acts
use Rattle.node_core.specs.Acts.{UserAct}

-- ---- what frames carry

-- a datagram that a frame in the air carries to the node of a call
pub record Borne : Type 0 where
  pub to : Callsign
  pub datagram : List ℕ

-- a frame with NET/ROM's PID that is no broadcast carries one
abbrev pub borne_by : Frame → List Borne
borne_by f = if is_broadcast f then [] else (if has_netrom_pid f.pid then record { to = f.head.dest.call; datagram = f.info } ∷ [] else [])

abbrev pub borne_of : Result Frame FrameRefusal → List Borne
borne_of (Ok f) = borne_by f
borne_of (Err why) = []

-- octets in the air of a network whose links are of this modulus
abbrev pub borne_in : ℕ → List ℕ → List Borne
borne_in size octets = borne_of (read_at size octets)

-- Where a node stands: the modulus of its network's links, its call, and what frames in the air have carried so far.
pub record Place : Type 0 where
  pub size : ℕ
  pub own : Callsign
  pub borne : List Borne

-- one of these carries this datagram to the node of that call
abbrev pub is_borne : List Borne → Callsign → List ℕ → Bool
is_borne [] to datagram = false
is_borne (b ∷ bs) to datagram = (same_call b.to to && pointwise nat_eq b.datagram datagram) || is_borne bs to datagram

-- ---- datagrams that a node may put in the air

-- the octet of the time to live
abbrev pub ttl_of : List ℕ → ℕ
ttl_of datagram = slice_index datagram 14

-- it is one of these, which have a head
abbrev pub is_sent : List (List ℕ) → List ℕ → Bool
is_sent [] datagram = false
is_sent (s ∷ sent) datagram = (pointwise nat_eq s datagram && nat_le 15 (length datagram)) || is_sent sent datagram

-- a hop: the same but for the time to live, of which the node that passes it on takes one
abbrev pub is_hop : List ℕ → List ℕ → Bool
is_hop came onward = is_copy onward came && nat_eq (ttl_of onward + 1) (ttl_of came)

-- one of these came to the node of this call, and it is that, one hop on
abbrev pub is_passed : List Borne → Callsign → List ℕ → Bool
is_passed [] own datagram = false
is_passed (b ∷ bs) own datagram = (same_call b.to own && is_hop b.datagram datagram) || is_passed bs own datagram

-- the datagrams that were sent, in what a set tells
abbrev pub sends_in : List CircuitTold → List (List ℕ)
sends_in [] = []
sends_in (Sent id number datagram ∷ ts) = datagram ∷ sends_in ts
sends_in (t ∷ ts) = sends_in ts

-- a datagram of the node: it has sent it, or it came and is passed on
abbrev pub is_of_node : Place → List (List ℕ) → List ℕ → Bool
is_of_node here sent datagram = is_sent sent datagram || is_passed here.borne here.own datagram

-- what it puts in the air for the node of a call: one of its own, or one in the air that it repeats
abbrev pub offers_traced : Place → List (List ℕ) → Callsign → Payload → Bool
offers_traced here sent to p = is_of_node here sent p.info.items || is_borne here.borne to p.info.items

-- what comes up with NET/ROM's PID was carried to it
abbrev pub brings_to : List Borne → Callsign → Callsign → Payload → Bool
brings_to borne own from p = not (p.pid == netrom) || is_borne borne own p.info.items

abbrev pub brings_traced : Place → Callsign → Payload → Bool
brings_traced here = brings_to here.borne here.own

-- each datagram that is handed up to its circuits was carried to it
abbrev pub WasBorne : Place → Act → Type 0
WasBorne here (Comes datagram now) = is_borne here.borne here.own datagram ≡ true
WasBorne here act = Unit {0}

-- ---- frames

-- Octets as a network of this modulus may have them in the air: they spell a frame that is a broadcast, or of which all that it carries as
-- NET/ROM's has this property.
pub record IsCarried (size : ℕ) (offers : Callsign → Payload → Bool) (octets : List ℕ) : Type 0 where
  pub frame : frames.Sent
  pub are : octets ≡ octets_of frame
  pub spelled : IsSpelled size frame
  pub fit : (is_broadcast frame.frame ≡ true) ⊎ FrameHolds offers offers (nat_eq size) frame

-- what it carries is among what the air has carried
abbrev pub is_aloft : List Borne → Callsign → Payload → Bool
is_aloft borne to p = is_borne borne to p.info.items

abbrev pub IsAloft : ℕ → List Borne → List ℕ → Type 0
IsAloft size borne octets = IsCarried size (is_aloft borne) octets

-- a frame that a node puts in the air
abbrev pub IsOfNode : Place → List (List ℕ) → List ℕ → Type 0
IsOfNode here sent octets = IsCarried here.size (offers_traced here sent) octets

abbrev pub ItemAloft : Place → kiss.Item → Type 0
ItemAloft here (kiss.Frame port command payload) = IsAloft here.size here.borne payload
ItemAloft here kiss.Too_long = Unit {0}

-- ---- a node

-- what bears on routes names calls as neighbours
abbrev pub NamesCall : Item → Type 0
NamesCall (logs.Report dest alias neighbour quality) = IsCall neighbour
NamesCall (logs.Lock dest alias neighbour quality) = IsCall neighbour
NamesCall logs.Round = Unit {0}
NamesCall (logs.Failure neighbour) = Unit {0}

-- A node of such a network: what its links hold and put out, and what it has put out before, carries such datagrams alone; and what its
-- circuits have to send is among what was sent.
pub record CarriesTraced (here : Place) (sent : List (List ℕ)) (n : State) : Type 0 where
  pub links : Carries (offers_traced here sent) (brings_traced here) (nat_eq here.size) n.links
  pub reaches : Reaches here.size n.links
  pub own : AllByRecursion (λ (f : Written). IsOfNode here sent f.octets.items) n.own
  pub untold : AllByRecursion (λ (d : List ℕ). 15 ≤ length d → is_sent sent d ≡ true) (sends_in n.set.untold)
  pub names : AllByRecursion NamesCall n.log
  pub call : (n.settings.call ≡ here.own) × IsCall here.own

-- A node has come from one state to another by inputs of its circuits: each datagram that was handed up to them was carried to it, and what
-- the node carries then is such again, with what these inputs have sent.
pub record CarriedOn (here : Place) (sent : List (List ℕ)) (old new : State) : Type 0 where
  pub run : RunsOn old new
  pub come : AllByRecursion (WasBorne here) run.inputs
  pub carries : CarriesTraced here (sent ++ sends_in (runs run.inputs old.set.set).told) new

-- so it is with each input of a node that is at rest, where what comes was in the air
abbrev pub BytesCarry : Type 0
BytesCarry =
    (here : Place) (sent : List (List ℕ)) (now : ℕ) (bytes : List ℕ) (n : NodeState) → IsTold n.station → CarriesTraced here sent n.station
    → AllByRecursion (ItemAloft here) (new_items n.stream bytes) → CarriedOn here sent n.station (after_bytes now bytes n).station

abbrev pub TicksCarry : Type 0
TicksCarry =
    (here : Place) (sent : List (List ℕ)) (now : ℕ) (n : NodeState) → IsTold n.station → CarriesTraced here sent n.station
    → CarriedOn here sent n.station (after_tick now n).station

-- a route is locked to a call
abbrev pub LocksCall : UserAct → Type 0
LocksCall (acts.Lock dest alias neighbour quality) = IsCall neighbour
LocksCall _ = Unit {0}

abbrev pub ActsCarry : Type 0
ActsCarry =
    (here : Place) (sent : List (List ℕ)) (now : ℕ) (act : UserAct) (n : NodeState) → IsUserAct act → LocksCall act → IsTold n.station → CarriesTraced here sent n.station
    → CarriedOn here sent n.station (after_act now act n).station

-- more was in the air
abbrev pub with_borne : List Borne → Place → Place
with_borne more here = record here { borne = here.borne ++ more }

-- what has the property, as NET/ROM's for the node to which a frame carries it
abbrev pub Offered : (Callsign → Payload → Bool) → Borne → Type 0
Offered offers b = Has (offers b.to) (record { pid = netrom; info = record { items = b.datagram } })

-- So it stays where more was sent and more was in the air, as frames are fetched and entries are told; what such a frame carries has its
-- property, and is in the air with it; a broadcast of a call carries nothing; and so a node starts.
pub record CarriedFurther : Type 0 where
  pub more : (here : Place) (sent more : List (List ℕ)) (borne : List Borne) (n : State) → CarriesTraced here sent n → CarriesTraced (with_borne borne here) (sent ++ more) n
  pub aloft : (size : ℕ) (borne more : List Borne) (octets : List ℕ) → IsAloft size borne octets → IsAloft size (borne ++ more) octets
  pub behind : (size : ℕ) (borne more : List Borne) (octets : List ℕ) → IsAloft size more octets → IsAloft size (borne ++ more) octets
  pub bears : (size : ℕ) (offers : Callsign → Payload → Bool) (octets : List ℕ) → (size ≡ 8) ⊎ (size ≡ 128) → IsCarried size offers octets
      → AllByRecursion (Offered offers) (borne_in size octets) × IsAloft size (borne_in size octets) octets
  pub frames : (here : Place) (sent : List (List ℕ)) (n : State) → CarriesTraced here sent n
      → AllByRecursion (λ (f : Written). IsOfNode here sent f.octets.items) (states.frames n)
  pub fetched : (here : Place) (sent : List (List ℕ)) (n : State) → CarriesTraced here sent n → CarriesTraced here sent (record n { own = []; links = all_fetched n.links })
  pub told : (here : Place) (sent : List (List ℕ)) (n : State) → CarriesTraced here sent n → CarriesTraced here sent (record n { entries = [] })
  pub broadcasts : (size : ℕ) (borne : List Borne) (own : Callsign) (b : Broadcast) → IsCall own → IsAloft size borne (broadcast_octets own b)
  pub starts : (here : Place) (sent : List (List ℕ)) (hosts : Bool) (c : NodeConfig) → c.call ≡ here.own → IsCall c.call
      → (here.size ≡ 8) ⊎ (here.size ≡ 128) → modulus_size (extended_if c.modulo128) ≡ here.size
      → CarriesTraced here sent (start_of hosts c)
  pub paths : (here : Place) (sent : List (List ℕ)) (peer : Callsign) (path : ArrayVec Address) (n : State) → IsWay path → CarriesTraced here sent n
      → CarriesTraced here sent (at_links (with_path peer path) n)
  pub qualities : (here : Place) (sent : List (List ℕ)) (neighbour : Callsign) (quality : ℕ) (n : State) → CarriesTraced here sent n
      → CarriesTraced here sent (with_quality neighbour quality n)
