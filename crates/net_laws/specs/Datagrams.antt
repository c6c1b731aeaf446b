-- Where the datagrams are from that reach their nodes, in a network whose nodes all have one modulus. Own profile.
use Rattle.std.specs.Prelude.{ℕ, ◌≡◌, ◌≤◌, ◌+◌, ◌⊎◌, List, ◌∷◌, ◌++◌, Some, Ok, slice_get, Contains}
use Rattle.std.specs.List.{AllByRecursion}
use Rattle.circuit_table.specs.Givings.{IsUp}
use Rattle.circuit_set.specs.Heedings.{HeedsFor}
use Rattle.circuit_set.specs.Returning as returning
use Rattle.circuit_table.specs.Runs.{Step, events_of, sets_run}
use Rattle.circuit_set.specs.Sendings.{IsFrom}
use Rattle.circuit_table.specs.Sets.{Comes, Heeded, SetState, set_step}
use Rattle.l3_datagram.specs.Datagrams.{head_at}
use Rattle.l3_datagram.specs.declared.datagram.DatagramHead.{DatagramHead}
use Rattle.network_file.specs.declared.plan.instructions.NumberedInstruction.{NumberedInstruction}
use Rattle.network_file.specs.declared.plan.declarations.Declaration.{Declaration}
use Rattle.network_file.specs.declared.plan.instructions.Instruction.{Instruction}
use Rattle.network_file.specs.declared.plan.instructions.Instruction.TheVariants.{Restart}
use Rattle.network_file.specs.declared.plan.keys.Key.TheVariants.{Modulo}
use Rattle.network_file.specs.Networks.{network_of}
use Rattle.network_file.specs.Plan.{Plan}
use Rattle.network_file.specs.Keys.{value_of}
use Rattle.node_core.specs.Carried.{ttl_of}
use Rattle.net_model.specs.declared.air.Aired.{Aired}
use Rattle.net_laws.specs.Promises.{IsRunOf}
use Rattle.net_model.specs.SoundPlans.{first_sets}
use Rattle.net_model.specs.Circuits.{CircuitEvent, circuit_events}
use Rattle.net_laws.specs.Hops.{CameBy, node_at}
use Rattle.net_model.specs.Lines.{do_lines}
use Rattle.net_model.specs.World.{start}

-- ---- the networks of which it is said

-- the links that its nodes set up are all of this modulus
pub record IsOfModulus (size : ℕ) (plan : Plan) : Type 0 where
  pub modulus : (size ≡ 8) ⊎ (size ≡ 128)
  pub nodes : AllByRecursion (λ (d : Declaration). value_of plan.settings d.node Modulo ≡ size) plan.declared

-- a line that starts no node again
abbrev pub RestartsNone : Instruction → Type 0
RestartsNone (Restart node pair) = ⊥
RestartsNone _ = Unit {0}

abbrev pub LineRestartsNone : NumberedInstruction → Type 0
LineRestartsNone l = RestartsNone l.instruction

-- ---- the law

-- By these steps of the nodes' circuits a datagram was sent by the node that is its origin, as it came but for its time to live: an end
-- of that node told so, or its set, as number 0, where that refused a circuit. By the frames in the air it came to the node at a place
-- by so many hops, each of which took one from the time to live that it was sent with: so there were no more than that.
pub record WasSent (plan : Plan) (size : ℕ) (air : List Aired) (before : List Step) (place : ℕ) (datagram : List ℕ) : Type 0 where
  pub sending : returning.WasSent (events_of (first_sets plan) before) datagram
  pub ttl : ℕ
  pub from : IsFrom sending.own ttl sending.sent
  pub origin : (head : DatagramHead) → head_at datagram ≡ Ok head → head.origin ≡ sending.own
  pub node : Declaration
  pub is : node_at plan place ≡ Some node
  pub hops : ℕ
  pub came : CameBy plan size air sending.own sending.sent hops node.call datagram
  pub left : ttl_of datagram + hops ≡ ttl_of sending.sent

-- After these steps a datagram reached the node at a place, and was sent before as above.
pub record CameTo (plan : Plan) (size : ℕ) (air : List Aired) (steps : List Step) (place : ℕ) (datagram : List ℕ) : Type 0 where
  pub before : List Step
  pub after : List Step
  pub now : ℕ
  pub step : steps ≡ before ++ record { node = place; act = Comes datagram now } ∷ after
  pub was : WasSent plan size air before place datagram

-- The same of a datagram that an end has heeded: it was an end that sent it, and no set under number 0. The numbers of ends are 1 and more.
pub record CameFromEnd (plan : Plan) (size : ℕ) (air : List Aired) (steps : List Step) (place : ℕ) (datagram : List ℕ) : Type 0 where
  pub came : CameTo plan size air steps place datagram
  pub end : 1 ≤ came.was.sending.id

-- What a front of a file's lines has come to is a run of the nodes' circuits, in which each datagram that reached its node, so that the
-- node's circuits were handed it, was sent before; so was each that an end heeded, as the network's events tell, and that by an end.
-- And one that an end heeded came from the node of its partner, and names that end's pair. In the run a node starts again only where
-- one of these lines says so.
pub record SendsAll (plan : Plan) (size : ℕ) (done : List NumberedInstruction) : Type 0 where
  pub steps : List Step
  pub run : IsRunOf plan steps (do_lines plan done (start plan))
  pub sent : (before after : List Step) (node now : ℕ) (datagram : List ℕ) → steps ≡ before ++ record { node = node; act = Comes datagram now } ∷ after
      → WasSent plan size (do_lines plan done (start plan)).air before node datagram
  pub told : (e : CircuitEvent) (id : ℕ) (datagram : List ℕ) → Contains (circuit_events (do_lines plan done (start plan))) e → e.event.told ≡ Heeded id datagram
      → CameFromEnd plan size (do_lines plan done (start plan)).air steps e.event.node datagram
  pub heeded : (before after : List Step) (step : Step) (s : SetState) → steps ≡ before ++ step ∷ after
      → slice_get (sets_run (first_sets plan) before) step.node ≡ Some s → HeedsFor s step.act (set_step s step.act).told
  pub up : AllByRecursion LineRestartsNone done → AllByRecursion (λ (st : Step). IsUp st.act) steps

abbrev pub DatagramsSent : Type 0
DatagramsSent =
    (bytes : List ℕ) (plan : Plan) (size : ℕ) → network_of bytes ≡ Ok plan → IsOfModulus size plan
    → (done later : List NumberedInstruction) → plan.instructions ≡ done ++ later → SendsAll plan size done
