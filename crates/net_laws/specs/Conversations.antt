-- What goes between a user at a prompt and the other end of its circuit, in a network in time. Own profile.
use Rattle.std.specs.Prelude.{ℕ, ◌≡◌, false, List, [], ◌++◌, slice_get, Contains, Some, None, Ok}
use Rattle.std.specs.List.{AllByRecursion}
use Rattle.circuit_l4.specs.State as ends
use Rattle.circuit_table.specs.Events.{Event, Name}
use Rattle.circuit_set.specs.Safe.{IsBeginning}
use Rattle.circuit_table.specs.Runs.{Step, end_named, events_of, sets_run}
use Rattle.circuit_table.specs.Sets.{Holder, SetState}
use Rattle.circuit_set.specs.TooLate.{HasPartner, Partners}
use Rattle.network_file.specs.declared.plan.instructions.NumberedInstruction.{NumberedInstruction}
use Rattle.network_file.specs.Networks.{network_of}
use Rattle.network_file.specs.Plan.{Plan}
use Rattle.node_model.specs.declared.circuit.Circuit.{Circuit}
use Rattle.node_model.specs.declared.stage.Stage.TheVariants.{Connected}
use Rattle.node_model.specs.Sessions.{Session}
use Rattle.node_model.specs.States.{State}
use Rattle.node_model.specs.Users.{is_deaf}
use Rattle.net_laws.specs.Promises.{IsRunOf}
use Rattle.net_model.specs.SoundPlans.{first_sets}
use Rattle.net_model.specs.Circuits.{IsVerdictOn}
use Rattle.net_model.specs.Lines.{do_lines, world}
use Rattle.net_model.specs.Starting.{Placed}
use Rattle.net_model.specs.World.{World, start}

-- Of a user at a prompt, and the end of its circuit here: what that end wrote is a beginning of the user's texts.
pub record WritesTexts (sets : List SetState) (x : Name) (s : Session) : Type 0 where
  pub end : Holder
  pub here : end_named sets x ≡ Some end
  pub wrote : IsBeginning end.end.sending.wrote s.bridge.taken

-- Of a user at the prompt of a node, and the other end of its circuit: what the user was given is a beginning of what that end wrote,
-- where the user's side hasn't ended and the user hasn't said BYE; and what that end received is a beginning of the user's texts.
pub record Agree (n : State) (s : Session) (other : ends.State) : Type 0 where
  pub given : is_deaf s n ≡ false → IsBeginning s.bridge.gave other.sending.wrote
  pub received : IsBeginning other.receiving.received s.bridge.taken

-- Of a user and the end x of its circuit here: it agrees with the other end, by what was told; and where there is none, it was given
-- nothing.
pub record AgreeWith (events : List Event) (sets : List SetState) (n : State) (x : Name) (s : Session) : Type 0 where
  pub joined : (y : Name) → Partners events x y → (k : Holder) × (end_named sets y ≡ Some k) × Agree n s k.end
  pub alone : (HasPartner events x → ⊥) → is_deaf s n ≡ false → s.bridge.gave ≡ []

-- so it is of a session at the node of a place while its circuit stands, unless the numbers of fragments have come to their end
abbrev pub AgreesAt : List Event → List SetState → ℕ → State → Session → Type 0
AgreesAt events sets place n s =
    (c : Circuit) → s.stage ≡ Connected c → s.bridge.exhausted ≡ false
    → let x : Name = record { node = place; id = c.id } in WritesTexts sets x s × AgreeWith events sets n x s

-- such a session of a node in the network, whose circuit has this end here
pub record IsSession (w : World) (x : Name) (p : Placed) (s : Session) : Type 0 where
  pub there : slice_get w.nodes x.node ≡ Some p
  pub among : Contains p.state.station.sessions s
  pub circuit : Circuit
  pub stands : s.stage ≡ Connected circuit
  pub end : circuit.id ≡ x.id
  pub quiet : s.bridge.exhausted ≡ false

-- What the lines of a front of a file have come to is a run of the nodes' circuits, in whose ends each node's sessions agree with those
-- whom their circuits lead to. And where a user's circuit leads to a user's, what the one was given is a beginning of the other's
-- texts.
pub record UsersAgreeAt (plan : Plan) (done : List NumberedInstruction) : Type 0 where
  pub steps : List Step
  pub run : IsRunOf plan steps (do_lines plan done (start plan))
  pub users : (at : ℕ) (p : Placed) → slice_get (do_lines plan done (start plan)).nodes at ≡ Some p
      → AllByRecursion (AgreesAt (events_of (first_sets plan) steps) (sets_run (first_sets plan) steps) at p.state.station) p.state.station.sessions
  pub between : (x y : Name) (p q : Placed) (s t : Session) → IsSession (do_lines plan done (start plan)) x p s → IsSession (do_lines plan done (start plan)) y q t
      → Partners (events_of (first_sets plan) steps) x y → is_deaf s p.state.station ≡ false → IsBeginning s.bridge.gave t.bridge.taken

-- so it is at each line of each file of which no datagram and no pair comes back too late
abbrev pub InTimeUsersAgree : Type 0
InTimeUsersAgree =
    (bytes : List ℕ) (plan : Plan) → network_of bytes ≡ Ok plan → IsVerdictOn plan (world plan) None
    → (done later : List NumberedInstruction) → plan.instructions ≡ done ++ later → UsersAgreeAt plan done
