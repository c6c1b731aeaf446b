-- What goes between a user and its circuit arrives whole and in order, each way; and what a session keeps is bounded. Own profile.
use Rattle.std.specs.Prelude.{ℕ, ◌≡◌, ◌+◌, ◌≤◌, Bool, true, false, Some, List, [], ◌∷◌, ◌++◌, length}
use Rattle.std.specs.List.{AllByRecursion}
use Rattle.ax_address.specs.Callsign.{Callsign}
use Rattle.ax_address.specs.declared.address.Address.{Address}
use Rattle.arrayvec.specs.ArrayVec.{ArrayVec}
use Rattle.circuit_l4.specs.State.{inbox}
use Rattle.circuit_table.specs.CircuitSets.{held_ids}
use Rattle.circuit_table.specs.Sets.{Holder}
use Rattle.link_table.specs.Calls.{with_path}
use Rattle.link_table.specs.Reaching.{IsCall}
use Rattle.node_core.specs.declared.config.NodeConfig.{NodeConfig}
use Rattle.node_model.specs.declared.circuit.Circuit.{Circuit}
use Rattle.node_model.specs.declared.stage.Stage.{Stage}
use Rattle.node_model.specs.declared.stage.Stage.TheVariants.{AtPrompt, Trying, Failed, Connected}
use Rattle.node_core.specs.Configs.{node_of}
use Rattle.node_core.specs.Inputs.{after_act, after_bytes, after_tick}
use Rattle.node_core.specs.Qualities.{with_quality}
use Rattle.node_core.specs.Runs.{IsUserAct}
use Rattle.node_model.specs.Sessions.{Bridge, Session, circuit_of, waits}
use Rattle.node_core.specs.Acts.{UserAct}
use Rattle.node_model.specs.States.{NodeState, State, at_links, fetch_entry, fetch_frame}
use Rattle.node_model.specs.Users.{end_at, is_deaf}
use Rattle.node_core.specs.Waits.{has_text}

-- ---- one session

-- Each text that was taken from the user since its circuit stood was written to the circuit whole, as one message and in order, but for
-- what is left of the text that was taken last, which waits; unless something was refused, since the numbers of fragments have come to
-- their end.
abbrev pub WritesTaken : Bridge → List ℕ → Type 0
WritesTaken b rest = b.exhausted ≡ false → b.taken ≡ b.wrote ++ waits rest

-- What was taken from the circuit was given to the user, in order, where the user's side hasn't ended and the user hasn't said BYE; unless
-- the numbers of fragments have come to their end.
abbrev pub GivesGot : State → Session → Type 0
GivesGot n s = s.bridge.exhausted ≡ false → is_deaf s n ≡ false → s.bridge.gave ≡ s.bridge.got

pub record Bridged (n : State) (s : Session) : Type 0 where
  pub writes : WritesTaken s.bridge s.rest
  pub gives : GivesGot n s

-- so it is while the circuit stands
abbrev pub BridgedAt : Stage → State → Session → Type 0
BridgedAt AtPrompt n s = Unit {0}
BridgedAt (Trying c) n s = Unit {0}
BridgedAt (Failed c) n s = Unit {0}
BridgedAt (Connected c) n s = Bridged n s

abbrev pub IsBridged : State → Session → Type 0
IsBridged n s = BridgedAt s.stage n s

-- how many replies may wait: at the prompt that a circuit stood, or didn't, and that it has ended
abbrev pub most_replies : Stage → ℕ
most_replies AtPrompt = 2
most_replies (Trying c) = 0
most_replies (Failed c) = 1
most_replies (Connected c) = 1

-- a session keeps what is left of one text, and few replies
pub record IsBounded (s : Session) : Type 0 where
  pub rest : length s.rest ≤ 8192
  pub replies : length s.replies ≤ most_replies s.stage

-- what was ever written to the end of its circuit is what the session has written
abbrev pub IsEndsWriter : State → Session → Type 0
IsEndsWriter n s = (c : Circuit) → s.stage ≡ Connected c → (h : Holder) × (end_at c.id n ≡ Some h) × (h.end.sending.wrote ≡ s.bridge.wrote)

-- what was ever taken of what the end of its circuit received is what the session has got: the rest of it wasn't taken
abbrev pub IsEndsReader : State → Session → Type 0
IsEndsReader n s =
    (c : Circuit) → s.stage ≡ Connected c → (h : Holder) × (end_at c.id n ≡ Some h) × (h.end.receiving.received ≡ s.bridge.got ++ inbox h.end.receiving)

-- a circuit is closed here last: no text waits for it
abbrev pub IsClosedLast : State → Session → Type 0
IsClosedLast n s = (c : Circuit) → circuit_of s.stage ≡ Some c → c.closed ≡ true → has_text s n ≡ false

-- ---- every node

-- what may happen to a node between its start and now
pub data Input : Type 0 where
  Bytes : (now : ℕ) (bytes : List ℕ) → Input  -- KISS bytes come
  Ticks : (now : ℕ) → Input
  Acts : (now : ℕ) (act : UserAct) → Input
  Paths : (peer : Callsign) (path : ArrayVec Address) → Input  -- the repeaters to a peer are set
  Qualities : (neighbour : Callsign) (quality : ℕ) → Input  -- the quality of the path to a neighbour is set
  Fetches_frame : Input
  Fetches_entry : Input

abbrev pub after : Input → NodeState → NodeState
after (Bytes now bytes) n = after_bytes now bytes n
after (Ticks now) n = after_tick now n
after (Acts now act) n = after_act now act n
after (Paths peer path) n = record n { station = at_links (with_path peer path) n.station }
after (Qualities neighbour quality) n = record n { station = with_quality neighbour quality n.station }
after Fetches_frame n = record n { station = fetch_frame n.station }
after Fetches_entry n = record n { station = fetch_entry n.station }

abbrev pub after_all : List Input → NodeState → NodeState
after_all [] n = n
after_all (i ∷ more) n = after_all more (after i n)

-- a circuit is asked for with a call
abbrev pub AsksForCall : Input → Type 0
AsksForCall (Acts now act) = IsUserAct act
AsksForCall _ = Unit {0}

-- each session that a node with a call comes to from its start, whether or not it hosts users, with the node
abbrev pub EverySession : (State → Session → Type 0) → Type 0
EverySession P =
    (hosts : Bool) (c : NodeConfig) (inputs : List Input) → IsCall c.call → AllByRecursion AsksForCall inputs
    → let n : State = (after_all inputs (node_of hosts c)).station in AllByRecursion (P n) n.sessions

abbrev pub SessionsBridged : Type 0
SessionsBridged = EverySession IsBridged

abbrev pub SessionsWriteTheirEnds : Type 0
SessionsWriteTheirEnds = EverySession IsEndsWriter

abbrev pub SessionsReadTheirEnds : Type 0
SessionsReadTheirEnds = EverySession IsEndsReader

abbrev pub SessionsClosedLast : Type 0
SessionsClosedLast = EverySession IsClosedLast

abbrev pub SessionsBounded : Type 0
SessionsBounded = EverySession (λ n. IsBounded)

-- ---- how many they are

-- each session has a user at a link or an end of its own, or has asked for a circuit of which the end is held; and there are at most 64
-- links
abbrev pub UsersAreFew : Type 0
UsersAreFew =
    (hosts : Bool) (c : NodeConfig) (inputs : List Input) → IsCall c.call → AllByRecursion AsksForCall inputs
    → let n : State = (after_all inputs (node_of hosts c)).station in
    (length n.sessions ≤ length n.links.links + length (held_ids n.set.set.ends)) × (length n.links.links ≤ 64)
