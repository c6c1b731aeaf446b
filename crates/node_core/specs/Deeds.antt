-- What is done at the ends and links of a node as a session is served, and what its user said and was told by that: what the session lists
-- of its user is read off it. Own profile.
use Rattle.std.specs.Prelude.{ℕ, ◌≡◌, ◌<◌, Bool, true, false, ◌||◌, ◌⊎◌, nat_eq, if◌then◌else◌, List, [], ◌∷◌, ◌++◌, length, slice_get, Some, Ok}
use Rattle.std.specs.List.{AllByRecursion}
use Rattle.ax_address.specs.Callsign.{Callsign, same_call}
use Rattle.circuit_table.specs.Sets as sets
use Rattle.circuit_table.specs.Sets.{Holder}
use Rattle.circuit_table.specs.Standing as answers
use Rattle.kiss_framing.specs.Stream as kiss
use Rattle.node_core.specs.Acts.{UserAct, do_act}
use Rattle.node_core.specs.Bridged.{AsksForCall, EverySession, Input, after_all}
use Rattle.node_core.specs.Broadcasts.{tick}
use Rattle.node_core.specs.Configs.{node_of}
use Rattle.node_core.specs.Receiving.{take_item}
use Rattle.node_core.specs.declared.config.NodeConfig.{NodeConfig}
use Rattle.link_table.specs.Reaching.{IsCall}
use Rattle.node_model.specs.declared.circuit.Circuit.{Circuit}
use Rattle.node_model.specs.declared.stage.Stage.{Stage}
use Rattle.node_model.specs.declared.stage.Stage.TheVariants.{AtPrompt, Trying, Connected}
use Rattle.node_model.specs.declared.user.User.{User}
use Rattle.node_model.specs.declared.user.User.TheVariants.{AtEnd, AtLink}
use Rattle.node_model.specs.Links as links
use Rattle.node_model.specs.Pumping.{pump}
use Rattle.node_model.specs.Serving.{drop_over, drop_texts, enter_notices, greet_links, is_at_end, serve}
use Rattle.node_model.specs.Sessions.{Session, circuit_of, is_at_link, waits}
use Rattle.node_model.specs.States.{State, at_links, at_set}
use Rattle.node_model.specs.Users.{end_at, has_taken, session_at, write_answer}

-- ---- deeds

pub data Deed : Type 0 where
  Wrote : (id : ℕ) (text : List ℕ) → Deed  -- a text was written to an end
  Took : (id : ℕ) (text : List ℕ) → Deed  -- the message that waited at an end was taken
  Closed : (id : ℕ) → Deed  -- an end was closed
  Sent : (peer : Callsign) (text : List ℕ) → Deed  -- a text was sent over the link with a peer
  Fetched : (peer : Callsign) (text : List ℕ) → Deed  -- the text that waited at that link was taken

-- From a state a node comes to its last by these deeds and no others: each is an act of the circuits or the links, which took the text in,
-- or gave the one that waited. Between them the circuits are pumped, and what is kept of the sessions may change.
pub data Does (now : ℕ) (last : State) : State → List Deed → Type 0 where
  Rests : Does now last last []
  Keeps : (n : State) (ss : List Session) (ds : List Deed) → Does now last (record n { sessions = ss }) ds → Does now last n ds
  Pumps : (n : State) (ds : List Deed) → Does now last (pump now n) ds → Does now last n ds
  Writes : (n : State) (ds : List Deed) (id : ℕ) (text : List ℕ) → write_answer id text n ≡ Ok tt
      → Does now last (at_set (links.acts (sets.Calls id (sets.Writes text) now)) n) ds → Does now last n (Wrote id text ∷ ds)
  Takes : (n : State) (ds : List Deed) (id : ℕ) → has_taken (answers.take_answer (end_at id n)) ≡ true
      → Does now last (at_set (links.acts (sets.Calls id sets.Takes now)) n) ds
      → Does now last n (Took id (answers.message_at [] (end_at id n)) ∷ ds)
  Closes : (n : State) (ds : List Deed) (id : ℕ)
      → Does now last (at_set (links.acts (sets.Calls id sets.Closes now)) n) ds → Does now last n (Closed id ∷ ds)
  Sends : (n : State) (ds : List Deed) (peer : Callsign) (text : List ℕ) → links.text_answer peer text n.links ≡ Ok tt
      → Does now last (at_links (links.send_text peer text now) n) ds → Does now last n (Sent peer text ∷ ds)
  Fetches : (n : State) (ds : List Deed) (peer : Callsign) → links.has_text peer n.links ≡ true
      → Does now last (at_links (links.take_text peer now) n) ds → Does now last n (Fetched peer (links.text_with peer n.links) ∷ ds)

-- ---- what they show at the ends

-- each end has a number of its own
abbrev pub AreApart : List Holder → Type 0
AreApart [] = Unit {0}
AreApart (h ∷ hs) = AllByRecursion (λ k. nat_eq k.id h.id ≡ false) hs × AreApart hs

-- and one that was given
abbrev pub AreNumbered : State → Type 0
AreNumbered n = AllByRecursion (λ h. h.id < n.set.set.number) n.set.set.ends × AreApart n.set.set.ends

-- that is all that was ever written to an end, and all that was ever taken of what it received, in order
pub record EndHas (id : ℕ) (n : State) (written taken : List (List ℕ)) : Type 0 where
  pub holder : Holder
  pub is : end_at id n ≡ Some holder
  pub wrote : holder.end.sending.wrote ≡ written
  pub many : holder.end.receiving.taken ≡ length taken
  pub took : (waiting : List (List ℕ)) × (holder.end.receiving.received ≡ taken ++ waiting)

-- ---- what a user was told and said by them

-- what was written to its end, or sent over its link
abbrev pub told_in : User → Deed → List (List ℕ)
told_in (AtEnd id) (Wrote at text) = if nat_eq id at then text ∷ [] else []
told_in (AtLink peer) (Sent to text) = if same_call peer to then text ∷ [] else []
told_in _ _ = []

abbrev pub told_to : User → List Deed → List (List ℕ)
told_to user [] = []
told_to user (d ∷ ds) = told_in user d ++ told_to user ds

-- what was taken of that which its end received, or its link brought
abbrev pub said_in : User → Deed → List (List ℕ)
said_in (AtEnd id) (Took at text) = if nat_eq id at then text ∷ [] else []
said_in (AtLink peer) (Fetched from text) = if same_call peer from then text ∷ [] else []
said_in _ _ = []

abbrev pub said_by : User → List Deed → List (List ℕ)
said_by user [] = []
said_by user (d ∷ ds) = said_in user d ++ said_by user ds

-- by deeds, and in no other way, more is written to each end that is held and more is taken of what it received
abbrev pub EndsShowDeeds : Type 0
EndsShowDeeds =
    (now : ℕ) (last n : State) (deeds : List Deed) → Does now last n deeds → AreNumbered n
    → (id : ℕ) (written taken : List (List ℕ)) → EndHas id n written taken
    → EndHas id last (written ++ told_to (AtEnd id) deeds) (taken ++ said_by (AtEnd id) deeds)

-- the ends of every node with a call that inputs may have led to are numbered
abbrev pub EndsAreNumbered : Type 0
EndsAreNumbered =
    (hosts : Bool) (c : NodeConfig) (inputs : List Input) → IsCall c.call → AllByRecursion AsksForCall inputs
    → AreNumbered (after_all inputs (node_of hosts c)).station

-- where messages of the circuit were taken, what the user was told is these: else it is replies
abbrev pub given_by : List (List ℕ) → List (List ℕ) → List (List ℕ)
given_by [] told = []
given_by (_ ∷ _) told = told

abbrev pub given_to : User → Circuit → List Deed → List (List ℕ)
given_to user c ds = given_by (said_by (AtEnd c.id) ds) (told_to user ds)

-- ---- a session that is served

abbrev pub is_side : User → Circuit → ℕ → Bool
is_side user c id = is_at_end id user || nat_eq c.id id

-- it is done at the end of the circuit, or at the user's end or link
abbrev pub is_at : User → Circuit → Deed → Bool
is_at user c (Wrote id text) = is_side user c id
is_at user c (Took id text) = is_side user c id
is_at user c (Closed id) = is_side user c id
is_at user c (Sent peer text) = is_at_link peer user
is_at user c (Fetched peer text) = is_at_link peer user

-- A node has served the session with a circuit in this place. All that it did was done at that circuit's end and at the session's user.
-- What the session lists as given to the user has grown by just the messages of the circuit that the user was told; and while the circuit
-- stood, what it lists as taken from the user by just what the user said.
pub record NotesDeeds (now nth : ℕ) (c : Circuit) (s : Session) (n after : State) : Type 0 where
  pub deeds : List Deed
  pub does : Does now after n deeds
  pub own : AllByRecursion (λ d. is_at s.user c d ≡ true) deeds
  pub session : Session
  pub placed : session_at nth after ≡ Some session
  pub gave : session.bridge.gave ≡ s.bridge.gave ++ given_to s.user c deeds
  pub taken : s.stage ≡ Connected c → session.bridge.taken ≡ s.bridge.taken ++ said_by s.user deeds

-- so it is with each session that is served, in each state, where the circuit's end isn't the user's
abbrev pub SessionsNoteDeeds : Type 0
SessionsNoteDeeds =
    (now nth : ℕ) (n : State) (s : Session) (c : Circuit) → session_at nth n ≡ Some s → circuit_of s.stage ≡ Some c
    → is_at_end c.id s.user ≡ false → NotesDeeds now nth c s n (serve now nth n).after

-- A session whose circuit stood was served, told by the end of its user alone: what it lists as taken from the user has grown by just what
-- was taken more of what that end received; and what it lists as given by just what was written there more, or not at all.
pub record ListsShow (nth id : ℕ) (s : Session) (written taken : List (List ℕ)) (after : State) : Type 0 where
  pub told : List (List ℕ)
  pub said : List (List ℕ)
  pub end : EndHas id after (written ++ told) (taken ++ said)
  pub session : Session
  pub placed : session_at nth after ≡ Some session
  pub gave : (session.bridge.gave ≡ s.bridge.gave) ⊎ (session.bridge.gave ≡ s.bridge.gave ++ told)
  pub took : session.bridge.taken ≡ s.bridge.taken ++ said

abbrev pub EndsShowLists : Type 0
EndsShowLists =
    (now nth id : ℕ) (n : State) (s : Session) (c : Circuit) → session_at nth n ≡ Some s → s.stage ≡ Connected c → s.user ≡ AtEnd id
    → nat_eq id c.id ≡ false → AreNumbered n → (written taken : List (List ℕ)) → EndHas id n written taken
    → ListsShow nth id s written taken (serve now nth n).after

-- the end of a circuit isn't that of its session's user, in every node
abbrev pub IsApart : State → Session → Type 0
IsApart n s = (c : Circuit) → circuit_of s.stage ≡ Some c → is_at_end c.id s.user ≡ false

abbrev pub SessionsApart : Type 0
SessionsApart = EverySession IsApart

-- ---- elsewhere

abbrev pub is_tried : Stage → Bool
is_tried (Trying c) = true
is_tried _ = false

-- A session goes on: what it lists of its user is as it was. But as a circuit that was tried stands, what was taken begins anew, with what
-- was left of the text that asked for it.
pub record GoesOn (old new : Session) : Type 0 where
  pub user : new.user ≡ old.user
  pub gave : new.bridge.gave ≡ old.bridge.gave
  pub taken : (new.bridge.taken ≡ old.bridge.taken) ⊎ ((is_tried old.stage ≡ true) × (new.bridge.taken ≡ waits new.rest))

-- a session that lists nothing of its user, and has no circuit
pub record ListsNothing (x : Session) : Type 0 where
  pub stage : x.stage ≡ AtPrompt
  pub gave : x.bridge.gave ≡ []
  pub taken : x.bridge.taken ≡ []

-- each of the new sessions goes on from an old one, or lists nothing
abbrev pub GoesOnIn : List Session → Session → Type 0
GoesOnIn old x = ListsNothing x ⊎ ((nth : ℕ) × ((s : Session) × ((slice_get old nth ≡ Some s) × GoesOn s x)))

abbrev pub AllGoOn : State → State → Type 0
AllGoOn old new = AllByRecursion (GoesOnIn old.sessions) new.sessions

-- there is a session in this place that goes on
abbrev pub GoesOnAt : ℕ → Session → State → Type 0
GoesOnAt nth s n = (x : Session) × ((session_at nth n ≡ Some x) × GoesOn s x)

-- A session has no circuit; or it has asked for one, and lists nothing that was given, and as taken nothing or what was left of the text
-- that asked for it.
abbrev pub HasBegun : Session → Type 0
HasBegun x = (x.stage ≡ AtPrompt) ⊎ ((x.bridge.gave ≡ []) × ((x.bridge.taken ≡ []) ⊎ (x.bridge.taken ≡ waits x.rest)))

abbrev pub BeginsAt : ℕ → State → Type 0
BeginsAt nth n = (x : Session) × ((session_at nth n ≡ Some x) × HasBegun x)

-- All else that an input of a node is made of leaves what sessions list: the input itself, texts that are dropped, the notices of links,
-- the pumping, the making of sessions and their end, and the serving of another. One that asks for a circuit begins with empty lists.
pub record ListsStayElsewhere : Type 0 where
  pub items : (now : ℕ) (item : kiss.Item) (n : State) → (take_item now item n).sessions ≡ n.sessions
  pub ticks : (now : ℕ) (n : State) → (tick now n).sessions ≡ n.sessions
  pub acts : (now : ℕ) (act : UserAct) (n : State) → (do_act now act n).node.sessions ≡ n.sessions
  pub texts : (now : ℕ) (n : State) → (drop_texts now n).sessions ≡ n.sessions
  pub notices : (n : State) → AllGoOn n (enter_notices n)
  pub pumps : (now : ℕ) (n : State) → AllGoOn n (pump now n)
  pub greets : (n : State) → AllGoOn n (greet_links n)
  pub drops : (n : State) → AllGoOn n (drop_over n)
  pub others : (now nth at : ℕ) (n : State) (s : Session) → nat_eq at nth ≡ false → session_at at n ≡ Some s
      → GoesOnAt at s (serve now nth n).after
  pub begins : (now nth : ℕ) (n : State) (s : Session) → session_at nth n ≡ Some s → s.stage ≡ AtPrompt
      → BeginsAt nth (serve now nth n).after
