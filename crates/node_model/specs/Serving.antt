-- The sessions are served in the order of their making, each with at most one thing; and what follows an input, of which that is a
-- part. Own profile.
use Rattle.std.specs.Prelude.{ℕ, zero, suc, Bool, false, ◌&&◌, ◌||◌, not, is_none, nat_eq, nat_lt, slice_get, if◌then◌else◌, List, [], ◌∷◌, length, filter, Option, Some, None, map}
use Rattle.ax_address.specs.Callsign.{Callsign}
use Rattle.ax_link.specs.declared.notice.LinkNotice.{LinkNotice}
use Rattle.node_model.specs.declared.circuit.Circuit.{Circuit}
use Rattle.node_model.specs.declared.stage.Stage.{Stage}
use Rattle.node_model.specs.declared.stage.Stage.TheVariants.{AtPrompt, Trying, Failed, Connected}
use Rattle.node_model.specs.declared.user.User.{User}
use Rattle.node_model.specs.declared.user.User.TheVariants.{AtEnd, AtLink}
use Rattle.node_model.specs.Asking.{take_line}
use Rattle.node_model.specs.Bridging.{close_circuit, give_message, give_reply, write_text}
use Rattle.node_model.specs.Links as links
use Rattle.node_model.specs.Pumping.{pump}
use Rattle.node_model.specs.Sessions.{Session, circuit_of, greet, is_at_link, hear_links}
use Rattle.node_model.specs.States.{State, at_sessions, Of_link, at_links, enter}
use Rattle.node_model.specs.Turns.{Turn, and_then, idle, or_else, settle}
use Rattle.node_model.specs.Users.{is_gone, session_at}

-- ---- links with a first text

abbrev pub serves_link : Callsign → Session → Bool
serves_link peer s = is_at_link peer s.user && not s.left

abbrev pub is_served_link : Callsign → List Session → Bool
is_served_link peer [] = false
is_served_link peer (s ∷ ss) = serves_link peer s || is_served_link peer ss

-- a session is made for the user at a link, unless one serves it
abbrev pub greet_link : Bool → Callsign → List Session → List Session
greet_link prompt peer ss = if is_served_link peer ss then ss else greet prompt (AtLink peer) ss

abbrev pub greet_each : Bool → List Callsign → List Session → List Session
greet_each prompt [] ss = ss
greet_each prompt (peer ∷ peers) ss = greet_each prompt peers (greet_link prompt peer ss)

-- a session is made for each link at which a text waits and that has none, in the order of the links
abbrev pub greet_links : State → State
greet_links n = at_sessions (greet_each n.settings.prompt (links.text_peers n.links)) n

-- ---- ends that a session serves

abbrev pub is_at_end : ℕ → User → Bool
is_at_end id (AtEnd at) = nat_eq at id
is_at_end id (AtLink peer) = false

abbrev pub is_circuit : ℕ → Option Circuit → Bool
is_circuit id None = false
is_circuit id (Some c) = nat_eq c.id id

-- a session serves that end, or has asked for its circuit
abbrev pub is_served : ℕ → List Session → Bool
is_served id [] = false
is_served id (s ∷ ss) = (is_at_end id s.user || is_circuit id (circuit_of s.stage)) || is_served id ss

-- ---- serving

abbrev pub take_up_at : Stage → ℕ → ℕ → State → Turn State
take_up_at AtPrompt now nth n = take_line now nth n
take_up_at (Trying c) now nth n = idle n
take_up_at (Failed c) now nth n = idle n
take_up_at (Connected c) now nth n = write_text now nth c n

abbrev pub stage_of : Option Session → Option Stage
stage_of None = None
stage_of (Some s) = Some s.stage

abbrev pub take_up_by : Option Stage → ℕ → ℕ → State → Turn State
take_up_by None now nth n = idle n
take_up_by (Some stage) now nth n = take_up_at stage now nth n

-- what is to be done with the next text or line of the user
abbrev pub take_up : ℕ → ℕ → State → Turn State
take_up now nth n = take_up_by (stage_of (session_at nth n)) now nth n

-- the first of these that can be done
abbrev pub serve_once : ℕ → ℕ → State → Turn State
serve_once now nth n = or_else (give_reply now nth) (or_else (give_message now nth) (or_else (take_up now nth) (close_circuit now nth))) n

-- and then the circuits are pumped
abbrev pub serve : ℕ → ℕ → State → Turn State
serve now nth n = let t : Turn State = serve_once now nth n in record { did = t.did; after = pump now t.after }

-- so many sessions from a place on
abbrev pub serve_each : ℕ → ℕ → ℕ → State → Turn State
serve_each now nth zero n = idle n
serve_each now nth (suc more) n = and_then (serve now nth n) (serve_each now (suc nth) more)

-- a session is over: its user is gone, and so is its circuit, and nothing is left of its texts and replies
abbrev pub is_over : State → Session → Bool
is_over n s = is_gone s n && (is_none (circuit_of s.stage) && (is_none (slice_get s.replies 0) && not (nat_lt 0 (length s.rest))))

abbrev pub drop_over : State → State
drop_over n = at_sessions (filter (λ s. not (is_over n s))) n

abbrev pub serve_all : ℕ → State → Turn State
serve_all now n = serve_each now 0 (length n.sessions) n

abbrev pub serve_greeted : ℕ → State → Turn State
serve_greeted now n = let t : Turn State = serve_all now n in record { did = t.did; after = drop_over t.after }

unfoldable pub serve_sessions : ℕ → State → Turn State
serve_sessions now n = serve_greeted now (greet_links n)

-- What follows an input: the notices of the links are entered, the circuits are pumped, the users are served; and again while any
-- of these did something. Own profile.

-- the sessions hear of them
abbrev pub enter_notices : State → State
enter_notices n =
    at_links links.all_noticed
    (at_sessions (hear_links n.links.pending.notices)
    (enter (map (λ (x : Callsign × LinkNotice). Of_link x.0 x.1) n.links.pending.notices) n))

-- ---- where no user is served, a text that waits at a link is taken and dropped, so that nothing behind it is held back; unless the node
-- hosts users: then it stays
abbrev pub dropped_peers : State → List Callsign
dropped_peers n = if n.settings.hosts then [] else links.text_peers n.links

abbrev pub drop_first : ℕ → List Callsign → State → Turn State
drop_first now [] n = record { did = false; after = n }
drop_first now (peer ∷ _) n = record { did = links.has_text peer n.links; after = at_links (links.take_text peer now) n }

abbrev pub drop_text : ℕ → State → Turn State
drop_text now n = drop_first now (dropped_peers n) n

abbrev pub payloads : State → ℕ
payloads n = links.payloads n.links

abbrev pub drop_texts : ℕ → State → State
drop_texts now n = settle (drop_text now) payloads n

abbrev pub drop_turn : ℕ → State → Turn State
drop_turn now n = record { did = (drop_text now n).did; after = drop_texts now n }

-- ---- the three parts
abbrev pub has_some : {A : Type 0} → List A → Bool
has_some xs = nat_lt 0 (length xs)

abbrev pub has_told : State → State → Bool
has_told old new = nat_lt (length old.entries) (length new.entries)

abbrev pub serve_users : ℕ → State → Turn State
serve_users now n = if n.settings.prompt then serve_sessions now n else drop_turn now n

abbrev pub turn : ℕ → State → Turn State
turn now n =
    let noticed : State = enter_notices n in
    let pumped : State = pump now noticed in
    let served : Turn State = serve_users now pumped in
    record { did = (has_some n.links.pending.notices || has_told noticed pumped) || served.did; after = served.after }
