-- How much a node has left to do, by weights: each thing that is done leaves less. So the turns that follow an input come to an end; what
-- they come to doesn't hang on these weights.
use Rattle.std.specs.Prelude.{ℕ, ◌+◌, ◌*◌, max, Bool, true, false, not, ◌&&◌, ◌||◌, nat_eq, nat_lt, if◌then◌else◌, suc, Option, Some, None, List, [], ◌∷◌, length}
use Rattle.circuit_l4.specs.State.{inbox}
use Rattle.circuit_table.specs.Sets.{Holder}
use Rattle.circuit_l4.specs.declared.piece.Piece.{Piece}
use Rattle.node_model.specs.declared.circuit.Circuit.{Circuit}
use Rattle.node_model.specs.declared.stage.Stage.{Stage}
use Rattle.node_model.specs.declared.stage.Stage.TheVariants.{AtPrompt, Trying, Failed, Connected}
use Rattle.node_model.specs.Pumping.{at_router, pending}
use Rattle.node_model.specs.Sessions.{Session, circuit_of}
use Rattle.node_model.specs.Serving.{has_some, payloads}
use Rattle.node_model.specs.States.{State}

-- nothing is to be entered, told or routed
abbrev pub is_quiet : State → Bool
is_quiet n = not (has_some n.links.pending.notices) && (not (nat_lt 0 (pending n)) && not (nat_lt 0 (at_router n)))

abbrev pub one_unless : Bool → ℕ
one_unless true = 0
one_unless false = 1

-- Each thing that is done leaves less to do, by these weights. A byte of a text may be a line that opens a circuit: that costs 3, and a
-- line has a byte at least.
abbrev pub byte_cost : ℕ
byte_cost = 4

-- a payload may be a text or a datagram, a datagram may bring a message, and a message may be a text of 8,192 bytes
abbrev pub text_cost : ℕ
text_cost = 8192 * byte_cost + 1

abbrev pub filled : List (Option Piece) → ℕ
filled [] = 0
filled (None ∷ early) = filled early
filled (Some p ∷ early) = suc (filled early)

-- messages that came to an end and weren't taken, and fragments that came early
abbrev pub end_messages : Holder → ℕ
end_messages h = if h.gone then 0 else length (inbox h.end.receiving) + filled h.end.receiving.early

abbrev pub is_among : ℕ → List ℕ → Bool
is_among id [] = false
is_among id (x ∷ xs) = nat_eq x id || is_among id xs

-- The most at any end of a number, and that of each number: of two ends that a node has made none has the same.
abbrev pub most_at : ℕ → List Holder → ℕ
most_at id [] = 0
most_at id (h ∷ hs) = if nat_eq h.id id then max (end_messages h) (most_at id hs) else most_at id hs

abbrev pub messages_but : List ℕ → List Holder → ℕ
messages_but seen [] = 0
messages_but seen (h ∷ hs) =
    (if is_among h.id seen then 0 else max (end_messages h) (most_at h.id hs)) + messages_but (h.id ∷ seen) hs

abbrev pub messages : State → ℕ
messages n = messages_but [] n.set.set.ends

-- a reply that waits is to be told; so is what may still become of a circuit: that it stands, and that it is gone
abbrev pub stage_replies : Stage → ℕ
stage_replies AtPrompt = 0
stage_replies (Trying c) = 2
stage_replies (Failed c) = 0
stage_replies (Connected c) = 1

-- a circuit may be closed once
abbrev pub is_unclosed : Option Circuit → ℕ
is_unclosed None = 0
is_unclosed (Some c) = if c.closed then 0 else 1

abbrev pub session_work : Session → ℕ
session_work s = byte_cost * length s.rest + length s.replies + stage_replies s.stage + is_unclosed (circuit_of s.stage)

abbrev pub sessions_work : List Session → ℕ
sessions_work [] = 0
sessions_work (s ∷ ss) = session_work s + sessions_work ss

abbrev pub work : State → ℕ
work n = text_cost * (payloads n + length n.links.pending.waiting + messages n) + sessions_work n.sessions

-- a turn that does something lowers the work, or the node wasn't quiet before it and is so behind it
abbrev pub left : State → ℕ
left n = 2 * work n + one_unless (is_quiet n)
