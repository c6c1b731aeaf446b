-- What goes between a user and its circuit: replies and messages to the user, texts to the circuit. Own profile.
use Rattle.std.specs.Prelude.{ℕ, Bool, true, false, not, ◌&&◌, nat_lt, if◌then◌else◌, List, [], ◌∷◌, ◌++◌, length, drop, slice_get, Option, Some, None}
use Rattle.circuit_table.specs.Sets as sets
use Rattle.circuit_table.specs.Standing as answers
use Rattle.node_prompt.specs.Replies.{Prompt}
use Rattle.node_prompt.specs.Replies as texts
use Rattle.node_model.specs.declared.circuit.Circuit.{Circuit}
use Rattle.node_model.specs.declared.reply.Reply.{Reply}
use Rattle.node_model.specs.declared.reply.Reply.TheVariants as reply
use Rattle.node_model.specs.declared.stage.Stage.{Stage}
use Rattle.node_model.specs.declared.stage.Stage.TheVariants.{AtPrompt, Trying, Failed, Connected}
use Rattle.node_model.specs.Sessions.{Bridge, Session, circuit_of}
use Rattle.node_model.specs.States.{State}
use Rattle.node_model.specs.Turns.{Turn, done, idle}
use Rattle.node_model.specs.Users.{Outcome, Taken, Exhausts, Unheard, Refused, acts, at_session, can_give, can_pass_on, close, end_at, end_has_room, is_gone, outcome_for, say, session_at, take_text, has_taken, write_answer, write_to, wrote_by}

abbrev pub prompt_of : State → Prompt
prompt_of n = record { alias = n.settings.alias; call = n.settings.call }

-- ---- replies

abbrev pub reply_text : Prompt → Reply → List ℕ
reply_text p (reply.Connected dest) = (texts.connected p dest).items
reply_text p (reply.Refused dest why) = (texts.refused p dest why).items
reply_text p (reply.Ended dest) = (texts.disconnected p dest).items

abbrev pub drop_reply : Session → Session
drop_reply s = record s { replies = drop 1 s.replies }

-- the first reply that waits, where it can be given
abbrev pub next_reply : Option Session → State → Option Reply
next_reply None n = None
next_reply (Some s) n = if can_give s n then slice_get s.replies 0 else None

abbrev pub reply_by : Option Reply → ℕ → ℕ → State → Turn State
reply_by None now nth n = idle n
reply_by (Some r) now nth n = done (say now nth (reply_text (prompt_of n) r) (at_session nth drop_reply n))

-- it is given
abbrev pub give_reply : ℕ → ℕ → State → Turn State
give_reply now nth n = reply_by (next_reply (session_at nth n) n) now nth n

-- ---- messages of the circuit

abbrev pub log_got : List ℕ → Session → Session
log_got message s = record s { bridge = record s.bridge { got = s.bridge.got ++ message ∷ [] } }

abbrev pub after_giving : Outcome → List ℕ → Bridge → Bridge
after_giving Taken message b = record b { gave = b.gave ++ message ∷ [] }
after_giving Exhausts message b = record b { exhausted = true }
after_giving Unheard message b = b
after_giving Refused message b = b

abbrev pub log_gave : Outcome → List ℕ → Session → Session
log_gave outcome message s = record s { bridge = after_giving outcome message s.bridge }

abbrev pub pass_on : ℕ → ℕ → List ℕ → State → State
pass_on now nth message n = say now nth message (at_session nth (log_gave (outcome_for nth message n) message) n)

abbrev pub give_end : Option sets.Holder → ℕ → ℕ → ℕ → State → Turn State
give_end end now nth id n =
    let message : List ℕ = answers.message_at [] end in
    if has_taken (answers.take_answer end)
    then done (pass_on now nth message (at_session nth (log_got message) (acts now (sets.Calls id sets.Takes now) n)))
    else idle n

abbrev pub give_from : ℕ → ℕ → ℕ → State → Turn State
give_from now nth id n = give_end (end_at id n) now nth id n

-- the circuit of a session, where a message of it can be given
abbrev pub giving_by : Session → Option Circuit → State → Option Circuit
giving_by s None n = None
giving_by s (Some c) n = if can_pass_on s c.id n then Some c else None

abbrev pub giving_circuit : Option Session → State → Option Circuit
giving_circuit None n = None
giving_circuit (Some s) n = giving_by s (circuit_of s.stage) n

abbrev pub give_of : Option Circuit → ℕ → ℕ → State → Turn State
give_of None now nth n = idle n
give_of (Some c) now nth n = give_from now nth c.id n

-- its next message is given
abbrev pub give_message : ℕ → ℕ → State → Turn State
give_message now nth n = give_of (giving_circuit (session_at nth n) n) now nth n

-- ---- texts of the user

abbrev pub has_rest : Option Session → Bool
has_rest None = false
has_rest (Some s) = nat_lt 0 (length s.rest)

-- there is a text of the user: what is left of the last one, or else the next one, which is taken
abbrev pub next_text : ℕ → ℕ → State → Turn State
next_text now nth n = if has_rest (session_at nth n) then done n else take_text now nth n

abbrev pub drop_rest : Session → Session
drop_rest s = record s { rest = [] }

abbrev pub after_writing : Outcome → List ℕ → Bridge → Bridge
after_writing Taken text b = record b { wrote = b.wrote ++ text ∷ [] }
after_writing Exhausts text b = record b { exhausted = true }
after_writing _ text b = b

abbrev pub log_wrote : Outcome → List ℕ → Session → Session
log_wrote outcome text s = record s { rest = []; bridge = after_writing outcome text s.bridge }

abbrev pub rest_of : Option Session → List ℕ
rest_of None = []
rest_of (Some s) = s.rest

-- what is left of the text is written to the circuit
abbrev pub write_rest : ℕ → ℕ → ℕ → State → State
write_rest now nth id n =
    let text : List ℕ = rest_of (session_at nth n) in
    write_to now id text (at_session nth (log_wrote (wrote_by (write_answer id text n)) text) n)

abbrev pub text_written : ℕ → ℕ → ℕ → Turn State → Turn State
text_written now nth id t = if t.did then done (write_rest now nth id t.after) else idle t.after

-- the next text of the user is written to the circuit, where that has room
abbrev pub write_text : ℕ → ℕ → Circuit → State → Turn State
write_text now nth c n =
    if not c.closed && end_has_room c.id n then text_written now nth c.id (next_text now nth n) else idle n

-- ---- the end of it

abbrev pub closed_circuit : Circuit → Circuit
closed_circuit c = record c { closed = true }

abbrev pub stage_closed : Stage → Stage
stage_closed AtPrompt = AtPrompt
stage_closed (Trying c) = Trying (closed_circuit c)
stage_closed (Failed c) = Failed (closed_circuit c)
stage_closed (Connected c) = Connected (closed_circuit c)

abbrev pub note_closed : Session → Session
note_closed s = record s { stage = stage_closed s.stage }

-- the user is gone, no text of it is left, and the circuit wasn't closed before
abbrev pub may_close : Session → Circuit → State → Bool
may_close s c n = not c.closed && (is_gone s n && not (nat_lt 0 (length s.rest)))

abbrev pub if_may_close : Session → Option Circuit → State → Option Circuit
if_may_close s None n = None
if_may_close s (Some c) n = if may_close s c n then Some c else None

abbrev pub circuit_to_close : Option Session → State → Option Circuit
circuit_to_close None n = None
circuit_to_close (Some s) n = if_may_close s (circuit_of s.stage) n

abbrev pub close_by : Option Circuit → ℕ → ℕ → State → Turn State
close_by None now nth n = idle n
close_by (Some c) now nth n = done (close now c.id (at_session nth note_closed n))

-- it is closed, once
abbrev pub close_circuit : ℕ → ℕ → State → Turn State
close_circuit now nth n = close_by (circuit_to_close (session_at nth n) n) now nth n
