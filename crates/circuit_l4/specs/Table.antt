-- The table of an end of a circuit: what it does with each input in each phase (NET/ROM, Appendix B, with the choices of
-- this project's profile). An input that the table doesn't name does nothing.
use Rattle.std.specs.Prelude.{ℕ, suc, ◌+◌, ◌^◌, min, max, Bool, true, false, not, ◌&&◌, nat_eq, nat_lt, nat_le, if◌then◌else◌, List, length, Option, Some, None, Result, Ok, Err, is_ok}
use Rattle.circuit_reassembly.specs.Fragments.{fragments_of}
use Rattle.circuit_l4.specs.declared.pair.Pair.{Pair}
use Rattle.circuit_l4.specs.declared.transport.Flags.{Flags}
use Rattle.circuit_l4.specs.declared.piece.Piece.{Piece}
use Rattle.circuit_l4.specs.declared.transport.Transport.{Transport}
use Rattle.circuit_l4.specs.declared.transport.Transport.TheVariants.{Request, Accept, Refuse, Disconnect, Disconnected, Info, InfoAck}
use Rattle.circuit_l4.specs.declared.phase.EndPhase.{EndPhase}
use Rattle.circuit_l4.specs.declared.phase.EndPhase.TheVariants.{Connecting, Up, Closing, Ended}
use Rattle.circuit_l4.specs.declared.notice.EndNotice.TheVariants.{Opened, Refused, Closed, ClosedByPartner, FailedRetries, FailedOversize, FailedInactive}
use Rattle.circuit_l4.specs.declared.refusal.WriteRefusal.{WriteRefusal}
use Rattle.circuit_l4.specs.declared.refusal.WriteRefusal.TheVariants as refusal
use Rattle.circuit_l4.specs.declared.role.Role.{Role}
use Rattle.circuit_l4.specs.declared.role.Role.TheVariants.{Requester, Responder}
use Rattle.circuit_l4.specs.State.{State, Effect, begin, is_up, total, unacknowledged, written, Appended, Receiving, busy, without_first, inbox, follow}
use Rattle.circuit_l4.specs.Moves.{emit, emit_ack, note, end_with, on_state, with_receiving, wait, wait_if_out, fill, finish, again, on_info, on_info_ack}

-- the window that both ends take: that of the other end, at most the own one, and at least 1
abbrev pub common_window : ℕ → ℕ → ℕ
common_window own other = max 1 (min other own)

-- the request of a requester; a responder has none
abbrev pub ask_by : Role → Effect → Effect
ask_by (Requester user node) g = emit (Request g.end.pair g.end.config.window user node) g
ask_by Responder g = g

abbrev pub come_up : ℕ → Pair → ℕ → State → State
come_up now to window s = record s { to = to; window = common_window s.config.window window; phase = Up; answer_due = None; last_active = now }

abbrev pub on_accept : ℕ → Pair → ℕ → Effect → Effect
on_accept now to window g =
    finish now (note (Opened (common_window g.end.config.window window)) (on_state (come_up now to window) g))

abbrev pub arrive_connecting : ℕ → Transport → Effect → Effect
arrive_connecting now (Accept to own window) g = on_accept now own window g
arrive_connecting now (Refuse to) g = end_with Refused g
arrive_connecting now _ g = g

abbrev pub note_activity : ℕ → Effect → Effect
note_activity now g = on_state (λ s. record s { last_active = now }) g

abbrev pub closed_by_partner : Effect → Effect
closed_by_partner g = end_with ClosedByPartner (emit (Disconnected g.end.to) g)

abbrev pub hear_info : ℕ → ℕ → ℕ → Flags → Piece → Effect → Effect
hear_info now tx rx flags piece g = on_info now tx rx flags piece (note_activity now g)

abbrev pub hear_info_ack : ℕ → ℕ → Flags → Effect → Effect
hear_info_ack now rx flags g = on_info_ack now rx flags (note_activity now g)

abbrev pub arrive_up : ℕ → Transport → Effect → Effect
arrive_up now (Info to tx rx flags text) g = hear_info now tx rx flags (record { text = text; more = flags.more }) g
arrive_up now (InfoAck to rx flags) g = hear_info_ack now rx flags g
arrive_up now (Disconnect to) g = closed_by_partner g
arrive_up now _ g = g

abbrev pub arrive_closing : Transport → Effect → Effect
arrive_closing (Disconnect to) g = closed_by_partner g
arrive_closing (Disconnected to) g = end_with Closed g
arrive_closing _ g = g

abbrev pub arrive_in : EndPhase → ℕ → Transport → Effect → Effect
arrive_in Connecting now t g = arrive_connecting now t g
arrive_in Up now t g = arrive_up now t g
arrive_in Closing now t g = arrive_closing t g
arrive_in Ended now t g = g

-- a transport has come
abbrev pub arrive : ℕ → Transport → Effect → Effect
arrive now t g = arrive_in g.end.phase now t g

abbrev pub ask : Effect → Effect
ask g = ask_by g.end.role g

-- what is put out once more
abbrev pub retry_in : EndPhase → Effect → Effect
retry_in Connecting g = ask g
retry_in Up g = again g
retry_in Closing g = emit (Disconnect g.end.to) g
retry_in Ended g = g

abbrev pub ask_once_more : Effect → Effect
ask_once_more g = retry_in g.end.phase g

abbrev pub retry : ℕ → Effect → Effect
retry now g = on_state (λ s. wait now (record s { tries = suc s.tries })) (ask_once_more g)

-- an answer hasn't come: it is waited for once more, or no longer
abbrev pub expire : ℕ → Effect → Effect
expire now g =
    if nat_eq g.end.tries g.end.config.retries then end_with FailedRetries g else retry now g

-- an end that was held long enough goes on. Its expiry doesn't count
abbrev pub unchoke : ℕ → Effect → Effect
unchoke now g = on_state (wait_if_out now) (fill now (again (on_state (λ s. record s { choked = false; answer_due = None }) g)))

abbrev pub fall_due_up : ℕ → Effect → Effect
fall_due_up now g = if g.end.choked then unchoke now g else expire now g

abbrev pub due_in : EndPhase → ℕ → Effect → Effect
due_in Up now g = fall_due_up now g
due_in Ended now g = g
due_in _ now g = expire now g

-- no answer came in time
abbrev pub fall_due : ℕ → Effect → Effect
fall_due now g = due_in g.end.phase now g

abbrev pub is_due : Option ℕ → ℕ → Bool
is_due None now = false
is_due (Some at) now = nat_le at now

abbrev pub tick : ℕ → Effect → Effect
tick now g =
    if is_up g.end.phase && nat_le (g.end.last_active + g.end.config.inactive) now then end_with FailedInactive g
    else if is_due g.end.answer_due now then fall_due now g
    else g

abbrev pub may_close : EndPhase → Bool
may_close Connecting = true
may_close Up = true
may_close _ = false

abbrev pub close_in_turn : ℕ → Effect → Effect
close_in_turn now g = finish now (on_state (λ s. record s { closing = true }) g)

abbrev pub close : ℕ → Effect → Effect
close now g = if may_close g.end.phase then close_in_turn now g else g

-- whether a message is accepted
abbrev pub write_answer : State → List ℕ → Result (Unit {0}) WriteRefusal
write_answer s message =
    if not (is_up s.phase) then Err refusal.NotUp
    else if s.closing then Err refusal.Closing
    else if nat_eq (length message) 0 then Err refusal.Empty
    else if nat_lt 8192 (length message) then Err refusal.TooLong
    else if nat_lt 65536 (unacknowledged s.sending + length message) then Err refusal.QueueFull
    else if nat_lt (2 ^ 62) (total s.sending + length (fragments_of message)) then Err refusal.Exhausted
    else Ok tt

-- a message is written
abbrev pub write : ℕ → List ℕ → Effect → Effect
write now message g = fill now (on_state (λ s. record s { last_active = now; sending = written message s.sending }) g)

-- early fragments have followed, and the other end is told
abbrev pub resume_by : Appended → Effect → Effect
resume_by a g = if a.fits then emit_ack false (with_receiving a.half g) else end_with FailedOversize (with_receiving a.half g)

-- an end that was busy goes on
abbrev pub resume : Effect → Effect
resume g = resume_by (follow g.end.receiving) g

-- the first message leaves; an end that was busy, and no longer is, goes on
abbrev pub take_from : Receiving → Effect → Effect
take_from r g =
    if is_up g.end.phase && busy g.end.receiving && not (busy r) then resume (with_receiving r g)
    else with_receiving r g

abbrev pub take_first : Effect → Effect
take_first g =
    if nat_lt 0 (length (inbox g.end.receiving)) then take_from (without_first g.end.receiving) g else g

pub data Input : Type 0 where
  Write : List ℕ → Input  -- a message, where it is accepted
  Arrive : Transport → Input
  Tick : Input
  Close : Input
  Take : Input

abbrev pub step_at : ℕ → Effect → Input → Effect
step_at now g (Write message) = if is_ok (write_answer g.end message) then write now message g else g
step_at now g (Arrive t) = arrive now t g
step_at now g Tick = tick now g
step_at now g Close = close now g
step_at now g Take = take_first g

-- a moment above 2^62 milliseconds counts as 2^62
abbrev pub step : State → Input → ℕ → Effect
step s input now = step_at (min now (2 ^ 62)) (begin s) input
