-- An end that isn't Connecting never is again, and keeps its partner's pair.
use Rattle.std.specs.Prelude.{◌≡◌, ℕ, suc, ◌+◌, min, Bool, true, false, not, ◌&&◌, ◌||◌, nat_eq, nat_lt, nat_le, ◌-◌, if◌then◌else◌, [], length, Option, None, Some, is_ok, refl}
use Rattle.radio_base.specs.declared.modulus.TheConstants.{COUNT_MAX}
use Rattle.radio_base.specs.Modulus.{place_of}
use Rattle.circuit_l4.specs.declared.transport.Flags.{Flags}
use Rattle.circuit_l4.specs.declared.transport.Transport.{Transport}
use Rattle.circuit_l4.specs.declared.transport.Transport.TheVariants.{Request, Accept, Refuse, Disconnect, Disconnected, Info, InfoAck}
use Rattle.circuit_l4.specs.declared.piece.Piece.{Piece}
use Rattle.circuit_l4.specs.declared.phase.EndPhase.{EndPhase}
use Rattle.circuit_l4.specs.declared.phase.EndPhase.TheVariants.{Connecting, Up, Closing, Ended}
use Rattle.circuit_l4.specs.declared.notice.EndNotice.TheVariants.{FailedRetries, FailedOversize, FailedInactive}
use Rattle.circuit_l4.specs.declared.role.Role.{Role}
use Rattle.circuit_l4.specs.declared.role.Role.TheVariants.{Requester, Responder}
use Rattle.circuit_l4.specs.declared.owed.Owed.{Owed}
use Rattle.circuit_l4.specs.State.{Effect, State, begin, is_up, Appended, Receipt, busy, receive, without_first, inbox, follow, written}
use Rattle.circuit_l4.specs.Moves.{acknowledge, acknowledge_by, advance, again, answer, answer_all, wait, wait_if_out, on_state, hold, begin_to_close, end_with, fill, fill_count, finish, with_receiving, is_done, is_silent, on_info, on_info_ack, put_out, emit_owed, supply, emit_ack}
use Rattle.circuit_l4.specs.Table.{Input, Write, Arrive, Tick, Close, Take, arrive_in, ask_by, close_in_turn, due_in, expire, note_activity, is_due, may_close, unchoke, resume_by, retry, retry_in, step, step_at, take_from, write_answer, write}
use Rattle.std.proofs.Common.{sym, ap, ◌∙◌}
use Rattle.circuit_l4.specs.declared.pair.Pair.{Pair}
use Rattle.circuit_l4.proofs.Parts.{either, either_going}
use Rattle.circuit_table.specs.Standing.{Met, MetBy, is_connecting}
use Rattle.circuit_table.proofs.Choices.{on_due}

abbrev MetIn : Pair → Effect → Type 0
MetIn p g = Met p g.end

waits : (p : Pair) (t : State) (now : ℕ) (due : Option ℕ) → Met p t → Met p (elim due as (λ d. State) [ None ↦ wait now t | Some d ↦ t ])
waits p t now None h = h
waits p t now (Some d) h = h

fills : (p : Pair) (now : ℕ) (g : Effect) → MetIn p g → MetIn p (fill now g)
fills p now g h =
    let t : State = put_out (fill_count g.end) g.end in
    either (Met p) (nat_lt 0 (fill_count g.end)) (elim t.answer_due as (λ d. State) [ None ↦ wait now t | Some d ↦ t ]) t (waits p t now t.answer_due h) h

finishes : (p : Pair) (now : ℕ) (g : Effect) → MetIn p g → MetIn p (finish now g)
finishes p now g h = either_going (MetIn p) (is_done g.end) (begin_to_close now g) g (refl, h.1) h

supplies : (p : Pair) (now : ℕ) (g : Effect) → MetIn p g → MetIn p (supply now g)
supplies p now g h = finishes p now (fill now g) (fills p now g h)

if_out : (p : Pair) (t : State) (now : ℕ) → Met p t → Met p (wait_if_out now t)
if_out p t now h = on_due (Met p) (nat_lt t.sending.acked t.sending.sent) now t h h

advances : (p : Pair) (s : State) (now x : ℕ) → Met p s → Met p (advance now x s)
advances p s now x h =
    either (Met p) (nat_lt s.sending.acked x) (wait_if_out now (record s { sending = record s.sending { acked = x }; tries = 0 })) s
    (if_out p (record s { sending = record s.sending { acked = x }; tries = 0 }) now h) h

chokes : (p : Pair) (t : State) (now : ℕ) (choke : Bool) → Met p t → Met p (hold now choke t)
chokes p t now true h = h
chokes p t now false h = either (Met p) t.choked (wait_if_out now (record t { choked = false })) t (if_out p (record t { choked = false }) now h) h

acks : (p : Pair) (s : State) (now : ℕ) (flags : Flags) (o : Option ℕ) → Met p s → Met p (acknowledge_by now flags o s).end
acks p s now flags None h = h
acks p s now flags (Some x) h = chokes p (advance now x s) now flags.choke (advances p s now x h)

acknowledges : (p : Pair) (s : State) (now rx : ℕ) (flags : Flags) → Met p s → Met p (acknowledge now rx flags s).end
acknowledges p s now rx flags h = acks p s now flags (place_of 256 rx s.sending.acked (suc (s.sending.sent - s.sending.acked))) h

answers : (p : Pair) (now : ℕ) (nak : Bool) (owed : Owed) (g : Effect) → MetIn p g → MetIn p (answer_all now nak owed g)
answers p now nak owed g h =
    supplies p now (emit_owed owed (answer nak owed g)) (either_going (MetIn p) (nak || is_silent owed g.end) (emit_ack nak g) g h h)

info_met : (p : Pair) (s : State) (now tx rx : ℕ) (flags : Flags) (piece : Piece) → Met p s → MetIn p (on_info now tx rx flags piece (note_activity now (begin s)))
info_met p s now tx rx flags piece h =
    let base : State = record s { last_active = now } in
    let a = acknowledge now rx flags base in
    let c : Receipt = receive a.end.window tx piece a.end.receiving in
    let g : Effect = with_receiving c.half (record { end = a.end; outs = []; notes = [] }) in
    let k : Met p a.end = acknowledges p base now rx flags h in
    either_going (MetIn p) c.fits (answer_all now c.nak a.owed g) (end_with FailedOversize g) (answers p now c.nak a.owed g k) (refl, k.1)

ack_met : (p : Pair) (s : State) (now rx : ℕ) (flags : Flags) → Met p s → MetIn p (on_info_ack now rx flags (note_activity now (begin s)))
ack_met p s now rx flags h =
    let base : State = record s { last_active = now } in
    let a = acknowledge now rx flags base in
    supplies p now (emit_owed a.owed (record { end = a.end; outs = []; notes = [] })) (acknowledges p base now rx flags h)

not_connecting : (p : Pair) (s : State) (g : Effect) → s.phase ≡ Connecting → Met p s → MetIn p g
not_connecting p s g e h = let z : true ≡ false = sym (ap is_connecting e) ∙ h.0 in absurd (cc z)

arrives_met : (q : EndPhase) (p : Pair) (s : State) (now : ℕ) (t : Transport) → s.phase ≡ q → Met p s → MetIn p (arrive_in q now t (begin s))
arrives_met Connecting p s now t e h = not_connecting p s (arrive_in Connecting now t (begin s)) e h
arrives_met Up p s now (Info to tx rx flags text) e h = info_met p s now tx rx flags (record { text = text; more = flags.more }) h
arrives_met Up p s now (InfoAck to rx flags) e h = ack_met p s now rx flags h
arrives_met Up p s now (Disconnect to) e h = (refl, h.1)
arrives_met Up p s now (Disconnected to) e h = h
arrives_met Up p s now (Accept to own window) e h = h
arrives_met Up p s now (Refuse to) e h = h
arrives_met Up p s now (Request pair window user node) e h = h
arrives_met Closing p s now (Disconnect to) e h = (refl, h.1)
arrives_met Closing p s now (Disconnected to) e h = (refl, h.1)
arrives_met Closing p s now (Info to tx rx flags text) e h = h
arrives_met Closing p s now (InfoAck to rx flags) e h = h
arrives_met Closing p s now (Accept to own window) e h = h
arrives_met Closing p s now (Refuse to) e h = h
arrives_met Closing p s now (Request pair window user node) e h = h
arrives_met Ended p s now t e h = h

asks_met : (r : Role) (p : Pair) (g : Effect) → MetIn p g → MetIn p (ask_by r g)
asks_met (Requester user node) p g h = h
asks_met Responder p g h = h

retries_met : (q : EndPhase) (p : Pair) (g : Effect) → MetIn p g → MetIn p (retry_in q g)
retries_met Connecting p g h = asks_met g.end.role p g h
retries_met Up p g h = h
retries_met Closing p g h = h
retries_met Ended p g h = h

expires_met : (p : Pair) (s : State) (now : ℕ) → Met p s → MetIn p (expire now (begin s))
expires_met p s now h =
    either_going (MetIn p) (nat_eq s.tries s.config.retries) (end_with FailedRetries (begin s)) (retry now (begin s)) (refl, h.1)
    (retries_met s.phase p (begin s) h)

releases_met : (p : Pair) (s : State) (now : ℕ) → Met p s → MetIn p (unchoke now (begin s))
releases_met p s now h =
    let g : Effect = fill now (again (on_state (λ s. record s { choked = false; answer_due = None }) (begin s))) in
    if_out p g.end now (fills p now (again (on_state (λ s. record s { choked = false; answer_due = None }) (begin s))) h)

due_met : (q : EndPhase) (p : Pair) (s : State) (now : ℕ) → Met p s → MetIn p (due_in q now (begin s))
due_met Connecting p s now h = expires_met p s now h
due_met Up p s now h = either_going (MetIn p) s.choked (unchoke now (begin s)) (expire now (begin s)) (releases_met p s now h) (expires_met p s now h)
due_met Closing p s now h = expires_met p s now h
due_met Ended p s now h = h

steps_met : (p : Pair) (s : State) (i : Input) (now : ℕ) → Met p s → MetIn p (step_at now (begin s) i)
steps_met p s (Write m) now h =
    either_going (MetIn p) (is_ok (write_answer s m)) (write now m (begin s)) (begin s) (fills p now (on_state (λ s. record s { last_active = now; sending = written m s.sending }) (begin s)) h) h
steps_met p s (Arrive t) now h = arrives_met s.phase p s now t refl h
steps_met p s Tick now h =
    let g : Effect = begin s in
    let due : Effect = if is_due s.answer_due now then due_in s.phase now g else g in
    either_going (MetIn p) (is_up s.phase && nat_le (s.last_active + s.config.inactive) now) (end_with FailedInactive g) due (refl, h.1)
    (either_going (MetIn p) (is_due s.answer_due now) (due_in s.phase now g) g (due_met s.phase p s now h) h)
steps_met p s Close now h =
    either_going (MetIn p) (may_close s.phase) (close_in_turn now (begin s)) (begin s) (finishes p now (on_state (λ s. record s { closing = true }) (begin s)) h) h
steps_met p s Take now h =
    let g : Effect = begin s in
    let r = without_first s.receiving in
    let a : Appended = follow r in
    either_going (MetIn p) (nat_lt 0 (length (inbox s.receiving))) (take_from r g) g
    (either_going (MetIn p) (is_up s.phase && busy s.receiving && not (busy r)) (resume_by a g) (with_receiving r g)
    (either_going (MetIn p) a.fits (emit_ack false (with_receiving a.half g)) (end_with FailedOversize (with_receiving a.half g)) h (refl, h.1)) h) h

-- each step keeps that
pub step_met : (p : Pair) (s : State) (i : Input) (now : ℕ) → Met p s → Met p (step s i now).end
step_met p s i now h = steps_met p s i (min now COUNT_MAX) h

-- of an end that a request with a pair has opened; a requester's end may have met no one yet
pub asked_step : (o : Option Pair) (s : State) (i : Input) (now : ℕ) → MetBy o s → MetBy o (step s i now).end
asked_step None s i now h = tt
asked_step (Some p) s i now h = step_met p s i now h
