-- What an end has written grows by the writes that it accepts, and by nothing else.
use Rattle.std.proofs.Common.{◌≡◌, ◌∙◌, ℕ, suc, ◌+◌, ◌-◌, List, [], ◌∷◌, ◌++◌, Bool, true, false, Option, Some, None, refl, sym, ap, cond, append-nil}
use Rattle.std.specs.Prelude.{◌^◌, ◌&&◌, ◌||◌, not, min, nat_lt, nat_le, nat_eq, is_ok, length}
use Rattle.radio_base.specs.Modulus.{place_of}
use Rattle.circuit_l4.specs.declared.transport.Flags.{Flags}
use Rattle.circuit_l4.specs.declared.piece.Piece.{Piece}
use Rattle.circuit_l4.specs.declared.owed.Owed.{Owed}
use Rattle.circuit_l4.specs.declared.pair.Pair.{Pair}
use Rattle.circuit_l4.specs.declared.transport.Transport.{Transport}
use Rattle.circuit_l4.specs.declared.transport.Transport.TheVariants.{Request, Accept, Refuse, Disconnect, Disconnected, Info, InfoAck}
use Rattle.circuit_l4.specs.declared.phase.EndPhase.{EndPhase}
use Rattle.circuit_l4.specs.declared.phase.EndPhase.TheVariants.{Connecting, Up, Closing, Ended}
use Rattle.circuit_l4.specs.declared.notice.EndNotice.TheVariants.{Opened, FailedRetries, FailedOversize, FailedInactive}
use Rattle.circuit_l4.specs.declared.role.Role.{Role}
use Rattle.circuit_l4.specs.declared.role.Role.TheVariants.{Requester, Responder}
use Rattle.circuit_l4.specs.State.{State, Effect, begin, is_up, Appended, Receipt, Receiving, busy, inbox, follow, receive, without_first, total, written}
use Rattle.circuit_l4.specs.Moves.{emit, emit_ack, emit_infos, note, end_with, on_state, with_receiving, wait, wait_if_out, wait_from, put_out, count_out, fill, fill_with, fill_count, finish, is_done, begin_to_close, supply, again, advance, hold, acknowledge, acknowledge_by, acknowledge_at, emit_owed, answer, is_silent, answer_all, answer_text, on_info, on_info_ack}
use Rattle.circuit_l4.specs.Table.{Input, Write, Arrive, Tick, Close, Take, ask, ask_by, ask_once_more, common_window, arrive, arrive_in, arrive_up, arrive_closing, arrive_connecting, close, close_in_turn, come_up, due_in, expire, fall_due, fall_due_up, is_due, may_close, note_activity, unchoke, resume, resume_by, retry, retry_in, step, take_first, take_from, tick, write, write_answer}
use Rattle.circuit_l4.specs.Laws.{WroteByWrites, written_by}

-- what was written
abbrev W : State → List (List ℕ)
W s = s.sending.wrote

abbrev WE : Effect → List (List ℕ)
WE g = W g.end

either : (b : Bool) (s t u : State) → W s ≡ W u → W t ≡ W u → W (cond b s t) ≡ W u
either true s t u e f = e
either false s t u e f = f

either_effect : (b : Bool) (g h k : Effect) → WE g ≡ WE k → WE h ≡ WE k → WE (cond b g h) ≡ WE k
either_effect true g h k e f = e
either_effect false g h k e f = f

if_out : (now : ℕ) (s : State) → W (wait_if_out now s) ≡ W s
if_out now s = either (nat_lt s.sending.acked s.sending.sent) (wait now s) (record s { answer_due = None }) s refl refl

from_case : (now : ℕ) (b : Bool) (d : Option ℕ) (s : State) → W (cond b (elim d as (λ d. State) [ None ↦ wait now s | Some d ↦ s ]) s) ≡ W s
from_case now true None s = refl
from_case now true (Some d) s = refl
from_case now false d s = refl

counted : (now many : ℕ) (s : State) → W (count_out now many s) ≡ W s
counted now many s = from_case now (nat_lt 0 many) s.answer_due (put_out many s)

fills : (now : ℕ) (g : Effect) → WE (fill now g) ≡ WE g
fills now g = counted now (fill_count g.end) g.end

finishes : (now : ℕ) (g : Effect) → WE (finish now g) ≡ WE g
finishes now g = either_effect (is_done g.end) (begin_to_close now g) g g refl refl

supplies : (now : ℕ) (g : Effect) → WE (supply now g) ≡ WE g
supplies now g = finishes now (fill now g) ∙ fills now g

advances : (now x : ℕ) (s : State) → W (advance now x s) ≡ W s
advances now x s = either (nat_lt s.sending.acked x) (wait_if_out now (record s { sending = record s.sending { acked = x }; tries = 0 })) s s
    (if_out now (record s { sending = record s.sending { acked = x }; tries = 0 })) refl

holds : (now : ℕ) (choke : Bool) (s : State) → W (hold now choke s) ≡ W s
holds now choke s = either choke (record s { choked = true; answer_due = Some (now + s.config.busy) }) (cond s.choked (wait_if_out now (record s { choked = false })) s) s refl
    (either s.choked (wait_if_out now (record s { choked = false })) s s (if_out now (record s { choked = false })) refl)

acknowledges_by : (now : ℕ) (flags : Flags) (o : Option ℕ) (s : State) → W (acknowledge_by now flags o s).end ≡ W s
acknowledges_by now flags None s = refl
acknowledges_by now flags (Some x) s = holds now flags.choke (advance now x s) ∙ advances now x s

acknowledges : (now rx : ℕ) (flags : Flags) (s : State) → W (acknowledge now rx flags s).end ≡ W s
acknowledges now rx flags s = acknowledges_by now flags (place_of 256 rx s.sending.acked (suc (s.sending.sent - s.sending.acked))) s

answers : (nak : Bool) (owed : Owed) (g : Effect) → WE (answer nak owed g) ≡ WE g
answers nak owed g = either_effect (nak || is_silent owed g.end) (emit_ack nak g) g g refl refl

hears_ack : (now rx : ℕ) (flags : Flags) (g : Effect) → WE (on_info_ack now rx flags g) ≡ WE g
hears_ack now rx flags g =
    let a = acknowledge now rx flags g.end in
    supplies now (emit_owed a.owed (record g { end = a.end })) ∙ acknowledges now rx flags g.end

answers_all : (now : ℕ) (nak : Bool) (owed : Owed) (g : Effect) → WE (answer_all now nak owed g) ≡ WE g
answers_all now nak owed g = supplies now (emit_owed owed (answer nak owed g)) ∙ answers nak owed g

hears_info : (now tx rx : ℕ) (flags : Flags) (piece : Piece) (g : Effect) → WE (on_info now tx rx flags piece g) ≡ WE g
hears_info now tx rx flags piece g =
    let a = acknowledge now rx flags g.end in
    let c : Receipt = receive a.end.window tx piece a.end.receiving in
    let h : Effect = record g { end = a.end } in
    either_effect c.fits (answer_all now c.nak a.owed (with_receiving c.half h)) (end_with FailedOversize (with_receiving c.half h)) h
    (answers_all now c.nak a.owed (with_receiving c.half h)) refl
    ∙ acknowledges now rx flags g.end

comes_up : (now : ℕ) (to own : Pair) (window : ℕ) (g : Effect) → WE (arrive_connecting now (Accept to own window) g) ≡ WE g
comes_up now to own window g = finishes now (note (Opened (common_window g.end.config.window window)) (on_state (come_up now own window) g))

connecting : (now : ℕ) (t : Transport) (g : Effect) → WE (arrive_connecting now t g) ≡ WE g
connecting now (Accept to own window) g = comes_up now to own window g
connecting now (Refuse to) g = refl
connecting now (Request a b c d) g = refl
connecting now (Disconnect to) g = refl
connecting now (Disconnected to) g = refl
connecting now (Info to tx rx flags text) g = refl
connecting now (InfoAck to rx flags) g = refl

up : (now : ℕ) (t : Transport) (g : Effect) → WE (arrive_up now t g) ≡ WE g
up now (Info to tx rx flags text) g = hears_info now tx rx flags (record { text = text; more = flags.more }) (note_activity now g)
up now (InfoAck to rx flags) g = hears_ack now rx flags (note_activity now g)
up now (Disconnect to) g = refl
up now (Accept to own window) g = refl
up now (Refuse to) g = refl
up now (Request a b c d) g = refl
up now (Disconnected to) g = refl

closing : (t : Transport) (g : Effect) → WE (arrive_closing t g) ≡ WE g
closing (Disconnect to) g = refl
closing (Disconnected to) g = refl
closing (Accept to own window) g = refl
closing (Refuse to) g = refl
closing (Request a b c d) g = refl
closing (Info to tx rx flags text) g = refl
closing (InfoAck to rx flags) g = refl

arrives : (p : EndPhase) (now : ℕ) (t : Transport) (g : Effect) → WE (arrive_in p now t g) ≡ WE g
arrives Connecting now t g = connecting now t g
arrives Up now t g = up now t g
arrives Closing now t g = closing t g
arrives Ended now t g = refl

asks : (r : Role) (g : Effect) → WE (ask_by r g) ≡ WE g
asks (Requester user node) g = refl
asks Responder g = refl

retries : (p : EndPhase) (g : Effect) → WE (retry_in p g) ≡ WE g
retries Connecting g = asks g.end.role g
retries Up g = refl
retries Closing g = refl
retries Ended g = refl

expires : (now : ℕ) (g : Effect) → WE (expire now g) ≡ WE g
expires now g = either_effect (nat_eq g.end.tries g.end.config.retries) (end_with FailedRetries g) (retry now g) g refl (retries g.end.phase g)

releases : (now : ℕ) (g : Effect) → WE (unchoke now g) ≡ WE g
releases now g =
    let h : Effect = again (on_state (λ s. record s { choked = false; answer_due = None }) g) in
    if_out now (fill now h).end ∙ fills now h

due_up : (now : ℕ) (g : Effect) → WE (fall_due_up now g) ≡ WE g
due_up now g = either_effect g.end.choked (unchoke now g) (expire now g) g (releases now g) (expires now g)

due : (p : EndPhase) (now : ℕ) (g : Effect) → WE (due_in p now g) ≡ WE g
due Connecting now g = expires now g
due Up now g = due_up now g
due Closing now g = expires now g
due Ended now g = refl

ticks : (now : ℕ) (g : Effect) → WE (tick now g) ≡ WE g
ticks now g = either_effect (is_up g.end.phase && nat_le (g.end.last_active + g.end.config.inactive) now) (end_with FailedInactive g) (cond (is_due g.end.answer_due now) (fall_due now g) g) g refl
    (either_effect (is_due g.end.answer_due now) (fall_due now g) g g (due g.end.phase now g) refl)

closes : (now : ℕ) (g : Effect) → WE (close now g) ≡ WE g
closes now g = either_effect (may_close g.end.phase) (close_in_turn now g) g g (finishes now (on_state (λ s. record s { closing = true }) g)) refl

resumes : (a : Appended) (g : Effect) → WE (resume_by a g) ≡ WE g
resumes a g = either_effect a.fits (emit_ack false (with_receiving a.half g)) (end_with FailedOversize (with_receiving a.half g)) g refl refl

takes_from : (r : Receiving) (g : Effect) → WE (take_from r g) ≡ WE g
takes_from r g = either_effect (is_up g.end.phase && busy g.end.receiving && not (busy r)) (resume (with_receiving r g)) (with_receiving r g) g (resumes (follow r) (with_receiving r g)) refl

takes : (g : Effect) → WE (take_first g) ≡ WE g
takes g = either_effect (nat_lt 0 (length (inbox g.end.receiving))) (take_from (without_first g.end.receiving) g) g g (takes_from (without_first g.end.receiving) g) refl

written_case : (now : ℕ) (message : List ℕ) (s : State) (b : Bool) → WE (cond b (write now message (begin s)) (begin s)) ≡ s.sending.wrote ++ cond b (message ∷ []) []
written_case now message s true = fills now (on_state (λ s. record s { last_active = now; sending = written message s.sending }) (begin s))
written_case now message s false = sym (append-nil s.sending.wrote)

none_more : (s : State) (g : Effect) → WE g ≡ W s → WE g ≡ s.sending.wrote ++ []
none_more s g e = e ∙ sym (append-nil s.sending.wrote)

pub wrote_by_writes : WroteByWrites
wrote_by_writes s (Write message) now = written_case (min now (2 ^ 62)) message s (is_ok (write_answer s message))
wrote_by_writes s (Arrive t) now = none_more s (arrive (min now (2 ^ 62)) t (begin s)) (arrives s.phase (min now (2 ^ 62)) t (begin s))
wrote_by_writes s Tick now = none_more s (tick (min now (2 ^ 62)) (begin s)) (ticks (min now (2 ^ 62)) (begin s))
wrote_by_writes s Close now = none_more s (close (min now (2 ^ 62)) (begin s)) (closes (min now (2 ^ 62)) (begin s))
wrote_by_writes s Take now = none_more s (take_first (begin s)) (takes (begin s))
