-- A step by which a circuit fails puts out nothing.
use Rattle.std.proofs.Common.{◌≡◌, ℕ, ◌+◌, ◌<◌, ◌⊎◌, ⊎_elim, min, Bool, true, false, ◌&&◌, ◌||◌, not, nat_eq, nat_le, nat_lt, if◌then◌else◌, is_ok, List, [], ◌∷◌, length, Contains, refl, subst, arith}
use Rattle.std.proofs.lemmas.List.Elements as elements
use Rattle.radio_base.specs.declared.modulus.TheConstants.{COUNT_MAX}
use Rattle.circuit_l4.specs.declared.transport.Flags.{Flags}
use Rattle.circuit_l4.specs.declared.pair.Pair.{Pair}
use Rattle.circuit_l4.specs.declared.transport.Transport.{Transport}
use Rattle.circuit_l4.specs.declared.transport.Transport.TheVariants.{Accept, Refuse, Disconnect, Disconnected, Info, InfoAck}
use Rattle.circuit_l4.specs.declared.piece.Piece.{Piece}
use Rattle.circuit_l4.specs.declared.phase.EndPhase.{EndPhase}
use Rattle.circuit_l4.specs.declared.phase.EndPhase.TheVariants.{Connecting, Up, Closing, Ended}
use Rattle.circuit_l4.specs.declared.notice.EndNotice.{EndNotice}
use Rattle.circuit_l4.specs.declared.notice.EndNotice.TheVariants.{Opened, ClosedByPartner, FailedRetries, FailedOversize, FailedInactive}
use Rattle.circuit_l4.specs.declared.role.Role.{Role}
use Rattle.circuit_l4.specs.declared.role.Role.TheVariants.{Requester, Responder}
use Rattle.circuit_l4.specs.declared.owed.Owed.{Owed}
use Rattle.circuit_l4.specs.State.{Effect, State, begin, is_up, Appended, Receipt, busy, receive, without_first, inbox, follow}
use Rattle.circuit_l4.specs.Moves.{acknowledge, answer, answer_all, on_state, begin_to_close, end_with, fill, fill_count, finish, with_receiving, is_done, note, on_info, on_info_ack, emit_owed, emit_ack}
use Rattle.circuit_l4.specs.Table.{Input, Write, Arrive, Tick, Close, Take, on_accept, common_window, arrive_in, ask_by, close, close_in_turn, due_in, expire, note_activity, is_due, may_close, come_up, unchoke, resume_by, retry, retry_in, step_at, take_first, take_from, tick, write_answer, write}
use Rattle.circuit_l4.specs.Laws.{FailingPutsOutNothing}
use Rattle.circuit_l4.proofs.Parts.{either_going}

abbrev Fails : List EndNotice → Type 0
Fails notes = Contains notes FailedRetries ⊎ Contains notes FailedOversize ⊎ Contains notes FailedInactive

abbrev Silent : Effect → Type 0
Silent g = Fails g.notes → g.outs ≡ []

-- ---- notices ----
none : (n : EndNotice) → Contains [] n → ⊥
none n w = let below : w.0 < 0 = w.1 in omega arith

-- no notice
unnoted : (g : Effect) → g.notes ≡ [] → Silent g
unnoted g e w = let f = subst Fails e w in absurd (⊎_elim (none FailedRetries) (⊎_elim (none FailedOversize) (none FailedInactive)) f)

-- one notice, and of no failure
only : (n m : EndNotice) → Contains (n ∷ []) m → n ≡ m
only n m w = ⊎_elim (λ v. absurd (none m v)) (λ e. e) (elements.Contains-push_cases [] n m w)

noted : (n : EndNotice) (g : Effect) → g.notes ≡ n ∷ [] → (n ≡ FailedRetries → ⊥) → (n ≡ FailedOversize → ⊥) → (n ≡ FailedInactive → ⊥) → Silent g
noted n g e a b c w =
    let f = subst Fails e w in
    absurd (⊎_elim (λ v. a (only n FailedRetries v)) (⊎_elim (λ v. b (only n FailedOversize v)) (λ v. c (only n FailedInactive v))) f)

-- ---- the parts of a step ----
-- a finish gives no notice
finished : (now : ℕ) (g : Effect) (notes : List EndNotice) → g.notes ≡ notes → (finish now g).notes ≡ notes
finished now g notes e = either_going (λ h. h.notes ≡ notes) (is_done g.end) (begin_to_close now g) g e e

texts : (now : ℕ) (owed : Owed) (c : Receipt) (fits : Bool) (g : Effect) → g.outs ≡ [] → g.notes ≡ [] →
    Silent (if fits then answer_all now c.nak owed (with_receiving c.half g) else end_with FailedOversize (with_receiving c.half g))
texts now owed c true g empty e =
    let h = with_receiving c.half g in
    let a = answer c.nak owed h in
    let same : a.notes ≡ [] = either_going (λ x. x.notes ≡ []) (c.nak || nat_eq (owed.many + fill_count h.end) 0) (emit_ack c.nak h) h e e in
    unnoted (answer_all now c.nak owed h) (finished now (fill now (emit_owed owed a)) [] same)
texts now owed c false g empty e = λ w. empty

info_comes : (now tx rx : ℕ) (flags : Flags) (piece : Piece) (s : State) → Silent (on_info now tx rx flags piece (note_activity now (begin s)))
info_comes now tx rx flags piece s =
    let g = note_activity now (begin s) in
    let a = acknowledge now rx flags g.end in
    let c = receive a.end.window tx piece a.end.receiving in
    texts now a.owed c c.fits (record g { end = a.end }) refl refl

ack_comes : (now rx : ℕ) (flags : Flags) (s : State) → Silent (on_info_ack now rx flags (note_activity now (begin s)))
ack_comes now rx flags s =
    let g = note_activity now (begin s) in
    let a = acknowledge now rx flags g.end in
    unnoted (on_info_ack now rx flags g) (finished now (fill now (emit_owed a.owed (record g { end = a.end }))) [] refl)

accept_comes : (now : ℕ) (to : Pair) (window : ℕ) (s : State) → Silent (on_accept now to window (begin s))
accept_comes now to window s =
    let n = Opened (common_window s.config.window window) in
    let g = note n (on_state (come_up now to window) (begin s)) in
    noted n (finish now g) (finished now g (n ∷ []) refl) (λ e. absurd (cc e)) (λ e. absurd (cc e)) (λ e. absurd (cc e))

partner_closes : (g : Effect) → g.notes ≡ ClosedByPartner ∷ [] → Silent g
partner_closes g e = noted ClosedByPartner g e (λ e. absurd (cc e)) (λ e. absurd (cc e)) (λ e. absurd (cc e))

arrives : (p : EndPhase) (now : ℕ) (t : Transport) (s : State) → Silent (arrive_in p now t (begin s))
arrives Connecting now (Accept to own window) s = accept_comes now own window s
arrives Connecting now (Refuse to) s = λ w. refl
arrives Connecting now _ s = λ w. refl
arrives Up now (Info to tx rx flags text) s = info_comes now tx rx flags (record { text = text; more = flags.more }) s
arrives Up now (InfoAck to rx flags) s = ack_comes now rx flags s
arrives Up now (Disconnect to) s = partner_closes (arrive_in Up now (Disconnect to) (begin s)) refl
arrives Up now _ s = λ w. refl
arrives Closing now (Disconnect to) s = partner_closes (arrive_in Closing now (Disconnect to) (begin s)) refl
arrives Closing now (Disconnected to) s = λ w. refl
arrives Closing now _ s = λ w. refl
arrives Ended now t s = λ w. refl

ask : (r : Role) (g : Effect) → g.notes ≡ [] → (ask_by r g).notes ≡ []
ask (Requester user node) g e = e
ask Responder g e = e

tried_again : (p : EndPhase) (g : Effect) → g.notes ≡ [] → (retry_in p g).notes ≡ []
tried_again Connecting g e = ask g.end.role g e
tried_again Up g e = e
tried_again Closing g e = e
tried_again Ended g e = e

expires : (now : ℕ) (s : State) → Silent (expire now (begin s))
expires now s =
    let g = begin s in
    either_going Silent (nat_eq s.tries s.config.retries) (end_with FailedRetries g) (retry now g)
    (λ w. refl) (unnoted (retry now g) (tried_again s.phase g refl))

falls_due : (p : EndPhase) (now : ℕ) (s : State) → Silent (due_in p now (begin s))
falls_due Connecting now s = expires now s
falls_due Up now s = either_going Silent s.choked (unchoke now (begin s)) (expire now (begin s)) (unnoted (unchoke now (begin s)) refl) (expires now s)
falls_due Closing now s = expires now s
falls_due Ended now s = λ w. refl

ticks : (now : ℕ) (s : State) → Silent (tick now (begin s))
ticks now s =
    let g = begin s in
    let due : Effect = if is_due s.answer_due now then due_in s.phase now g else g in
    either_going Silent (is_up s.phase && nat_le (s.last_active + s.config.inactive) now) (end_with FailedInactive g) due
    (λ w. refl) (either_going Silent (is_due s.answer_due now) (due_in s.phase now g) g (falls_due s.phase now s) (λ w. refl))

closes : (now : ℕ) (s : State) → Silent (close now (begin s))
closes now s =
    let g = close_in_turn now (begin s) in
    either_going Silent (may_close s.phase) g (begin s)
    (unnoted g (finished now (on_state (λ s. record s { closing = true }) (begin s)) [] refl)) (λ w. refl)

resumes : (a : Appended) (fits : Bool) (s : State) → Silent (resume_by (record { half = a.half; fits = fits }) (begin s))
resumes a true s = unnoted (emit_ack false (with_receiving a.half (begin s))) refl
resumes a false s = λ w. refl

takes : (s : State) → Silent (take_first (begin s))
takes s =
    let g = begin s in
    let r = without_first s.receiving in
    let a = follow r in
    either_going Silent (nat_lt 0 (length (inbox s.receiving))) (take_from r g) g
    (either_going Silent (is_up s.phase && busy s.receiving && not (busy r)) (resume_by a g) (with_receiving r g) (resumes a a.fits s) (λ w. refl)) (λ w. refl)

steps : (now : ℕ) (s : State) (i : Input) → Silent (step_at now (begin s) i)
steps now s (Write message) =
    let g = write now message (begin s) in
    either_going Silent (is_ok (write_answer s message)) g (begin s) (unnoted g refl) (λ w. refl)
steps now s (Arrive t) = arrives s.phase now t s
steps now s Tick = ticks now s
steps now s Close = closes now s
steps now s Take = takes s

pub failing_puts_out_nothing : FailingPutsOutNothing
failing_puts_out_nothing s input now = steps (min now COUNT_MAX) s input
