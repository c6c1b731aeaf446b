-- A walk over the steps of an end: what of it lasts through each of them.
use Rattle.std.specs.Prelude.{◌≡◌, ℕ, suc, ◌+◌, min, Bool, true, false, not, ◌&&◌, ◌||◌, nat_eq, nat_lt, nat_le, ◌-◌, ◌^◌, zero, if◌then◌else◌, [], List, length, Option, None, Some, is_ok, refl}
use Rattle.std.proofs.Common.{◌∙◌, subst, sym}
use Rattle.radio_base.specs.declared.modulus.TheConstants.{COUNT_MAX}
use Rattle.radio_base.specs.Modulus.{place_of}
use Rattle.circuit_l4.specs.declared.transport.Flags.{Flags}
use Rattle.circuit_l4.specs.declared.transport.Transport.{Transport}
use Rattle.circuit_l4.specs.declared.transport.Transport.TheVariants.{Request, Accept, Refuse, Disconnect, Disconnected, Info, InfoAck}
use Rattle.circuit_l4.specs.declared.pair.Pair.{Pair}
use Rattle.circuit_l4.specs.declared.piece.Piece.{Piece}
use Rattle.circuit_l4.specs.declared.phase.EndPhase.{EndPhase}
use Rattle.circuit_l4.specs.declared.phase.EndPhase.TheVariants.{Connecting, Up, Closing, Ended}
use Rattle.circuit_l4.specs.declared.notice.EndNotice.TheVariants.{FailedRetries, FailedOversize, FailedInactive, Opened}
use Rattle.circuit_l4.specs.declared.role.Role.{Role}
use Rattle.circuit_l4.specs.declared.role.Role.TheVariants.{Requester, Responder}
use Rattle.circuit_l4.specs.declared.owed.Owed.{Owed}
use Rattle.circuit_l4.specs.State.{Effect, State, begin, is_up, Appended, Receipt, Receiving, append, appended, busy, receive, receive_at, receive_early, receive_next, without_first, ignored, inbox, follow_by, follow, next_early, written}
use Rattle.circuit_l4.specs.Moves.{acknowledge, acknowledge_by, advance, again, answer, answer_all, wait, wait_if_out, on_state, hold, begin_to_close, end_with, fill, fill_count, finish, with_receiving, note, is_done, is_silent, on_info, on_info_ack, put_out, emit_owed, supply, emit_ack}
use Rattle.circuit_l4.specs.Table.{common_window, come_up, Input, Write, Arrive, Tick, Close, Take, arrive_in, ask_by, close_in_turn, due_in, expire, note_activity, is_due, may_close, unchoke, resume_by, retry, retry_in, step, step_at, take_from, write_answer, write}
use Rattle.circuit_reassembly.specs.Fragments.{Answer, More, Whole, Too_long, gather_step}
use Rattle.circuit_l4.proofs.Parts.{either, either_going}
use Rattle.circuit_table.proofs.Choices.{Named, names, on_due}

-- of an end: its phase, who it is, how many messages were taken at it, and how many fragments it has sent
pub record Core : Type 0 where
  pub phase : EndPhase
  pub named : Named
  pub taken : ℕ
  pub sent : ℕ

abbrev pub core : State → Core
core s = record { phase = s.phase; named = names s; taken = s.receiving.taken; sent = s.sending.sent }

-- ---- what comes leaves how many messages were taken

appended_taken : (r : Receiving) (held : List ℕ) (a : Answer) → (appended r (held, a)).half.taken ≡ r.taken
appended_taken r held More = refl
appended_taken r held (Whole m) = refl
appended_taken r held Too_long = refl

append_taken : (text : List ℕ) (more : Bool) (r : Receiving) → (append text more r).half.taken ≡ r.taken
append_taken text more r = let x = gather_step r.gathered text more in appended_taken r x.0 x.1

follows_taken : (k : ℕ) (r : Receiving) (a : Appended) → a.half.taken ≡ r.taken → ((q : Receiving) → (follow_by k q).half.taken ≡ q.taken) → (b : Bool) → (if b then follow_by k a.half else a).half.taken ≡ r.taken
follows_taken k r a e more true = more a.half ∙ e
follows_taken k r a e more false = e

next_taken : (k : ℕ) (r : Receiving) (o : Option Piece) → ((q : Receiving) → (follow_by k q).half.taken ≡ q.taken)
    → (elim o as (λ x. Appended) [
      | None ↦ record { half = r; fits = true }
      | Some p ↦ (let a = append p.text.items p.more r in if a.fits then follow_by k a.half else a)
    ]).half.taken ≡ r.taken
next_taken k r None more = refl
next_taken k r (Some p) more = let a = append p.text.items p.more r in follows_taken k r a (append_taken p.text.items p.more r) more a.fits

pub move_on_taken : (k : ℕ) (r : Receiving) → (follow_by k r).half.taken ≡ r.taken
move_on_taken zero r = refl
move_on_taken (suc k) r = next_taken k r (next_early r) (move_on_taken k)

came_next_taken : (piece : Piece) (r : Receiving) → (receive_next piece r).half.taken ≡ r.taken
came_next_taken piece r =
    let a = append piece.text.items piece.more r in
    follows_taken (length a.half.early) r a (append_taken piece.text.items piece.more r) (move_on_taken (length a.half.early)) a.fits

either_came : (P : Receipt → Type 0) (b : Bool) (c d : Receipt) → P c → P d → P (if b then c else d)
either_came P true c d p q = p
either_came P false c d p q = q

came_place : (piece : Piece) (r : Receiving) (o : Option ℕ) → (elim o as (λ x. Receipt) [ None ↦ ignored r | Some n ↦ receive_at n piece r ]).half.taken ≡ r.taken
came_place piece r None = refl
came_place piece r (Some n) = either_came (λ c. c.half.taken ≡ r.taken) (nat_lt r.got n) (receive_early n piece r) (receive_next piece r) refl (came_next_taken piece r)

came_taken : (window tx : ℕ) (piece : Piece) (r : Receiving) → (receive window tx piece r).half.taken ≡ r.taken
came_taken window tx piece r =
    let o = place_of 256 tx r.got window in
    either_came (λ c. c.half.taken ≡ r.taken) (busy r || nat_le (2 ^ 62) r.got) (ignored r) (elim o as (λ x. Receipt) [ None ↦ ignored r | Some n ↦ receive_at n piece r ])
    refl (came_place piece r o)

-- ---- what lasts, where it lasts as more is sent

module _ (R : Core → Core → Type 0) (self : (c : Core) → R c c) (further : (c d : Core) (k : ℕ) → R c d → R c (record d { sent = d.sent + k })) where
  abbrev Same : State → State → Type 0
  Same s t = R (core s) (core t)

  abbrev SameIn : State → Effect → Type 0
  SameIn s g = Same s g.end

  waits : (s t : State) (now : ℕ) (due : Option ℕ) → Same s t → Same s (elim due as (λ d. State) [ None ↦ wait now t | Some d ↦ t ])
  waits s t now None h = h
  waits s t now (Some d) h = h

  pub fills : (s : State) (now : ℕ) (g : Effect) → SameIn s g → SameIn s (fill now g)
  fills s now g h =
      let t : State = put_out (fill_count g.end) g.end in
      let sent : Same s t = further (core s) (core g.end) (fill_count g.end) h in
      either (Same s) (nat_lt 0 (fill_count g.end)) (elim t.answer_due as (λ d. State) [ None ↦ wait now t | Some d ↦ t ]) t (waits s t now t.answer_due sent) sent

  pub if_out : (s t : State) (now : ℕ) → Same s t → Same s (wait_if_out now t)
  if_out s t now h = on_due (Same s) (nat_lt t.sending.acked t.sending.sent) now t h h

  advances : (s : State) (now x : ℕ) → Same s (advance now x s)
  advances s now x =
      either (Same s) (nat_lt s.sending.acked x) (wait_if_out now (record s { sending = record s.sending { acked = x }; tries = 0 })) s
      (if_out s (record s { sending = record s.sending { acked = x }; tries = 0 }) now (self (core s))) (self (core s))

  chokes : (s t : State) (now : ℕ) (choke : Bool) → Same s t → Same s (hold now choke t)
  chokes s t now true h = h
  chokes s t now false h = either (Same s) t.choked (wait_if_out now (record t { choked = false })) t (if_out s (record t { choked = false }) now h) h

  acks : (s : State) (now : ℕ) (flags : Flags) (o : Option ℕ) → Same s (acknowledge_by now flags o s).end
  acks s now flags None = self (core s)
  acks s now flags (Some x) = chokes s (advance now x s) now flags.choke (advances s now x)

  pub acknowledges : (s : State) (now rx : ℕ) (flags : Flags) → Same s (acknowledge now rx flags s).end
  acknowledges s now rx flags = acks s now flags (place_of 256 rx s.sending.acked (suc (s.sending.sent - s.sending.acked)))

  -- and through each phase, an Accept and a take, where these are allowed
  module _ (phased : (c d : Core) (p : EndPhase) → R c d → R c (record d { phase = p })) (Allowed : Input → Type 0)
      (accepts : (s : State) (to own : Pair) (window now : ℕ) → Allowed (Arrive (Accept to own window)) → R (core s) (core (come_up now own window s)))
      (takes : (s : State) (r : Receiving) → Allowed Take → R (core s) (core (record s { receiving = r }))) where
    finishes : (s : State) (now : ℕ) (g : Effect) → SameIn s g → SameIn s (finish now g)
    finishes s now g h = either_going (SameIn s) (is_done g.end) (begin_to_close now g) g (phased (core s) (core g.end) Closing h) h

    supplies : (s : State) (now : ℕ) (g : Effect) → SameIn s g → SameIn s (supply now g)
    supplies s now g h = finishes s now (fill now g) (fills s now g h)

    answers : (s : State) (now : ℕ) (nak : Bool) (owed : Owed) (g : Effect) → SameIn s g → SameIn s (answer_all now nak owed g)
    answers s now nak owed g h =
        supplies s now (emit_owed owed (answer nak owed g)) (either_going (SameIn s) (nak || is_silent owed g.end) (emit_ack nak g) g h h)

    info_same : (s : State) (now tx rx : ℕ) (flags : Flags) (piece : Piece) → SameIn s (on_info now tx rx flags piece (note_activity now (begin s)))
    info_same s now tx rx flags piece =
        let base : State = record s { last_active = now } in
        let a = acknowledge now rx flags base in
        let c : Receipt = receive a.end.window tx piece a.end.receiving in
        let g : Effect = with_receiving c.half (record { end = a.end; outs = []; notes = [] }) in
        let got : SameIn s g = subst (λ n. R (core s) (record (core a.end) { taken = n })) (sym (came_taken a.end.window tx piece a.end.receiving)) (acknowledges base now rx flags) in
        either_going (SameIn s) c.fits (answer_all now c.nak a.owed g) (end_with FailedOversize g) (answers s now c.nak a.owed g got) (phased (core s) (core g.end) Ended got)

    ack_same : (s : State) (now rx : ℕ) (flags : Flags) → SameIn s (on_info_ack now rx flags (note_activity now (begin s)))
    ack_same s now rx flags =
        let base : State = record s { last_active = now } in
        let a = acknowledge now rx flags base in
        supplies s now (emit_owed a.owed (record { end = a.end; outs = []; notes = [] })) (acknowledges base now rx flags)

    -- it has ended
    ends : (s : State) → R (core s) (record (core s) { phase = Ended })
    ends s = phased (core s) (core s) Ended (self (core s))

    arrives_same : (p : EndPhase) (s : State) (now : ℕ) (t : Transport) → Allowed (Arrive t) → SameIn s (arrive_in p now t (begin s))
    arrives_same Connecting s now (Accept to own window) allowed = finishes s now (note (Opened (common_window s.config.window window)) (on_state (come_up now own window) (begin s))) (accepts s to own window now allowed)
    arrives_same Connecting s now (Refuse to) allowed = ends s
    arrives_same Connecting s now (Request pair window user node) allowed = self (core s)
    arrives_same Connecting s now (Disconnect to) allowed = self (core s)
    arrives_same Connecting s now (Disconnected to) allowed = self (core s)
    arrives_same Connecting s now (Info to tx rx flags text) allowed = self (core s)
    arrives_same Connecting s now (InfoAck to rx flags) allowed = self (core s)
    arrives_same Up s now (Info to tx rx flags text) allowed = info_same s now tx rx flags (record { text = text; more = flags.more })
    arrives_same Up s now (InfoAck to rx flags) allowed = ack_same s now rx flags
    arrives_same Up s now (Disconnect to) allowed = ends s
    arrives_same Up s now (Disconnected to) allowed = self (core s)
    arrives_same Up s now (Accept to own window) allowed = self (core s)
    arrives_same Up s now (Refuse to) allowed = self (core s)
    arrives_same Up s now (Request pair window user node) allowed = self (core s)
    arrives_same Closing s now (Disconnect to) allowed = ends s
    arrives_same Closing s now (Disconnected to) allowed = ends s
    arrives_same Closing s now (Info to tx rx flags text) allowed = self (core s)
    arrives_same Closing s now (InfoAck to rx flags) allowed = self (core s)
    arrives_same Closing s now (Accept to own window) allowed = self (core s)
    arrives_same Closing s now (Refuse to) allowed = self (core s)
    arrives_same Closing s now (Request pair window user node) allowed = self (core s)
    arrives_same Ended s now t allowed = self (core s)

    asks_same : (r : Role) (s : State) (g : Effect) → SameIn s g → SameIn s (ask_by r g)
    asks_same (Requester user node) s g h = h
    asks_same Responder s g h = h

    retries_same : (p : EndPhase) (s : State) (g : Effect) → SameIn s g → SameIn s (retry_in p g)
    retries_same Connecting s g h = asks_same g.end.role s g h
    retries_same Up s g h = h
    retries_same Closing s g h = h
    retries_same Ended s g h = h

    expires_same : (s : State) (now : ℕ) → SameIn s (expire now (begin s))
    expires_same s now =
        either_going (SameIn s) (nat_eq s.tries s.config.retries) (end_with FailedRetries (begin s)) (retry now (begin s)) (ends s)
        (retries_same s.phase s (begin s) (self (core s)))

    releases_same : (s : State) (now : ℕ) → SameIn s (unchoke now (begin s))
    releases_same s now =
        let g : Effect = fill now (again (on_state (λ s. record s { choked = false; answer_due = None }) (begin s))) in
        if_out s g.end now (fills s now (again (on_state (λ s. record s { choked = false; answer_due = None }) (begin s))) (self (core s)))

    due_same : (p : EndPhase) (s : State) (now : ℕ) → SameIn s (due_in p now (begin s))
    due_same Connecting s now = expires_same s now
    due_same Up s now = either_going (SameIn s) s.choked (unchoke now (begin s)) (expire now (begin s)) (releases_same s now) (expires_same s now)
    due_same Closing s now = expires_same s now
    due_same Ended s now = (self (core s))

    steps_same : (s : State) (i : Input) (now : ℕ) → Allowed i → SameIn s (step_at now (begin s) i)
    steps_same s (Write m) now allowed =
        either_going (SameIn s) (is_ok (write_answer s m)) (write now m (begin s)) (begin s) (fills s now (on_state (λ s. record s { last_active = now; sending = written m s.sending }) (begin s)) (self (core s))) (self (core s))
    steps_same s (Arrive t) now allowed = arrives_same s.phase s now t allowed
    steps_same s Tick now allowed =
        let g : Effect = begin s in
        let due : Effect = if is_due s.answer_due now then due_in s.phase now g else g in
        either_going (SameIn s) (is_up s.phase && nat_le (s.last_active + s.config.inactive) now) (end_with FailedInactive g) due (ends s)
        (either_going (SameIn s) (is_due s.answer_due now) (due_in s.phase now g) g (due_same s.phase s now) (self (core s)))
    steps_same s Close now allowed =
        either_going (SameIn s) (may_close s.phase) (close_in_turn now (begin s)) (begin s) (finishes s now (on_state (λ s. record s { closing = true }) (begin s)) (self (core s))) (self (core s))
    steps_same s Take now allowed =
        let g : Effect = begin s in
        let r = without_first s.receiving in
        let a : Appended = follow r in
        let moved : Same s (record s { receiving = a.half }) = takes s a.half allowed in
        either_going (SameIn s) (nat_lt 0 (length (inbox s.receiving))) (take_from r g) g
        (either_going (SameIn s) (is_up s.phase && busy s.receiving && not (busy r)) (resume_by a g) (with_receiving r g)
        (either_going (SameIn s) a.fits (emit_ack false (with_receiving a.half g)) (end_with FailedOversize (with_receiving a.half g)) moved (phased (core s) (core (record s { receiving = a.half })) Ended moved)) (takes s r allowed)) (self (core s))

    pub lasts : (s : State) (i : Input) (now : ℕ) → Allowed i → R (core s) (core (step s i now).end)
    lasts s i now allowed = steps_same s i (min now COUNT_MAX) allowed
