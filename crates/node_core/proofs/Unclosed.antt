-- What a step of an end leaves: only a close makes it closing, one that has ended stays so, and what was written to it stays, but for a write.
use Rattle.std.proofs.Common.{◌≡◌, ◌≤◌, ◌∙◌, ℕ, suc, refl, ap, length, List, [], ◌∷◌, ◌++◌}
use Rattle.std.specs.List.{AllByRecursion}
use Rattle.std.specs.Prelude.{Bool, true, false, if◌then◌else◌, not, ◌&&◌, ◌||◌, ◌+◌, ◌-◌, ◌^◌, min, is_ok, nat_eq, nat_le, nat_lt, Option, Some, None, Result, Ok, Err}
use Rattle.radio_base.specs.Modulus.{place_of}
use Rattle.circuit_l4.specs.Moves as m
use Rattle.circuit_l4.specs.State.{Effect, State, begin, is_up, Appended, Receipt, Receiving, inbox, written}
use Rattle.circuit_l4.specs.Table as t
use Rattle.circuit_l4.specs.State as r
use Rattle.circuit_l4.specs.declared.role.Role.{Role}
use Rattle.circuit_l4.specs.declared.role.Role.TheVariants.{Requester, Responder}
use Rattle.circuit_l4.specs.declared.piece.Piece.{Piece}
use Rattle.circuit_l4.specs.declared.notice.EndNotice.TheVariants.{FailedInactive, FailedOversize, FailedRetries, Opened}
use Rattle.circuit_l4.specs.declared.phase.EndPhase.{EndPhase}
use Rattle.circuit_l4.specs.declared.phase.EndPhase.TheVariants.{Connecting, Up, Closing, Ended}
use Rattle.circuit_l4.specs.declared.refusal.WriteRefusal.{WriteRefusal}
use Rattle.circuit_l4.specs.declared.refusal.WriteRefusal.TheVariants as refusal
use Rattle.circuit_l4.specs.declared.owed.Owed.{Owed}
use Rattle.circuit_l4.specs.declared.transport.Flags.{Flags}
use Rattle.circuit_l4.specs.declared.transport.Transport.{Transport}
use Rattle.circuit_l4.specs.declared.transport.Transport.TheVariants.{Request, Accept, Refuse, Disconnect, Disconnected, Info, InfoAck}
use Rattle.circuit_table.specs.Sets.{has_ended}

abbrev pub IsMessage : List ℕ → Type 0
IsMessage m = (1 ≤ length m) × (length m ≤ 8192)

abbrev pub Messages : List (List ℕ) → Type 0
Messages ms = AllByRecursion IsMessage ms

-- ---- an end

-- the receiving half stays
pub record Same (s u : State) : Type 0 where
  pub closing : u.closing ≡ s.closing
  pub receiving : u.receiving ≡ s.receiving
  pub wrote : u.sending.wrote ≡ s.sending.wrote

pub same : (s u : State) → u.closing ≡ s.closing → u.receiving ≡ s.receiving → u.sending.wrote ≡ s.sending.wrote → Same s u
same s u e f g = record { closing = e; receiving = f; wrote = g }

then_same : (a b c : State) → Same a b → Same b c → Same a c
then_same a b c x y = record { closing = y.closing ∙ x.closing; receiving = y.receiving ∙ x.receiving; wrote = y.wrote ∙ x.wrote }

either : (s x y : State) (b : Bool) → Same s x → Same s y → Same s (if b then x else y)
either s x y true e f = e
either s x y false e f = f

either_effect : (s : State) (x y : Effect) (b : Bool) → Same s x.end → Same s y.end → Same s (if b then x else y).end
either_effect s x y true e f = e
either_effect s x y false e f = f

wait_if_out : (now : ℕ) (s : State) → Same s (m.wait_if_out now s)
wait_if_out now s = either s _ _ (nat_lt s.sending.acked s.sending.sent) (same s (m.wait now s) refl refl refl) (same s (record s { answer_due = None }) refl refl refl)

waits_by : (now : ℕ) (s : State) (o : Option ℕ) → Same s (elim o as (λ d. State) [ None ↦ m.wait now s | Some d ↦ s ])
waits_by now s None = same s (m.wait now s) refl refl refl
waits_by now s (Some d) = same s s refl refl refl

counts_out : (now many : ℕ) (s : State) → Same s (m.count_out now many s)
counts_out now many s =
    let u : State = m.put_out many s in
    let x = either u _ _ (nat_lt 0 many) (waits_by now u u.answer_due) (same u u refl refl refl) in
    same s (m.count_out now many s) x.closing x.receiving x.wrote

pub fills : (now : ℕ) (g : Effect) → Same g.end (m.fill now g).end
fills now g = counts_out now (m.fill_count g.end) g.end

pub finishes : (now : ℕ) (g : Effect) → Same g.end (m.finish now g).end
finishes now g = either_effect g.end (m.begin_to_close now g) g (m.is_done g.end) (same g.end _ refl refl refl) (same g.end g.end refl refl refl)

supplies : (now : ℕ) (g : Effect) → Same g.end (m.supply now g).end
supplies now g = then_same g.end (m.fill now g).end _ (fills now g) (finishes now (m.fill now g))

advances : (now x : ℕ) (s : State) → Same s (m.advance now x s)
advances now x s =
    let u : State = record s { sending = record s.sending { acked = x }; tries = 0 } in
    let w = wait_if_out now u in
    either s (m.wait_if_out now u) s (nat_lt s.sending.acked x) (same s (m.wait_if_out now u) w.closing w.receiving w.wrote) (same s s refl refl refl)

holds : (now : ℕ) (choke : Bool) (s : State) → Same s (m.hold now choke s)
holds now choke s =
    let u : State = record s { choked = false } in
    let w = wait_if_out now u in
    either s _ _ choke (same s _ refl refl refl) (either s _ _ s.choked (same s (m.wait_if_out now u) w.closing w.receiving w.wrote) (same s s refl refl refl))

acknowledges : (now : ℕ) (flags : Flags) (o : Option ℕ) (s : State) → Same s (m.acknowledge_by now flags o s).end
acknowledges now flags None s = same s s refl refl refl
acknowledges now flags (Some x) s = then_same s (m.advance now x s) _ (advances now x s) (holds now flags.choke (m.advance now x s))

pub acknowledged : (now rx : ℕ) (flags : Flags) (s : State) → Same s (m.acknowledge now rx flags s).end
acknowledged now rx flags s = acknowledges now flags (place_of 256 rx s.sending.acked (suc (s.sending.sent - s.sending.acked))) s

pub answers : (now : ℕ) (nak : Bool) (owed : Owed) (g : Effect) → Same g.end (m.answer_all now nak owed g).end
answers now nak owed g =
    let a : Effect = m.answer nak owed g in
    let x = either_effect g.end (m.emit_ack nak g) g (nak || m.is_silent owed g.end) (same g.end g.end refl refl refl) (same g.end g.end refl refl refl) in
    let y = supplies now (m.emit_owed owed a) in
    record { closing = y.closing ∙ x.closing; receiving = y.receiving ∙ x.receiving; wrote = y.wrote ∙ x.wrote }

pub acks : (now rx : ℕ) (flags : Flags) (g : Effect) → Same g.end (m.on_info_ack now rx flags g).end
acks now rx flags g =
    let a = m.acknowledge now rx flags g.end in
    let x = supplies now (m.emit_owed a.owed (record g { end = a.end })) in
    let y = acknowledged now rx flags g.end in
    record { closing = x.closing ∙ y.closing; receiving = x.receiving ∙ y.receiving; wrote = x.wrote ∙ y.wrote }

-- ---- time

asks_by : (role : Role) (g : Effect) → (t.ask_by role g).end ≡ g.end
asks_by (Requester user node) g = refl
asks_by Responder g = refl

retries_in : (phase : EndPhase) (g : Effect) → Same g.end (t.retry_in phase g).end
retries_in Connecting g = let e = asks_by g.end.role g in rw e (same g.end g.end refl refl refl)
retries_in Up g = same g.end g.end refl refl refl
retries_in Closing g = same g.end g.end refl refl refl
retries_in Ended g = same g.end g.end refl refl refl

expires : (now : ℕ) (g : Effect) → Same g.end (t.expire now g).end
expires now g =
    let h : Effect = g in
    let x = retries_in h.end.phase h in
    either_effect g.end (m.end_with FailedRetries h) (t.retry now h) (nat_eq g.end.tries g.end.config.retries) (same g.end _ refl refl refl)
    (same g.end (t.retry now h).end x.closing x.receiving x.wrote)

releases : (now : ℕ) (g : Effect) → Same g.end (t.unchoke now g).end
releases now g =
    let h : Effect = m.again (m.on_state (λ s. record s { choked = false; answer_due = None }) g) in
    let x = fills now h in
    let y = wait_if_out now (m.fill now h).end in
    record { closing = y.closing ∙ x.closing; receiving = y.receiving ∙ x.receiving; wrote = y.wrote ∙ x.wrote }

due_in : (phase : EndPhase) (now : ℕ) (g : Effect) → Same g.end (t.due_in phase now g).end
due_in Connecting now g = expires now g
due_in Up now g = either_effect g.end (t.unchoke now g) (t.expire now g) g.end.choked (releases now g) (expires now g)
due_in Closing now g = expires now g
due_in Ended now g = same g.end g.end refl refl refl

pub ticks_same : (s : State) (now : ℕ) → Same s (t.step s t.Tick now).end
ticks_same s now =
    let at = min now (2 ^ 62) in
    let g : Effect = begin s in
    (either_effect s (m.end_with FailedInactive g) _ (is_up s.phase && nat_le (s.last_active + s.config.inactive) at) (same s _ refl refl refl)
    (either_effect s (t.fall_due at g) g (t.is_due s.answer_due at) (due_in s.phase at g) (same s s refl refl refl)))

-- a close leaves the receiving half
pub closes : (s : State) (now : ℕ) → (t.step s t.Close now).end.receiving ≡ s.receiving
closes s now = by (t.may_close s.phase)
  where
    by : (b : Bool) → (if b then t.close_in_turn (min now (2 ^ 62)) (begin s) else begin s).end.receiving ≡ s.receiving
    by true = (finishes (min now (2 ^ 62)) (m.on_state (λ x. record x { closing = true }) (begin s))).receiving
    by false = refl

-- ---- an end that has ended stays so

module _ (s : State) (now : ℕ) where
  abbrev g : Effect
  g = begin s

  ended_arrives : (phase : EndPhase) (x : Transport) → has_ended phase ≡ true → (t.arrive_in phase now x g).end.phase ≡ s.phase
  ended_arrives Connecting x e = absurd (cc e)
  ended_arrives Up x e = absurd (cc e)
  ended_arrives Closing x e = absurd (cc e)
  ended_arrives Ended x e = refl

  ended_ticks : (phase : EndPhase) (a b : Bool) → has_ended phase ≡ true → (if is_up phase && a then m.end_with FailedInactive g else (if b then t.due_in phase now g else g)).end.phase ≡ s.phase
  ended_ticks Connecting a b e = absurd (cc e)
  ended_ticks Up a b e = absurd (cc e)
  ended_ticks Closing a b e = absurd (cc e)
  ended_ticks Ended a true e = refl
  ended_ticks Ended a false e = refl

  ended_writes : (phase : EndPhase) (r : Result (Unit {0}) WriteRefusal) (w : Effect) → has_ended phase ≡ true → (if is_ok (if not (is_up phase) then Err refusal.NotUp else r) then w else g).end.phase ≡ s.phase
  ended_writes Connecting r w e = absurd (cc e)
  ended_writes Up r w e = absurd (cc e)
  ended_writes Closing r w e = absurd (cc e)
  ended_writes Ended r w e = refl

  ended_closes : (phase : EndPhase) (w : Effect) → has_ended phase ≡ true → (if t.may_close phase then w else g).end.phase ≡ s.phase
  ended_closes Connecting w e = absurd (cc e)
  ended_closes Up w e = absurd (cc e)
  ended_closes Closing w e = absurd (cc e)
  ended_closes Ended w e = refl

  ended_takes : (phase : EndPhase) (h : Receiving) (a b c : Bool) (w : Effect) → has_ended phase ≡ true → (if a then (if is_up phase && b && c then w else m.with_receiving h g) else g).end.phase ≡ s.phase
  ended_takes Connecting h a b c w e = absurd (cc e)
  ended_takes Up h a b c w e = absurd (cc e)
  ended_takes Closing h a b c w e = absurd (cc e)
  ended_takes Ended h true b c w e = refl
  ended_takes Ended h false b c w e = refl

  ended_steps : (i : t.Input) → has_ended s.phase ≡ true → (t.step_at now g i).end.phase ≡ s.phase
  ended_steps (t.Arrive x) e = ended_arrives s.phase x e
  ended_steps t.Tick e = ended_ticks s.phase (nat_le (s.last_active + s.config.inactive) now) (t.is_due s.answer_due now) e
  ended_steps (t.Write message) e = ended_writes s.phase _ (t.write now message g) e
  ended_steps t.Close e = ended_closes s.phase (t.close_in_turn now g) e
  ended_steps t.Take e =
      let h : Receiving = r.without_first s.receiving in
      ended_takes s.phase h (nat_lt 0 (length (inbox s.receiving))) (r.busy s.receiving) (not (r.busy h)) (t.resume (m.with_receiving h g)) e

pub ended_stays : (s : State) (i : t.Input) (now : ℕ) → has_ended s.phase ≡ true → has_ended (t.step s i now).end.phase ≡ true
ended_stays s i now e = ap has_ended (ended_steps s (min now (2 ^ 62)) i e) ∙ e

-- ---- what was written stays, but for a write

infos_wrote : (now tx rx : ℕ) (flags : Flags) (piece : Piece) (g : Effect) → (m.on_info now tx rx flags piece g).end.sending.wrote ≡ g.end.sending.wrote
infos_wrote now tx rx flags piece g = by c.fits ∙ (acknowledged now rx flags g.end).wrote
  where
    a : m.Acknowledgement
    a = m.acknowledge now rx flags g.end

    c : Receipt
    c = r.receive a.end.window tx piece a.end.receiving

    h : Effect
    h = m.with_receiving c.half (record g { end = a.end })

    by : (b : Bool) → (if b then m.answer_all now c.nak a.owed h else m.end_with FailedOversize h).end.sending.wrote ≡ a.end.sending.wrote
    by true = (answers now c.nak a.owed h).wrote
    by false = refl

up_wrote : (now : ℕ) (x : Transport) (s : State) → (t.arrive_up now x (begin s)).end.sending.wrote ≡ s.sending.wrote
up_wrote now (Info to tx rx flags text) s = infos_wrote now tx rx flags (record { text = text; more = flags.more }) (t.note_activity now (begin s))
up_wrote now (InfoAck to rx flags) s = (acks now rx flags (t.note_activity now (begin s))).wrote
up_wrote now (Disconnect to) s = refl
up_wrote now (Request pair window user node) s = refl
up_wrote now (Accept to own window) s = refl
up_wrote now (Refuse to) s = refl
up_wrote now (Disconnected to) s = refl

connecting_wrote : (now : ℕ) (x : Transport) (s : State) → (t.arrive_connecting now x (begin s)).end.sending.wrote ≡ s.sending.wrote
connecting_wrote now (Accept to own window) s = (finishes now (m.note (Opened (t.common_window s.config.window window)) (m.on_state (t.come_up now own window) (begin s)))).wrote
connecting_wrote now (Refuse to) s = refl
connecting_wrote now (Request pair window user node) s = refl
connecting_wrote now (Disconnect to) s = refl
connecting_wrote now (Disconnected to) s = refl
connecting_wrote now (Info to tx rx flags text) s = refl
connecting_wrote now (InfoAck to rx flags) s = refl

closing_wrote : (x : Transport) (s : State) → (t.arrive_closing x (begin s)).end.sending.wrote ≡ s.sending.wrote
closing_wrote (Disconnect to) s = refl
closing_wrote (Disconnected to) s = refl
closing_wrote (Request pair window user node) s = refl
closing_wrote (Accept to own window) s = refl
closing_wrote (Refuse to) s = refl
closing_wrote (Info to tx rx flags text) s = refl
closing_wrote (InfoAck to rx flags) s = refl

in_wrote : (phase : EndPhase) (now : ℕ) (x : Transport) (s : State) → (t.arrive_in phase now x (begin s)).end.sending.wrote ≡ s.sending.wrote
in_wrote Connecting now x s = connecting_wrote now x s
in_wrote Up now x s = up_wrote now x s
in_wrote Closing now x s = closing_wrote x s
in_wrote Ended now x s = refl

abbrev pub StaysWritten : State → t.Input → ℕ → Type 0
StaysWritten s i now = (t.step s i now).end.sending.wrote ≡ s.sending.wrote

pub arrives_wrote : (s : State) (x : Transport) (now : ℕ) → StaysWritten s (t.Arrive x) now
arrives_wrote s x now = in_wrote s.phase (min now (2 ^ 62)) x s

pub ticks_wrote : (s : State) (now : ℕ) → StaysWritten s t.Tick now
ticks_wrote s now = (ticks_same s now).wrote

pub closes_wrote : (s : State) (now : ℕ) → StaysWritten s t.Close now
closes_wrote s now = by (t.may_close s.phase)
  where
    by : (b : Bool) → (if b then t.close_in_turn (min now (2 ^ 62)) (begin s) else begin s).end.sending.wrote ≡ s.sending.wrote
    by true = (finishes (min now (2 ^ 62)) (m.on_state (λ x. record x { closing = true }) (begin s))).wrote
    by false = refl

pub takes_wrote : (s : State) (now : ℕ) → StaysWritten s t.Take now
takes_wrote s now = by (nat_lt 0 (length (inbox s.receiving))) (is_up s.phase && r.busy s.receiving && not (r.busy h)) a.fits
  where
    h : Receiving
    h = r.without_first s.receiving

    a : Appended
    a = r.follow h

    k : Effect
    k = m.with_receiving h (begin s)

    by : (b c d : Bool) → (if b then (if c then (if d then m.emit_ack false (m.with_receiving a.half k) else m.end_with FailedOversize (m.with_receiving a.half k)) else k) else begin s).end.sending.wrote ≡ s.sending.wrote
    by false c d = refl
    by true false d = refl
    by true true true = refl
    by true true false = refl

pub takes_closing : (s : State) (now : ℕ) → (t.step s t.Take now).end.closing ≡ s.closing
takes_closing s now = by (nat_lt 0 (length (inbox s.receiving))) (is_up s.phase && r.busy s.receiving && not (r.busy h)) a.fits
  where
    h : Receiving
    h = r.without_first s.receiving

    a : Appended
    a = r.follow h

    k : Effect
    k = m.with_receiving h (begin s)

    by : (b c d : Bool) → (if b then (if c then (if d then m.emit_ack false (m.with_receiving a.half k) else m.end_with FailedOversize (m.with_receiving a.half k)) else k) else begin s).end.closing ≡ s.closing
    by false c d = refl
    by true false d = refl
    by true true true = refl
    by true true false = refl

-- a message that is taken up is written behind the others
pub writes_wrote : (s : State) (message : List ℕ) (now : ℕ) → t.write_answer s message ≡ Ok tt → (t.step s (t.Write message) now).end.sending.wrote ≡ s.sending.wrote ++ message ∷ []
writes_wrote s message now e =
    let at = min now (2 ^ 62) in
    let h : Effect = m.on_state (λ x. record x { last_active = at; sending = written message x.sending }) (begin s) in
    ap (λ (b : Bool). (if b then t.write at message (begin s) else begin s).end.sending.wrote) (ap (λ (x : Result (Unit {0}) WriteRefusal). is_ok x) e) ∙ (fills at h).wrote
