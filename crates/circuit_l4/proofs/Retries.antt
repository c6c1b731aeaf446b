-- An end fails for want of an answer exactly where there was one expiry more than there are retries.
use Rattle.std.proofs.Common.{◌≡◌, ℕ, suc, ◌+◌, ◌<◌, ◌≤◌, ◌⊎◌, ◌∙◌, ap, subst, sym, inl, inr, ⊎_elim, ◌↔◌, min, Bool, true, false, ◌&&◌, ◌||◌, not, nat_eq, nat_lt, if◌then◌else◌, is_ok, List, [], ◌∷◌, ◌++◌, length, Contains, Option, Some, None, refl, arith}
use Rattle.std.proofs.lemmas.Bool.Decides.{nat_tests}
use Rattle.std.proofs.lemmas.List.Elements as elements
use Rattle.std.proofs.Math.Bool.{or-true}
use Rattle.radio_base.specs.declared.modulus.TheConstants.{COUNT_MAX}
use Rattle.circuit_l4.specs.declared.transport.Flags.{Flags}
use Rattle.circuit_l4.specs.declared.pair.Pair.{Pair}
use Rattle.circuit_l4.specs.declared.piece.Piece.{Piece}
use Rattle.circuit_l4.specs.declared.owed.Owed.{Owed}
use Rattle.circuit_l4.specs.declared.transport.Transport.{Transport}
use Rattle.circuit_l4.specs.declared.transport.Transport.TheVariants.{Accept, Refuse, Disconnect, Disconnected, Info, InfoAck}
use Rattle.circuit_l4.specs.declared.phase.EndPhase.{EndPhase}
use Rattle.circuit_l4.specs.declared.phase.EndPhase.TheVariants.{Connecting, Up, Closing, Ended}
use Rattle.circuit_l4.specs.declared.notice.EndNotice.{EndNotice}
use Rattle.circuit_l4.specs.declared.notice.EndNotice.TheVariants.{Opened, Refused, Closed, ClosedByPartner, FailedRetries, FailedOversize, FailedInactive}
use Rattle.circuit_l4.specs.declared.role.Role.{Role}
use Rattle.circuit_l4.specs.declared.role.Role.TheVariants.{Requester, Responder}
use Rattle.circuit_l4.specs.State.{Effect, Out, State, begin, is_up, written, Appended, Receipt, Receiving, busy, receive, without_first, inbox, follow}
use Rattle.circuit_l4.specs.Moves.{acknowledge, answer, answer_all, begin_to_close, wait, wait_if_out, on_state, end_with, fill, fill_count, finish, again, emit_ack, with_receiving, is_done, emit, note, on_info, on_info_ack, emit_owed, supply}
use Rattle.circuit_l4.specs.Table.{Input, Write, Arrive, Tick, Close, Take, on_accept, common_window, arrive_in, ask_by, close, close_in_turn, due_in, expire, note_activity, is_due, may_close, come_up, unchoke, resume_by, retry, retry_in, step, step_at, take_first, write_answer, write}
use Rattle.circuit_l4.specs.Laws.{Asks, Accepts, FailsAfterRetries, IsNew, followed_by, after_inputs}
use Rattle.circuit_l4.specs.Expiries.{Moment, any_renews, awaits, count, expires, expires_at, expiries, is_anew, is_closing, is_inactive, moments, renews, since_last, tick_of}
use Rattle.circuit_l4.proofs.Parts.{Counts, counts_on, either_going, itself, keeps-acknowledged, keeps-awaited_if_out, keeps-counted_out}

abbrev Told : List EndNotice → Type 0
Told notes = Contains notes FailedRetries

-- ---- notices ----
none_told : Told [] → ⊥
none_told w = let none : w.0 < 0 = w.1 in omega arith

other_told : (notes : List EndNotice) (n : EndNotice) → (n ≡ FailedRetries → ⊥) → (Told notes → ⊥) → Told (notes ++ n ∷ []) → ⊥
other_told notes n other h w = ⊎_elim h other (elements.Contains-push_cases notes n FailedRetries w)

-- ---- whether the tries count anew ----
and_not : (a b : Bool) → a ≡ b → (a && not b) ≡ false
and_not true true e = refl
and_not true false e = absurd (cc e)
and_not false b e = refl

more_anew : (s t : State) → s.sending.acked < t.sending.acked → is_anew s t ≡ true
more_anew s t more = let e : nat_lt s.sending.acked t.sending.acked ≡ true = grind (arith, nat_tests) in simp e refl

same_anew : (s t : State) → t.sending.acked ≡ s.sending.acked → is_closing t.phase ≡ is_closing s.phase → is_anew s t ≡ false
same_anew s t same closing =
    let e : nat_lt s.sending.acked t.sending.acked ≡ false = grind (arith, nat_tests) in
    let f : (is_closing t.phase && not (is_closing s.phase)) ≡ false = and_not (is_closing t.phase) (is_closing s.phase) closing in
    simp (e, f) refl

over_anew : (s t : State) → t.sending.acked ≡ s.sending.acked → t.phase ≡ Ended → is_anew s t ≡ false
over_anew s t same over =
    let e : nat_lt s.sending.acked t.sending.acked ≡ false = grind (arith, nat_tests) in
    let f : is_closing t.phase ≡ false = ap is_closing over in
    simp (e, f) refl

-- ---- a step by which nothing expires ----
-- a part of it, in which the end hasn't begun to close
pub record Part (s : State) (g : Effect) : Type 0 where
  pub closing : is_closing g.end.phase ≡ is_closing s.phase
  pub retries : g.end.config.retries ≡ s.config.retries
  pub counts : Counts s g.end
  pub untold : Told g.notes → ⊥

-- the whole of it
pub record Whole (s : State) (g : Effect) : Type 0 where
  pub retries : g.end.config.retries ≡ s.config.retries
  pub counts : ((is_anew s g.end ≡ true) × (g.end.tries ≡ 0)) ⊎ ((is_anew s g.end ≡ false) × (g.end.tries ≡ s.tries))
  pub untold : Told g.notes → ⊥

begun : (s : State) → Part s (begin s)
begun s = record { closing = refl; retries = refl; counts = inr (refl, refl); untold = none_told }

whole_by : (s t : State) → is_closing t.phase ≡ is_closing s.phase → Counts s t → ((is_anew s t ≡ true) × (t.tries ≡ 0)) ⊎ ((is_anew s t ≡ false) × (t.tries ≡ s.tries))
whole_by s t closing (inl a) = inl (more_anew s t a.0, a.1)
whole_by s t closing (inr a) = inr (same_anew s t a.0 closing, a.1)

whole : (s : State) (g : Effect) → Part s g → Whole s g
whole s g p = record { retries = p.retries; counts = whole_by s g.end p.closing p.counts; untold = p.untold }

ended_by : (s t : State) → t.phase ≡ Ended → Counts s t → ((is_anew s t ≡ true) × (t.tries ≡ 0)) ⊎ ((is_anew s t ≡ false) × (t.tries ≡ s.tries))
ended_by s t over (inl a) = inl (more_anew s t a.0, a.1)
ended_by s t over (inr a) = inr (over_anew s t a.0 over, a.1)

ends_otherwise : (why : EndNotice) (s : State) (g : Effect) → (why ≡ FailedRetries → ⊥) → Part s g → Whole s (end_with why g)
ends_otherwise why s g other p =
    let over : State = (end_with why g).end in
    record { retries = p.retries; counts = ended_by s over refl p.counts; untold = other_told g.notes why other p.untold }

pub first_of_and : (a b c : Bool) → (a && b && c) ≡ true → a ≡ true
first_of_and true b c e = refl
first_of_and false b c e = e

not_closing : (p : EndPhase) → is_up p ≡ true → is_closing p ≡ false
not_closing Connecting e = refl
not_closing Up e = refl
not_closing Closing e = absurd (cc e)
not_closing Ended e = refl

finished : (done : Bool) (now : ℕ) (s : State) (g : Effect) → is_done g.end ≡ done → Part s g → Whole s (if done then begin_to_close now g else g)
finished true now s g e p =
    let up : is_up g.end.phase ≡ true = first_of_and (is_up g.end.phase) g.end.closing _ e in
    let before : is_closing s.phase ≡ false = sym p.closing ∙ not_closing g.end.phase up in
    let anew : is_anew s (begin_to_close now g).end ≡ true = simp before (or-true (nat_lt s.sending.acked g.end.sending.acked)) in
    record { retries = p.retries; counts = inl (anew, refl); untold = p.untold }
finished false now s g e p = whole s g p

finishes : (now : ℕ) (s : State) (g : Effect) → Part s g → Whole s (finish now g)
finishes now s g p = finished (is_done g.end) now s g refl p

fills : (now : ℕ) (s : State) (g : Effect) → Part s g → Part s (fill now g)
fills now s g p =
    let k = keeps-counted_out g.end now (fill_count g.end) in
    record { closing = ap is_closing k.0 ∙ p.closing; retries = k.1 ∙ p.retries; counts = counts_on s g.end (fill now g).end p.counts k.2; untold = p.untold }

supplies : (now : ℕ) (s : State) (g : Effect) → Part s g → Whole s (supply now g)
supplies now s g p = finishes now s (fill now g) (fills now s g p)

acknowledges : (now rx : ℕ) (flags : Flags) (s : State) (g : Effect) → Part s g → Part s (record g { end = (acknowledge now rx flags g.end).end })
acknowledges now rx flags s g p =
    let k = keeps-acknowledged g.end now rx flags in
    record { closing = ap is_closing k.0 ∙ p.closing; retries = k.1 ∙ p.retries; counts = counts_on s g.end (acknowledge now rx flags g.end).end p.counts k.2; untold = p.untold }

-- what is put out, and what neither the phase nor the tries are
puts : (s : State) (g : Effect) (outs : List Out) → Part s g → Part s (record g { outs = outs })
puts s g outs p = record { closing = p.closing; retries = p.retries; counts = p.counts; untold = p.untold }

receives : (s : State) (g : Effect) (r : Receiving) → Part s g → Part s (with_receiving r g)
receives s g r p = record { closing = p.closing; retries = p.retries; counts = p.counts; untold = p.untold }

acks : (now rx : ℕ) (flags : Flags) (s : State) (g : Effect) → Part s g → Whole s (on_info_ack now rx flags g)
acks now rx flags s g p =
    let a = acknowledge now rx flags g.end in
    let h : Effect = record g { end = a.end } in
    supplies now s (emit_owed a.owed h) (puts s h (emit_owed a.owed h).outs (acknowledges now rx flags s g p))

answers : (now : ℕ) (nak : Bool) (owed : Owed) (s : State) (g : Effect) → Part s g → Whole s (answer_all now nak owed g)
answers now nak owed s g p =
    let a = answer nak owed g in
    let q : Part s a = either_going (Part s) (nak || nat_eq (owed.many + fill_count g.end) 0) (emit_ack nak g) g (puts s g (emit_ack nak g).outs p) p in
    supplies now s (emit_owed owed a) (puts s a (emit_owed owed a).outs q)

texts : (now : ℕ) (owed : Owed) (c : Receipt) (fits : Bool) (s : State) (g : Effect) → Part s g →
    Whole s (if fits then answer_all now c.nak owed (with_receiving c.half g) else end_with FailedOversize (with_receiving c.half g))
texts now owed c true s g p = answers now c.nak owed s (with_receiving c.half g) (receives s g c.half p)
texts now owed c false s g p = ends_otherwise FailedOversize s (with_receiving c.half g) (λ e. absurd (cc e)) (receives s g c.half p)

infos_go : (now tx rx : ℕ) (flags : Flags) (piece : Piece) (s : State) (g : Effect) → Part s g → Whole s (on_info now tx rx flags piece g)
infos_go now tx rx flags piece s g p =
    let a = acknowledge now rx flags g.end in
    let c = receive a.end.window tx piece a.end.receiving in
    texts now a.owed c c.fits s (record g { end = a.end }) (acknowledges now rx flags s g p)

heard : (now : ℕ) (s : State) → Part s (note_activity now (begin s))
heard now s = record { closing = refl; retries = refl; counts = inr (refl, refl); untold = none_told }

opens : (now : ℕ) (to : Pair) (window : ℕ) (s : State) → s.phase ≡ Connecting → Whole s (on_accept now to window (begin s))
opens now to window s e =
    let w = common_window s.config.window window in
    finishes now s (note (Opened w) (on_state (come_up now to window) (begin s)))
    (record { closing = sym (ap is_closing e); retries = refl; counts = inr (refl, refl); untold = other_told [] (Opened w) (λ e. absurd (cc e)) none_told })

says : (s : State) (t : Transport) → Part s (emit t (begin s))
says s t = puts s (begin s) ((t, None) ∷ []) (begun s)

arrives : (p : EndPhase) (now : ℕ) (t : Transport) (s : State) → s.phase ≡ p → Whole s (arrive_in p now t (begin s))
arrives Connecting now (Accept to own window) s e = opens now own window s e
arrives Connecting now (Refuse to) s e = ends_otherwise Refused s (begin s) (λ e. absurd (cc e)) (begun s)
arrives Connecting now _ s e = whole s (begin s) (begun s)
arrives Up now (Info to tx rx flags text) s e = infos_go now tx rx flags (record { text = text; more = flags.more }) s (note_activity now (begin s)) (heard now s)
arrives Up now (InfoAck to rx flags) s e = acks now rx flags s (note_activity now (begin s)) (heard now s)
arrives Up now (Disconnect to) s e = ends_otherwise ClosedByPartner s (emit (Disconnected s.to) (begin s)) (λ e. absurd (cc e)) (says s (Disconnected s.to))
arrives Up now _ s e = whole s (begin s) (begun s)
arrives Closing now (Disconnect to) s e = ends_otherwise ClosedByPartner s (emit (Disconnected s.to) (begin s)) (λ e. absurd (cc e)) (says s (Disconnected s.to))
arrives Closing now (Disconnected to) s e = ends_otherwise Closed s (begin s) (λ e. absurd (cc e)) (begun s)
arrives Closing now _ s e = whole s (begin s) (begun s)
arrives Ended now t s e = whole s (begin s) (begun s)

closes : (now : ℕ) (s : State) → Whole s (close now (begin s))
closes now s =
    let g = on_state (λ s. record s { closing = true }) (begin s) in
    either_going (Whole s) (may_close s.phase) (close_in_turn now (begin s)) (begin s)
    (finishes now s g (record { closing = refl; retries = refl; counts = inr (refl, refl); untold = none_told })) (whole s (begin s) (begun s))

resumes : (a : Appended) (fits : Bool) (s : State) → Whole s (resume_by (record { half = a.half; fits = fits }) (begin s))
resumes a true s =
    let g = with_receiving a.half (begin s) in
    whole s (emit_ack false g) (puts s g (emit_ack false g).outs (receives s (begin s) a.half (begun s)))
resumes a false s = ends_otherwise FailedOversize s (with_receiving a.half (begin s)) (λ e. absurd (cc e)) (receives s (begin s) a.half (begun s))

takes : (s : State) → Whole s (take_first (begin s))
takes s =
    let r = without_first s.receiving in
    let a = follow r in
    either_going (Whole s) (nat_lt 0 (length (inbox s.receiving))) _ _
    (either_going (Whole s) (is_up s.phase && busy s.receiving && not (busy r)) _ _ (resumes a a.fits s) (whole s (with_receiving r (begin s)) (receives s (begin s) r (begun s))))
    (whole s (begin s) (begun s))

writes : (now : ℕ) (message : List ℕ) (s : State) → Whole s (step_at now (begin s) (Write message))
writes now message s =
    let g = on_state (λ s. record s { last_active = now; sending = written message s.sending }) (begin s) in
    either_going (Whole s) (is_ok (write_answer s message)) (write now message (begin s)) (begin s)
    (whole s (fill now g) (fills now s g (record { closing = refl; retries = refl; counts = inr (refl, refl); untold = none_told }))) (whole s (begin s) (begun s))

-- ---- a tick ----
-- an expiry: a try more, or none is left
pub record Expired (s : State) (g : Effect) : Type 0 where
  pub retries : g.end.config.retries ≡ s.config.retries
  pub counts : is_anew s g.end ≡ false
  pub so : ((g.end.tries ≡ suc s.tries) × (s.tries ≡ s.config.retries → ⊥) × (Told g.notes → ⊥)) ⊎ ((g.end.phase ≡ Ended) × (s.tries ≡ s.config.retries) × Told g.notes)

abbrev pub Ticked : State → Bool → Effect → Type 0
Ticked s true g = Expired s g
Ticked s false g = Whole s g

-- what is put out once more changes nothing
abbrev Puts : Effect → Effect → Type 0
Puts g h = (h.end ≡ g.end) × (h.notes ≡ g.notes)

asks : (r : Role) (g : Effect) → Puts g (ask_by r g)
asks (Requester user node) g = (refl, refl)
asks Responder g = (refl, refl)

tries_again : (p : EndPhase) (g : Effect) → Puts g (retry_in p g)
tries_again Connecting g = asks g.end.role g
tries_again Up g = (refl, refl)
tries_again Closing g = (refl, refl)
tries_again Ended g = (refl, refl)

retried : (now : ℕ) (s : State) (h : Effect) → Puts (begin s) h → (s.tries ≡ s.config.retries → ⊥) → Expired s (on_state (λ s. wait now (record s { tries = suc s.tries })) h)
retried now s h p more =
    let g : Effect = on_state (λ s. wait now (record s { tries = suc s.tries })) h in
    record {
      retries = ap (λ (t : State). t.config.retries) p.0;
      counts = same_anew s g.end (ap (λ (t : State). t.sending.acked) p.0) (ap (λ (t : State). is_closing t.phase) p.0);
      so = inl (ap (λ (t : State). suc t.tries) p.0, more, λ w. none_told (subst Told p.1 w));
    }

expired : (b : Bool) (now : ℕ) (s : State) → nat_eq s.tries s.config.retries ≡ b → Expired s (if b then end_with FailedRetries (begin s) else retry now (begin s))
expired true now s e =
    let all : s.tries ≡ s.config.retries = grind (arith, nat_tests) in
    let over : State = (end_with FailedRetries (begin s)).end in
    record { retries = refl; counts = over_anew s over refl refl; so = inr (refl, all, elements.Contains-push [] FailedRetries) }
expired false now s e =
    let more : s.tries ≡ s.config.retries → ⊥ = grind (arith, nat_tests) in
    retried now s (retry_in s.phase (begin s)) (tries_again s.phase (begin s)) more

expires_now : (now : ℕ) (s : State) → Expired s (expire now (begin s))
expires_now now s = expired (nat_eq s.tries s.config.retries) now s refl

releases : (now : ℕ) (s : State) → Whole s (unchoke now (begin s))
releases now s =
    let b : Effect = on_state (λ s. record s { choked = false; answer_due = None }) (begin s) in
    let a : Effect = again b in
    let f : Effect = fill now a in
    let p : Part s f = fills now s a (record { closing = refl; retries = refl; counts = inr (refl, refl); untold = none_told }) in
    let k = keeps-awaited_if_out f.end f.end now (itself f.end) in
    let g : Effect = on_state (wait_if_out now) f in
    whole s g (record { closing = ap is_closing k.0 ∙ p.closing; retries = k.1 ∙ p.retries; counts = counts_on s f.end g.end p.counts k.2; untold = p.untold })

due_up : (choked : Bool) (now : ℕ) (s : State) → Ticked s (not choked) (if choked then unchoke now (begin s) else expire now (begin s))
due_up true now s = releases now s
due_up false now s = expires_now now s

falls_due : (p : EndPhase) (now : ℕ) (s : State) → Ticked s (awaits p s.choked) (due_in p now (begin s))
falls_due Connecting now s = expires_now now s
falls_due Up now s = due_up s.choked now s
falls_due Closing now s = expires_now now s
falls_due Ended now s = whole s (begin s) (begun s)

ticked : (inactive due : Bool) (now : ℕ) (s : State) → Ticked s (not inactive && due && awaits s.phase s.choked)
    (if inactive then end_with FailedInactive (begin s) else (if due then due_in s.phase now (begin s) else begin s))
ticked true due now s = ends_otherwise FailedInactive s (begin s) (λ e. absurd (cc e)) (begun s)
ticked false true now s = falls_due s.phase now s
ticked false false now s = whole s (begin s) (begun s)

-- ---- a step ----
abbrev pub moment_of : State → Input → ℕ → Moment
moment_of s i now = record { was = s; tick = tick_of i now; is = (step s i now).end }

steps : (s : State) (i : Input) (now : ℕ) → Ticked s (expires (moment_of s i now)) (step s i now)
steps s (Write message) now = writes (min now COUNT_MAX) message s
steps s (Arrive t) now = arrives s.phase (min now COUNT_MAX) t s refl
steps s Tick now = let at : ℕ = min now COUNT_MAX in ticked (is_inactive s at) (is_due s.answer_due at) at s
steps s Close now = closes (min now COUNT_MAX) s
steps s Take now = takes s

-- an end that has ended counts no more
abbrev Stays : State → Effect → Type 0
Stays s g = (g.end.phase ≡ Ended) × (g.end.sending.acked ≡ s.sending.acked) × (g.end.config.retries ≡ s.config.retries)

stays : (now : ℕ) (s : State) (i : Input) → s.phase ≡ Ended → Stays s (step_at now (begin s) i)
stays now s (Write message) e = rw e (refl, refl, refl)
stays now s (Arrive t) e = rw e (refl, refl, refl)
stays now s Tick e = rw e (either_going (Stays s) (is_due s.answer_due now) _ _ (refl, refl, refl) (refl, refl, refl))
stays now s Close e = rw e (refl, refl, refl)
stays now s Take e = rw e (either_going (Stays s) (nat_lt 0 (length (inbox s.receiving))) _ _ (refl, refl, refl) (refl, refl, refl))

last_false : (a b : Bool) → (a && b && false) ≡ false
last_false true true = refl
last_false true false = refl
last_false false b = refl

awaits_none : (s : State) (tick : Option ℕ) → s.phase ≡ Ended → expires_at s tick ≡ false
awaits_none s None e = refl
awaits_none s (Some now) e =
    let none : awaits s.phase s.choked ≡ false = ap (λ p. awaits p s.choked) e in
    let at : ℕ = min now COUNT_MAX in
    ap (λ b. not (is_inactive s at) && is_due s.answer_due at && b) none ∙ last_false (not (is_inactive s at)) (is_due s.answer_due at)

-- ---- the count ----
-- how many there are after a moment
abbrev counted : ℕ → Moment → ℕ
counted n m = if renews m then 0 else (if expires m then suc n else n)

-- as many as there were tries, and at most as many as there are retries; or the end has failed for that
abbrev Counted : ℕ → State → List EndNotice → Type 0
Counted n s notes =
    ((n ≡ s.tries) × (s.tries ≤ s.config.retries) × (Told notes → ⊥))
    ⊎ ((s.phase ≡ Ended) × (n ≡ s.config.retries + 1) × Told notes)

both_told : (a b : List EndNotice) → (Told a → ⊥) → (Told b → ⊥) → Told (a ++ b) → ⊥
both_told a b p q w = ⊎_elim p q (elements.Contains-append_cases a b FailedRetries w)

counts_whole : (n : ℕ) (m : Moment) (g : Effect) (notes : List EndNotice) → m.is ≡ g.end → expires m ≡ false → n ≡ m.was.tries → m.was.tries ≤ m.was.config.retries → (Told notes → ⊥) → Whole m.was g
    → Counted (counted n m) g.end (notes ++ g.notes)
counts_whole n m g notes is none same few untold w = by w.counts
  where
    by : ((is_anew m.was g.end ≡ true) × (g.end.tries ≡ 0)) ⊎ ((is_anew m.was g.end ≡ false) × (g.end.tries ≡ m.was.tries)) → Counted (counted n m) g.end (notes ++ g.notes)
    by (inl a) =
        let anew : renews m ≡ true = ap (λ t. is_anew m.was t) is ∙ a.0 in
        let e : counted n m ≡ 0 = simp anew refl in
        inl (e ∙ sym a.1, omega (arith, a.1), both_told notes g.notes untold w.untold)
    by (inr a) =
        let anew : renews m ≡ false = ap (λ t. is_anew m.was t) is ∙ a.0 in
        let e : counted n m ≡ n = simp (anew, none) refl in
        inl (e ∙ same ∙ sym a.1, omega (arith, a.1, few, w.retries), both_told notes g.notes untold w.untold)

counts_expired : (n : ℕ) (m : Moment) (g : Effect) (notes : List EndNotice) → m.is ≡ g.end → expires m ≡ true → n ≡ m.was.tries → m.was.tries ≤ m.was.config.retries → (Told notes → ⊥) → Expired m.was g
    → Counted (counted n m) g.end (notes ++ g.notes)
counts_expired n m g notes is some same few untold x = by x.so
  where
    anew : renews m ≡ false
    anew = ap (λ t. is_anew m.was t) is ∙ x.counts

    more : counted n m ≡ suc n
    more = simp (anew, some) refl

    by : ((g.end.tries ≡ suc m.was.tries) × (m.was.tries ≡ m.was.config.retries → ⊥) × (Told g.notes → ⊥)) ⊎ ((g.end.phase ≡ Ended) × (m.was.tries ≡ m.was.config.retries) × Told g.notes)
        → Counted (counted n m) g.end (notes ++ g.notes)
    by (inl a) = inl (more ∙ ap suc same ∙ sym a.0, omega (arith, a.0, a.1, few, x.retries), both_told notes g.notes untold a.2)
    by (inr a) = inr (a.0, omega (arith, more, same, a.1, x.retries), elements.Contains-append_right notes g.notes FailedRetries a.2)

counts_by : (b : Bool) (n : ℕ) (m : Moment) (g : Effect) (notes : List EndNotice) → expires m ≡ b → m.is ≡ g.end → n ≡ m.was.tries → m.was.tries ≤ m.was.config.retries → (Told notes → ⊥) → Ticked m.was b g
    → Counted (counted n m) g.end (notes ++ g.notes)
counts_by true n m g notes e is same few untold x = counts_expired n m g notes is e same few untold x
counts_by false n m g notes e is same few untold w = counts_whole n m g notes is e same few untold w

-- a step counts so
counts_step : (n : ℕ) (s : State) (i : Input) (now : ℕ) (notes : List EndNotice) → Counted n s notes → Counted (counted n (moment_of s i now)) (step s i now).end (notes ++ (step s i now).notes)
counts_step n s i now notes (inl a) = let m : Moment = moment_of s i now in counts_by (expires m) n m (step s i now) notes refl refl a.0 a.1 a.2 (steps s i now)
counts_step n s i now notes (inr a) =
    let m : Moment = moment_of s i now in
    let g : Effect = step s i now in
    let on : Stays s g = stays (min now COUNT_MAX) s i a.0 in
    let anew : renews m ≡ false = over_anew s g.end on.1 on.0 in
    let none : expires m ≡ false = awaits_none s m.tick a.0 in
    let e : counted n m ≡ n = simp (anew, none) refl in
    inr (on.0, omega (arith, e, a.1, on.2), elements.Contains-append_left notes g.notes FailedRetries a.2)

counts_tell : (n : ℕ) (s : State) (notes : List EndNotice) → Counted n s notes → Told notes ↔ (n ≡ s.config.retries + 1)
counts_tell n s notes (inl a) = (λ w. absurd (a.2 w), λ e. absurd (omega (arith, e, a.0, a.1)))
counts_tell n s notes (inr a) = (λ w. a.1, λ e. a.2)

-- ---- one moment after another ----
abbrev all_counted : ℕ → List Moment → ℕ
all_counted n [] = n
all_counted n (m ∷ ms) = all_counted (counted n m) ms

pub since_all : (ms : List Moment) → any_renews ms ≡ false → since_last ms ≡ ms
since_all [] e = refl
since_all (m ∷ ms) e =
    let none : (renews m || any_renews ms) ≡ false = e in
    let parts = neither (renews m) (any_renews ms) none in
    simp (parts.0, parts.1) refl
  where
    neither : (a b : Bool) → (a || b) ≡ false → (a ≡ false) × (b ≡ false)
    neither true b e = absurd (cc e)
    neither false b e = (refl, e)

all_case : (a b c : Bool) (n : ℕ) (m : Moment) (ms : List Moment) → any_renews ms ≡ a → renews m ≡ b → expires m ≡ c
    → ((k : ℕ) → all_counted k ms ≡ (if any_renews ms then 0 else k) + expiries ms) → all_counted n (m ∷ ms) ≡ (if any_renews (m ∷ ms) then 0 else n) + expiries (m ∷ ms)
all_case true b c n m ms e f g later =
    let or : any_renews (m ∷ ms) ≡ true = simp e (or-true (renews m)) in
    let first : all_counted n (m ∷ ms) ≡ 0 + expiries ms = subst (λ (x : Bool). all_counted (counted n m) ms ≡ (if x then 0 else counted n m) + expiries ms) e (later (counted n m)) in
    let rest : expiries (m ∷ ms) ≡ expiries ms = simp e refl in
    let none : (if any_renews (m ∷ ms) then 0 else n) ≡ 0 = ap (λ (x : Bool). if x then 0 else n) or in
    omega (arith, first, rest, none)
all_case false true c n m ms e f g later =
    let or : any_renews (m ∷ ms) ≡ true = simp f refl in
    let all : since_last ms ≡ ms = since_all ms e in
    let anew : counted n m ≡ 0 = simp f refl in
    let first : all_counted n (m ∷ ms) ≡ 0 + expiries ms =
    subst (λ (k : ℕ). all_counted k ms ≡ 0 + expiries ms) (sym anew) (subst (λ (x : Bool). all_counted 0 ms ≡ (if x then 0 else 0) + expiries ms) e (later 0)) in
    let here : expiries ms ≡ count ms = ap count all in
    let rest : expiries (m ∷ ms) ≡ count ms = simp (e, f) refl in
    let none : (if any_renews (m ∷ ms) then 0 else n) ≡ 0 = ap (λ (x : Bool). if x then 0 else n) or in
    omega (arith, first, here, rest, none)
all_case false false c n m ms e f g later =
    let or : any_renews (m ∷ ms) ≡ false = simp (e, f) refl in
    let all : since_last ms ≡ ms = since_all ms e in
    let one : counted n m ≡ (if c then suc n else n) = simp (f, g) refl in
    let first : all_counted n (m ∷ ms) ≡ counted n m + expiries ms = subst (λ (x : Bool). all_counted (counted n m) ms ≡ (if x then 0 else counted n m) + expiries ms) e (later (counted n m)) in
    let here : expiries ms ≡ count ms = ap count all in
    let rest : expiries (m ∷ ms) ≡ (if c then 1 else 0) + count ms = simp (e, f, g) refl in
    let none : (if any_renews (m ∷ ms) then 0 else n) ≡ n = ap (λ (x : Bool). if x then 0 else n) or in
    by c one first here rest none
  where
    by : (c : Bool) → counted n m ≡ (if c then suc n else n) → all_counted n (m ∷ ms) ≡ counted n m + expiries ms → expiries ms ≡ count ms → expiries (m ∷ ms) ≡ (if c then 1 else 0) + count ms
        → (if any_renews (m ∷ ms) then 0 else n) ≡ n → all_counted n (m ∷ ms) ≡ (if any_renews (m ∷ ms) then 0 else n) + expiries (m ∷ ms)
    by true one first here rest none = let up : counted n m ≡ suc n = one in let on : expiries (m ∷ ms) ≡ 1 + count ms = rest in omega (arith, first, here, up, on, none)
    by false one first here rest none = let up : counted n m ≡ n = one in let on : expiries (m ∷ ms) ≡ 0 + count ms = rest in omega (arith, first, here, up, on, none)

all_are : (n : ℕ) (ms : List Moment) → all_counted n ms ≡ (if any_renews ms then 0 else n) + expiries ms
all_are n [] = omega arith
all_are n (m ∷ ms) = all_case (any_renews ms) (renews m) (expires m) n m ms refl refl refl (λ k. all_are k ms)

zero_case : (b : Bool) (n : ℕ) → (if b then 0 else 0) + n ≡ n
zero_case true n = omega arith
zero_case false n = omega arith

counted_from_none : (ms : List Moment) → all_counted 0 ms ≡ expiries ms
counted_from_none ms = all_are 0 ms ∙ zero_case (any_renews ms) (expiries ms)

-- ---- a life ----
lives : (n : ℕ) (g : Effect) (inputs : List (Input × ℕ)) → Counted n g.end g.notes → Counted (all_counted n (moments g.end inputs)) (after_inputs g inputs).end (after_inputs g inputs).notes
lives n g [] c = c
lives n g (i ∷ inputs) c = lives (counted n (moment_of g.end i.0 i.1)) (followed_by g (step g.end i.0 i.1)) inputs (counts_step n g.end i.0 i.1 g.notes c)

begins : (g : Effect) → IsNew g → Counted 0 g.end g.notes
begins _ (Asks pair user node config now) = inl (refl, omega arith, none_told)
begins _ (Accepts pair partner proposed config now) = inl (refl, omega arith, other_told [] _ (λ e. absurd (cc e)) none_told)

step_retries : (s : State) (i : Input) (now : ℕ) (b : Bool) → Ticked s b (step s i now) → (step s i now).end.config.retries ≡ s.config.retries
step_retries s i now true x = x.retries
step_retries s i now false x = x.retries

same_retries : (g : Effect) (inputs : List (Input × ℕ)) → (after_inputs g inputs).end.config.retries ≡ g.end.config.retries
same_retries g [] = refl
same_retries g (i ∷ inputs) = same_retries (followed_by g (step g.end i.0 i.1)) inputs ∙ step_retries g.end i.0 i.1 (expires (moment_of g.end i.0 i.1)) (steps g.end i.0 i.1)

pub fails_after_retries : FailsAfterRetries
fails_after_retries g new inputs =
    let c = lives 0 g inputs (begins g new) in
    let n : all_counted 0 (moments g.end inputs) ≡ expiries (moments g.end inputs) = counted_from_none (moments g.end inputs) in
    let retries : (after_inputs g inputs).end.config.retries ≡ g.end.config.retries = same_retries g inputs in
    let t = counts_tell _ (after_inputs g inputs).end (after_inputs g inputs).notes c in
    (λ w. sym n ∙ t.0 w ∙ ap (λ k. k + 1) retries, λ e. t.1 (n ∙ e ∙ ap (λ k. k + 1) (sym retries)))
