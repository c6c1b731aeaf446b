-- What an input leaves of what came to an end: it stays, and a message that came whole is put behind it. Whatever holds of what was received and
-- of how much of it was taken, and still holds with one message of 1 to 8,192 bytes more, is kept.
use Rattle.std.proofs.Common.{◌≡◌, ◌≤◌, ◌∙◌, ℕ, zero, suc, refl, sym, subst, arith, length, List, [], ◌∷◌, ◌++◌}
use Rattle.std.proofs.lemmas.Bool.Decides.{nat_tests}
use Rattle.std.specs.Prelude.{Bool, true, false, if◌then◌else◌, not, ◌&&◌, ◌||◌, ◌+◌, ◌^◌, min, is_ok, nat_le, nat_lt, Option, Some, None}
use Rattle.circuit_reassembly.specs.Fragments.{Answer, More, Whole, Too_long, gather_step}
use Rattle.circuit_reassembly.specs.declared.TheConstants.{LONGEST}
use Rattle.radio_base.specs.Modulus.{place_of}
use Rattle.circuit_l4.specs.Moves as m
use Rattle.circuit_l4.specs.State.{Effect, State, begin, is_up, Appended, Receipt, Receiving, inbox, written}
use Rattle.circuit_l4.specs.Table as t
use Rattle.circuit_l4.specs.State as r
use Rattle.circuit_l4.specs.declared.piece.Piece.{Piece}
use Rattle.circuit_l4.specs.declared.notice.EndNotice.TheVariants.{FailedOversize, Opened}
use Rattle.circuit_l4.specs.declared.phase.EndPhase.{EndPhase}
use Rattle.circuit_l4.specs.declared.phase.EndPhase.TheVariants.{Connecting, Up, Closing, Ended}
use Rattle.circuit_l4.specs.declared.owed.Owed.{Owed}
use Rattle.circuit_l4.specs.declared.transport.Flags.{Flags}
use Rattle.circuit_l4.specs.declared.transport.Transport.{Transport}
use Rattle.circuit_l4.specs.declared.transport.Transport.TheVariants.{Request, Accept, Refuse, Disconnect, Disconnected, Info, InfoAck}
use Rattle.node_core.proofs.Unclosed.{IsMessage, Same, acknowledged, answers, fills, finishes, acks, same, takes_closing, ticks_same}

-- it is closing where it was, and of what it received holds what held
pub record Leaves (Q : List (List ℕ) → ℕ → Type 0) (s u : State) : Type 0 where
  pub closing : u.closing ≡ s.closing
  pub received : Q s.receiving.received s.receiving.taken → Q u.receiving.received u.receiving.taken

module _ (Q : List (List ℕ) → ℕ → Type 0) (more : (ms : List (List ℕ)) (k : ℕ) (x : List ℕ) → IsMessage x → Q ms k → Q (ms ++ x ∷ []) k) where
  -- ---- the receiving half

  abbrev Kept : Receiving → Type 0
  Kept h = Q h.received h.taken

  with_kept : (x : List ℕ) (h : Receiving) → length x ≤ 8192 → Kept h → Q (r.with_message x h.received) h.taken
  with_kept [] h few a = a
  with_kept (b ∷ bs) h few a = more h.received h.taken (b ∷ bs) (omega arith, few) a

  abbrev Fits : Answer → Type 0
  Fits More = Unit {0}
  Fits (Whole x) = length x ≤ 8192
  Fits Too_long = Unit {0}

  abbrev Fitting : List ℕ × Answer → Type 0
  Fitting g = Fits g.1

  gather_fits : (held piece : List ℕ) (on : Bool) → Fitting (gather_step held piece on)
  gather_fits held piece on = by (nat_lt LONGEST (length (held ++ piece))) on refl
    where
      by : (b c : Bool) → nat_lt LONGEST (length (held ++ piece)) ≡ b → Fitting (if b then (held, Too_long) else (if c then (held ++ piece, More) else ([], Whole (held ++ piece))))
      by true c e = tt
      by false true e = tt
      by false false e = grind (arith, nat_tests, e)

  appended_kept : (h : Receiving) (g : List ℕ × Answer) → Fitting g → Kept h → Kept (r.appended h g).half
  appended_kept h (held, More) f a = a
  appended_kept h (held, Whole x) f a = with_kept x h f a
  appended_kept h (held, Too_long) f a = a

  append_kept : (text : List ℕ) (on : Bool) (h : Receiving) → Kept h → Kept (r.append text on h).half
  append_kept text on h a = appended_kept h (gather_step h.gathered text on) (gather_fits h.gathered text on) a

  moved_if : (k : ℕ) (a : Appended) (b : Bool) → a.fits ≡ b → Kept a.half → ((g : Receiving) → Kept g → Kept (r.follow_by k g).half)
      → Kept (if a.fits then r.follow_by k a.half else a).half
  moved_if k a true e s on = rw e (on a.half s)
  moved_if k a false e s on = rw e s

  moved_by : (k : ℕ) (h : Receiving) (o : Option Piece) → Kept h → ((g : Receiving) → Kept g → Kept (r.follow_by k g).half)
      → Kept (elim o as (λ x. Appended) [ None ↦ record { half = h; fits = true } | Some p ↦ (let a = r.append p.text.items p.more h in if a.fits then r.follow_by k a.half else a) ]).half
  moved_by k h None s on = s
  moved_by k h (Some p) s on =
      let a : Appended = r.append p.text.items p.more h in
      moved_if k a a.fits refl (append_kept p.text.items p.more h s) on

  moved_kept : (k : ℕ) (h : Receiving) → Kept h → Kept (r.follow_by k h).half
  moved_kept zero h s = s
  moved_kept (suc k) h s = moved_by k h (r.next_early h) s (moved_kept k)

  next_if : (a : Appended) (b : Bool) → a.fits ≡ b → Kept a.half → Kept (if a.fits then r.follow a.half else a).half
  next_if a true e s = rw e (moved_kept (length a.half.early) a.half s)
  next_if a false e s = rw e s

  next_kept : (text : List ℕ) (on : Bool) (h : Receiving) → Kept h → Kept (r.append_next text on h).half
  next_kept text on h s = let a : Appended = r.append text on h in next_if a a.fits refl (append_kept text on h s)

  at_kept : (n : ℕ) (piece : Piece) (h : Receiving) (b : Bool) → Kept h → Kept (if b then r.receive_early n piece h else r.receive_next piece h).half
  at_kept n piece h true s = s
  at_kept n piece h false s = next_kept piece.text.items piece.more h s

  placed_kept : (piece : Piece) (h : Receiving) (o : Option ℕ) → Kept h → Kept (elim o as (λ x. Receipt) [ None ↦ r.ignored h | Some n ↦ r.receive_at n piece h ]).half
  placed_kept piece h None s = s
  placed_kept piece h (Some n) s = at_kept n piece h (nat_lt h.got n) s

  came_if : (window tx : ℕ) (piece : Piece) (h : Receiving) (b : Bool) → Kept h
      → Kept (if b then r.ignored h else (elim (place_of 256 tx h.got window) as (λ x. Receipt) [ None ↦ r.ignored h | Some n ↦ r.receive_at n piece h ])).half
  came_if window tx piece h true s = s
  came_if window tx piece h false s = placed_kept piece h (place_of 256 tx h.got window) s

  received_kept : (window tx : ℕ) (piece : Piece) (h : Receiving) → Kept h → Kept (r.receive window tx piece h).half
  received_kept window tx piece h s = came_if window tx piece h (r.busy h || nat_le (2 ^ 62) h.got) s

  -- ---- an end

  leaves : (s u : State) → Same s u → Leaves Q s u
  leaves s u e = record { closing = e.closing; received = λ a. subst Kept (sym e.receiving) a }

  then_leaves : (a b c : State) → Leaves Q a b → Leaves Q b c → Leaves Q a c
  then_leaves a b c x y = record { closing = y.closing ∙ x.closing; received = λ p. y.received (x.received p) }

  either_leaves : (s : State) (x y : Effect) (b : Bool) → Leaves Q s x.end → Leaves Q s y.end → Leaves Q s (if b then x else y).end
  either_leaves s x y true e f = e
  either_leaves s x y false e f = f

  with_half : (s : State) (h : Receiving) → (Kept s.receiving → Kept h) → Leaves Q s (record s { receiving = h })
  with_half s h f = record { closing = refl; received = f }

  texts_by : (now : ℕ) (owed : Owed) (c : Receipt) (g : Effect) (b : Bool) → (Kept g.end.receiving → Kept c.half)
      → Leaves Q g.end (if b then m.answer_all now c.nak owed (m.with_receiving c.half g) else m.end_with FailedOversize (m.with_receiving c.half g)).end
  texts_by now owed c g true f =
      let h : Effect = m.with_receiving c.half g in
      then_leaves g.end h.end _ (with_half g.end c.half f) (leaves h.end _ (answers now c.nak owed h))
  texts_by now owed c g false f = record { closing = refl; received = f }

  infos : (now tx rx : ℕ) (flags : Flags) (piece : Piece) (g : Effect) → Leaves Q g.end (m.on_info now tx rx flags piece g).end
  infos now tx rx flags piece g =
      let a = m.acknowledge now rx flags g.end in
      let c : Receipt = r.receive a.end.window tx piece a.end.receiving in
      let h : Effect = record g { end = a.end } in
      then_leaves g.end a.end _ (leaves g.end a.end (acknowledged now rx flags g.end))
      (texts_by now a.owed c h c.fits (λ p. received_kept a.end.window tx piece a.end.receiving p))

  pub itself : (s : State) → Leaves Q s s
  itself s = record { closing = refl; received = λ p. p }

  connecting : (now : ℕ) (x : Transport) (s : State) → Leaves Q s (t.arrive_connecting now x (begin s)).end
  connecting now (Accept to own window) s =
      let h : Effect = m.note (Opened (t.common_window s.config.window window)) (m.on_state (t.come_up now own window) (begin s)) in
      let x = finishes now h in
      leaves s (m.finish now h).end (same s (m.finish now h).end x.closing x.receiving x.wrote)
  connecting now (Refuse to) s = record { closing = refl; received = λ p. p }
  connecting now (Request pair window user node) s = itself s
  connecting now (Disconnect to) s = itself s
  connecting now (Disconnected to) s = itself s
  connecting now (Info to tx rx flags text) s = itself s
  connecting now (InfoAck to rx flags) s = itself s

  up : (now : ℕ) (x : Transport) (s : State) → Leaves Q s (t.arrive_up now x (begin s)).end
  up now (Info to tx rx flags text) s =
      let g : Effect = t.note_activity now (begin s) in
      let x = infos now tx rx flags (record { text = text; more = flags.more }) g in
      record { closing = x.closing; received = x.received }
  up now (InfoAck to rx flags) s =
      let g : Effect = t.note_activity now (begin s) in
      let x = leaves g.end _ (acks now rx flags g) in
      record { closing = x.closing; received = x.received }
  up now (Disconnect to) s = record { closing = refl; received = λ p. p }
  up now (Request pair window user node) s = itself s
  up now (Accept to own window) s = itself s
  up now (Refuse to) s = itself s
  up now (Disconnected to) s = itself s

  closing_arrives : (x : Transport) (s : State) → Leaves Q s (t.arrive_closing x (begin s)).end
  closing_arrives (Disconnect to) s = record { closing = refl; received = λ p. p }
  closing_arrives (Disconnected to) s = record { closing = refl; received = λ p. p }
  closing_arrives (Request pair window user node) s = itself s
  closing_arrives (Accept to own window) s = itself s
  closing_arrives (Refuse to) s = itself s
  closing_arrives (Info to tx rx flags text) s = itself s
  closing_arrives (InfoAck to rx flags) s = itself s

  arrives_in : (phase : EndPhase) (now : ℕ) (x : Transport) (s : State) → Leaves Q s (t.arrive_in phase now x (begin s)).end
  arrives_in Connecting now x s = connecting now x s
  arrives_in Up now x s = up now x s
  arrives_in Closing now x s = closing_arrives x s
  arrives_in Ended now x s = itself s

  pub arrives : (s : State) (x : Transport) (now : ℕ) → Leaves Q s (t.step s (t.Arrive x) now).end
  arrives s x now = arrives_in s.phase (min now (2 ^ 62)) x s

  pub writes : (s : State) (message : List ℕ) (now : ℕ) → Leaves Q s (t.step s (t.Write message) now).end
  writes s message now =
      let at = min now (2 ^ 62) in
      let h : Effect = m.on_state (λ x. record x { last_active = at; sending = written message x.sending }) (begin s) in
      let x = fills at h in
      either_leaves s (t.write at message (begin s)) (begin s) (is_ok (t.write_answer s message))
      (record { closing = x.closing; received = λ a. subst Kept (sym x.receiving) a }) (itself s)

  pub ticks : (s : State) (now : ℕ) → Leaves Q s (t.step s t.Tick now).end
  ticks s now = leaves s _ (ticks_same s now)

  -- ---- takes

  resumed : (a : Appended) (g : Effect) (b : Bool) → Kept a.half → Kept (if b then m.emit_ack false (m.with_receiving a.half g) else m.end_with FailedOversize (m.with_receiving a.half g)).end.receiving
  resumed a g true p = p
  resumed a g false p = p

  took : (s : State) (b : Bool) → (let h = r.without_first s.receiving in Kept h → Kept (if b then t.resume (m.with_receiving h (begin s)) else m.with_receiving h (begin s)).end.receiving)
  took s true p =
      let h : Receiving = r.without_first s.receiving in
      resumed (r.follow h) (m.with_receiving h (begin s)) (r.follow h).fits (moved_kept (length h.early) h p)
  took s false p = p

  abbrev from_busy : State → Bool
  from_busy s = is_up s.phase && r.busy s.receiving && not (r.busy (r.without_first s.receiving))

  -- one of them is taken
  pub takes_one : (s : State) (now : ℕ) → nat_lt 0 (length (inbox s.receiving)) ≡ true → Q s.receiving.received (s.receiving.taken + 1) → Kept (t.step s t.Take now).end.receiving
  takes_one s now some p = by (nat_lt 0 (length (inbox s.receiving))) some
    where
      h : Receiving
      h = r.without_first s.receiving

      by : (b : Bool) → b ≡ true → Kept (if b then (if from_busy s then t.resume (m.with_receiving h (begin s)) else m.with_receiving h (begin s)) else begin s).end.receiving
      by true e = took s (from_busy s) p
      by false e = absurd (cc e)

  pub takes : (s : State) (now : ℕ) → (Kept s.receiving → Q s.receiving.received (s.receiving.taken + 1)) → Leaves Q s (t.step s t.Take now).end
  takes s now on = record { closing = takes_closing s now; received = λ p. by (nat_lt 0 (length (inbox s.receiving))) p }
    where
      h : Receiving
      h = r.without_first s.receiving

      by : (b : Bool) → Kept s.receiving → Kept (if b then (if from_busy s then t.resume (m.with_receiving h (begin s)) else m.with_receiving h (begin s)) else begin s).end.receiving
      by true p = took s (from_busy s) (on p)
      by false p = p
