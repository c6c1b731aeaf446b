-- How many messages and early fragments an end holds: one that arrives adds at most one, a take leaves fewer, and all else leaves them.
use Rattle.std.proofs.Common.{◌≡◌, ◌≤◌, ◌<◌, ◌+◌, ◌-◌, ◌∙◌, ℕ, zero, suc, refl, ap, subst, arith, length, length-append, length-drop, drop, List, [], ◌∷◌, ◌++◌, replicate}
use Rattle.std.proofs.lemmas.Bool.Decides.{nat_tests}
use Rattle.std.specs.Prelude.{Bool, true, false, if◌then◌else◌, not, ◌&&◌, ◌||◌, ◌^◌, min, is_ok, nat_le, nat_lt, slice_get, slice_set, Option, Some, None}
use Rattle.circuit_reassembly.specs.Fragments.{Answer, More, Whole, Too_long, gather_step}
use Rattle.radio_base.specs.Modulus.{place_of}
use Rattle.circuit_l4.specs.Moves as m
use Rattle.circuit_l4.specs.State.{Effect, State, begin, is_up, written, Appended, Receipt, Receiving, inbox}
use Rattle.circuit_l4.specs.Table as t
use Rattle.circuit_l4.specs.State as r
use Rattle.circuit_l4.specs.declared.piece.Piece.{Piece}
use Rattle.circuit_l4.specs.declared.notice.EndNotice.TheVariants.{FailedOversize, Opened}
use Rattle.circuit_l4.specs.declared.phase.EndPhase.{EndPhase}
use Rattle.circuit_l4.specs.declared.phase.EndPhase.TheVariants.{Connecting, Up, Closing, Ended}
use Rattle.circuit_l4.specs.declared.owed.Owed.{Owed}
use Rattle.circuit_l4.specs.declared.transport.Flags.{Flags}
use Rattle.circuit_l4.specs.declared.transport.Transport.{Transport}
use Rattle.circuit_l4.specs.declared.transport.Transport.TheVariants.{Request, Accept, Refuse, Disconnect, Disconnected, Info, InfoAck}
use Rattle.node_model.proofs.Weights.{filled}

abbrev pub count : Receiving → ℕ
count h = length (inbox h) + filled h.early

-- ---- the receiving half

-- what came early, one place nearer
shifted : (xs : List (Option Piece)) → filled (xs ++ None ∷ []) ≡ filled xs
shifted [] = refl
shifted (None ∷ xs) = shifted xs
shifted (Some x ∷ xs) = ap suc (shifted xs)

nearer : (xs : List (Option Piece)) → filled (drop 1 (xs ++ None ∷ [])) ≤ filled xs
nearer [] = omega arith
nearer (None ∷ xs) = omega (arith, shifted xs)
nearer (Some x ∷ xs) = omega (arith, shifted xs)

with_message_most : (m : List ℕ) (ms : List (List ℕ)) → length (r.with_message m ms) ≤ suc (length ms)
with_message_most [] ms = omega arith
with_message_most (b ∷ bs) ms = omega (arith, length-append ms ((b ∷ bs) ∷ []))

-- what is appended adds at most one
appended_most : (h : Receiving) (g : List ℕ × Answer) → count (r.appended h g).half ≤ suc (count h)
appended_most h (held, More) = omega (arith, nearer h.early)
appended_most h (held, Whole m) =
    omega (arith, nearer h.early, with_message_most m h.received, length-drop h.taken (r.with_message m h.received), length-drop h.taken h.received)
appended_most h (held, Too_long) = omega arith

-- where the next fragment came early, what is appended adds none
early_most : (h : Receiving) (g : List ℕ × Answer) → filled (drop 1 (h.early ++ None ∷ [])) + 1 ≤ filled h.early → count (r.appended h g).half ≤ count h
early_most h (held, More) e = omega (arith, e)
early_most h (held, Whole m) e =
    omega (arith, e, with_message_most m h.received, length-drop h.taken (r.with_message m h.received), length-drop h.taken h.received)
early_most h (held, Too_long) e = omega arith

is_first : (early : List (Option Piece)) (p : Piece) → r.first_early early ≡ Some p → filled (drop 1 (early ++ None ∷ [])) + 1 ≤ filled early
is_first [] p e = absurd (cc e)
is_first (None ∷ xs) p e = absurd (cc e)
is_first (Some x ∷ xs) p e = omega (arith, shifted xs)

may_be_first : (b : Bool) (early : List (Option Piece)) (p : Piece) → (if b then None else r.first_early early) ≡ Some p → filled (drop 1 (early ++ None ∷ [])) + 1 ≤ filled early
may_be_first true early p e = absurd (cc e)
may_be_first false early p e = is_first early p e

moved_if : (k : ℕ) (h : Receiving) (a : Appended) (b : Bool) → a.fits ≡ b → count a.half ≤ count h → ((g : Receiving) → count (r.follow_by k g).half ≤ count g)
    → count (if a.fits then r.follow_by k a.half else a).half ≤ count h
moved_if k h a true e few more = rw e (omega (arith, few, more a.half))
moved_if k h a false e few more = rw e few

moved_by : (k : ℕ) (h : Receiving) (o : Option Piece) → r.next_early h ≡ o → ((g : Receiving) → count (r.follow_by k g).half ≤ count g)
    → count (elim o as (λ x. Appended) [ None ↦ record { half = h; fits = true } | Some p ↦ (let a = r.append p.text.items p.more h in if a.fits then r.follow_by k a.half else a) ]).half ≤ count h
moved_by k h None e more = omega arith
moved_by k h (Some p) e more =
    let a : Appended = r.append p.text.items p.more h in
    let first = may_be_first (r.busy h || nat_le (2 ^ 62) h.got) h.early p e in
    moved_if k h a a.fits refl (early_most h (gather_step h.gathered p.text.items p.more) first) more

moved_most : (k : ℕ) (h : Receiving) → count (r.follow_by k h).half ≤ count h
moved_most zero h = omega arith
moved_most (suc k) h = moved_by k h (r.next_early h) refl (moved_most k)

next_if : (h : Receiving) (a : Appended) (b : Bool) → a.fits ≡ b → count a.half ≤ suc (count h) → count (if a.fits then r.follow a.half else a).half ≤ suc (count h)
next_if h a true e few = rw e (omega (arith, few, moved_most (length a.half.early) a.half))
next_if h a false e few = rw e few

next_most : (text : List ℕ) (more : Bool) (h : Receiving) → count (r.append_next text more h).half ≤ suc (count h)
next_most text more h = next_if h (r.append text more h) (r.append text more h).fits refl (appended_most h (gather_step h.gathered text more))

set_most : (xs : List (Option Piece)) (at : ℕ) (x : Piece) → filled (slice_set xs at (Some x)) ≤ suc (filled xs)
set_most [] at x = omega arith
set_most (None ∷ xs) zero x = omega arith
set_most (Some y ∷ xs) zero x = omega arith
set_most (None ∷ xs) (suc at) x = set_most xs at x
set_most (Some y ∷ xs) (suc at) x = omega (arith, set_most xs at x)

kept_most : (place : ℕ) (piece : Piece) (early : List (Option Piece)) (b : Bool) → filled (if b then slice_set early place (Some piece) else early) ≤ suc (filled early)
kept_most place piece early true = set_most early place piece
kept_most place piece early false = omega arith

at_most : (n : ℕ) (piece : Piece) (h : Receiving) (b : Bool) → count (if b then r.receive_early n piece h else r.receive_next piece h).half ≤ suc (count h)
at_most n piece h true = omega (arith, kept_most (n - h.got) piece h.early (r.is_free (slice_get h.early (n - h.got))))
at_most n piece h false = next_most piece.text.items piece.more h

placed_most : (piece : Piece) (h : Receiving) (o : Option ℕ) → count (elim o as (λ x. Receipt) [ None ↦ r.ignored h | Some n ↦ r.receive_at n piece h ]).half ≤ suc (count h)
placed_most piece h None = omega arith
placed_most piece h (Some n) = at_most n piece h (nat_lt h.got n)

came_if : (window tx : ℕ) (piece : Piece) (h : Receiving) (b : Bool)
    → count (if b then r.ignored h else (elim (place_of 256 tx h.got window) as (λ x. Receipt) [ None ↦ r.ignored h | Some n ↦ r.receive_at n piece h ])).half ≤ suc (count h)
came_if window tx piece h true = omega arith
came_if window tx piece h false = placed_most piece h (place_of 256 tx h.got window)

-- a fragment that comes adds at most one
received_most : (window tx : ℕ) (piece : Piece) (h : Receiving) → count (r.receive window tx piece h).half ≤ suc (count h)
received_most window tx piece h = came_if window tx piece h (r.busy h || nat_le (2 ^ 62) h.got)

-- a take leaves fewer, and so does what follows it
taken_less : (h : Receiving) → 0 < length (inbox h) → count (r.without_first h) < count h
taken_less h some = omega (arith, some, length-drop h.taken h.received, length-drop (h.taken + 1) h.received)

taken_on_less : (h : Receiving) → 0 < length (inbox h) → count (r.follow (r.without_first h)).half < count h
taken_on_less h some = omega (arith, taken_less h some, moved_most (length h.early) (r.without_first h))

-- ---- an end

-- two states of an end with the same receiving half
abbrev Same : State → State → Type 0
Same s u = u.receiving ≡ s.receiving

either : (s x y : State) (b : Bool) → Same s x → Same s y → Same s (if b then x else y)
either s x y true e f = e
either s x y false e f = f

either_effect : (s : State) (x y : Effect) (b : Bool) → Same s x.end → Same s y.end → Same s (if b then x else y).end
either_effect s x y true e f = e
either_effect s x y false e f = f

wait_if_out : (now : ℕ) (s : State) → Same s (m.wait_if_out now s)
wait_if_out now s = either s _ _ (nat_lt s.sending.acked s.sending.sent) refl refl

waits_by : (now : ℕ) (s : State) (o : Option ℕ) → Same s (elim o as (λ d. State) [ None ↦ m.wait now s | Some d ↦ s ])
waits_by now s None = refl
waits_by now s (Some d) = refl

counts_out : (now many : ℕ) (s : State) → Same s (m.count_out now many s)
counts_out now many s = let u : State = m.put_out many s in either u _ _ (nat_lt 0 many) (waits_by now u u.answer_due) refl

fills : (now : ℕ) (g : Effect) → Same g.end (m.fill now g).end
fills now g = counts_out now (m.fill_count g.end) g.end

finishes : (now : ℕ) (g : Effect) → Same g.end (m.finish now g).end
finishes now g = either_effect g.end _ _ (m.is_done g.end) refl refl

supplies : (now : ℕ) (g : Effect) → Same g.end (m.supply now g).end
supplies now g = finishes now (m.fill now g) ∙ fills now g

advances : (now x : ℕ) (s : State) → Same s (m.advance now x s)
advances now x s =
    let u : State = record s { sending = record s.sending { acked = x }; tries = 0 } in
    either s _ _ (nat_lt s.sending.acked x) (wait_if_out now u) refl

holds : (now : ℕ) (choke : Bool) (s : State) → Same s (m.hold now choke s)
holds now choke s = either s _ _ choke refl (either s _ _ s.choked (wait_if_out now (record s { choked = false })) refl)

acknowledges : (now : ℕ) (flags : Flags) (o : Option ℕ) (s : State) → Same s (m.acknowledge_by now flags o s).end
acknowledges now flags None s = refl
acknowledges now flags (Some x) s = holds now flags.choke (m.advance now x s) ∙ advances now x s

answers : (now : ℕ) (nak : Bool) (owed : Owed) (g : Effect) → Same g.end (m.answer_all now nak owed g).end
answers now nak owed g =
    let a : Effect = m.answer nak owed g in
    supplies now (m.emit_owed owed a) ∙ either_effect g.end _ _ (nak || m.is_silent owed g.end) refl refl

-- at most one more
abbrev pub OneMore : State → Effect → Type 0
OneMore s g = count g.end.receiving ≤ suc (count s.receiving)

by_same : (s : State) (g : Effect) → Same s g.end → OneMore s g
by_same s g e = rw e (omega arith)

texts_by : (now : ℕ) (owed : Owed) (c : Receipt) (g : Effect) (b : Bool) → count c.half ≤ suc (count g.end.receiving)
    → count (if b then m.answer_all now c.nak owed (m.with_receiving c.half g) else m.end_with FailedOversize (m.with_receiving c.half g)).end.receiving ≤ suc (count g.end.receiving)
texts_by now owed c g true few = rw (answers now c.nak owed (m.with_receiving c.half g)) few
texts_by now owed c g false few = few

infos : (s : State) (now tx rx : ℕ) (flags : Flags) (piece : Piece) (g : Effect) → Same s g.end → OneMore s (m.on_info now tx rx flags piece g)
infos s now tx rx flags piece g same =
    let a = m.acknowledge now rx flags g.end in
    let e = acknowledges now flags (place_of 256 rx g.end.sending.acked (suc (g.end.sending.sent - g.end.sending.acked))) g.end ∙ same in
    let c : Receipt = r.receive a.end.window tx piece a.end.receiving in
    let few : count (m.answer_text now a.owed c (record g { end = a.end })).end.receiving ≤ suc (count a.end.receiving) =
    texts_by now a.owed c (record g { end = a.end }) c.fits (received_most a.end.window tx piece a.end.receiving) in
    subst (λ (h : Receiving). count (m.answer_text now a.owed c (record g { end = a.end })).end.receiving ≤ suc (count h)) e few

acks : (s : State) (now rx : ℕ) (flags : Flags) (g : Effect) → Same s g.end → OneMore s (m.on_info_ack now rx flags g)
acks s now rx flags g same =
    let a = m.acknowledge now rx flags g.end in
    let e = acknowledges now flags (place_of 256 rx g.end.sending.acked (suc (g.end.sending.sent - g.end.sending.acked))) g.end ∙ same in
    let h : Effect = m.emit_owed a.owed (record g { end = a.end }) in
    by_same s (m.supply now h) (supplies now h ∙ e)

connecting : (now : ℕ) (x : Transport) (s : State) → OneMore s (t.arrive_connecting now x (begin s))
connecting now (Accept to own window) s =
    let h : Effect = m.note (Opened (t.common_window s.config.window window)) (m.on_state (t.come_up now own window) (begin s)) in
    by_same s (m.finish now h) (finishes now h)
connecting now (Refuse to) s = omega arith
connecting now (Request pair window user node) s = omega arith
connecting now (Disconnect to) s = omega arith
connecting now (Disconnected to) s = omega arith
connecting now (Info to tx rx flags text) s = omega arith
connecting now (InfoAck to rx flags) s = omega arith

up : (now : ℕ) (x : Transport) (s : State) → OneMore s (t.arrive_up now x (begin s))
up now (Info to tx rx flags text) s = infos s now tx rx flags (record { text = text; more = flags.more }) (t.note_activity now (begin s)) refl
up now (InfoAck to rx flags) s = acks s now rx flags (t.note_activity now (begin s)) refl
up now (Disconnect to) s = omega arith
up now (Request pair window user node) s = omega arith
up now (Accept to own window) s = omega arith
up now (Refuse to) s = omega arith
up now (Disconnected to) s = omega arith

closing : (x : Transport) (s : State) → OneMore s (t.arrive_closing x (begin s))
closing (Disconnect to) s = omega arith
closing (Disconnected to) s = omega arith
closing (Request pair window user node) s = omega arith
closing (Accept to own window) s = omega arith
closing (Refuse to) s = omega arith
closing (Info to tx rx flags text) s = omega arith
closing (InfoAck to rx flags) s = omega arith

arrives_in : (phase : EndPhase) (now : ℕ) (x : Transport) (s : State) → OneMore s (t.arrive_in phase now x (begin s))
arrives_in Connecting now x s = connecting now x s
arrives_in Up now x s = up now x s
arrives_in Closing now x s = closing x s
arrives_in Ended now x s = omega arith

pub arrives : (s : State) (x : Transport) (now : ℕ) → OneMore s (t.step s (t.Arrive x) now)
arrives s x now = arrives_in s.phase (min now (2 ^ 62)) x s

pub writes : (s : State) (message : List ℕ) (now : ℕ) → Same s (t.step s (t.Write message) now).end
writes s message now = either_effect s (t.write (min now (2 ^ 62)) message (begin s)) (begin s) (is_ok (t.write_answer s message)) (fills (min now (2 ^ 62)) (m.on_state (λ x. record x { last_active = min now (2 ^ 62); sending = written message x.sending }) (begin s))) refl

pub closes : (s : State) (now : ℕ) → Same s (t.step s t.Close now).end
closes s now = either_effect s (t.close_in_turn (min now (2 ^ 62)) (begin s)) (begin s) (t.may_close s.phase) (finishes (min now (2 ^ 62)) (m.on_state (λ x. record x { closing = true }) (begin s))) refl

resumes : (s : State) (a : Appended) (g : Effect) (b : Bool) → count a.half < count s.receiving
    → count (if b then m.emit_ack false (m.with_receiving a.half g) else m.end_with FailedOversize (m.with_receiving a.half g)).end.receiving < count s.receiving
resumes s a g true e = e
resumes s a g false e = e

takes_by : (s : State) (b : Bool) → 0 < length (inbox s.receiving)
    → (let h = r.without_first s.receiving in count (if b then t.resume (m.with_receiving h (begin s)) else m.with_receiving h (begin s)).end.receiving < count s.receiving)
takes_by s true some =
    let h : Receiving = r.without_first s.receiving in
    resumes s (r.follow h) (m.with_receiving h (begin s)) (r.follow h).fits (taken_on_less s.receiving some)
takes_by s false some = taken_less s.receiving some

pub takes : (s : State) (now : ℕ) → 0 < length (inbox s.receiving) → count (t.step s t.Take now).end.receiving < count s.receiving
takes s now some =
    let e : nat_lt 0 (length (inbox s.receiving)) ≡ true = grind (arith, nat_tests, some) in
    rw e (takes_by s (is_up s.phase && r.busy s.receiving && not (r.busy (r.without_first s.receiving))) some)

pub none_filled : (n : ℕ) → filled (replicate n None) ≡ 0
none_filled zero = refl
none_filled (suc n) = none_filled n
