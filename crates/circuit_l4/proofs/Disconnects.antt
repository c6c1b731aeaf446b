-- An end puts out a disconnect request only once all that was ever written is acknowledged.
use Rattle.std.proofs.Common.{◌≡◌, ℕ, zero, suc, ◌+◌, ◌<◌, ⊎_elim, min, Bool, true, false, ◌&&◌, ◌||◌, not, nat_eq, nat_le, nat_lt, if◌then◌else◌, is_ok, List, [], ◌∷◌, ◌++◌, length, slice_get, Contains, Option, Some, None, refl, ap, sym, ◌∙◌, arith}
use Rattle.std.proofs.lemmas.Bool.Decides.{nat_tests}
use Rattle.std.proofs.lemmas.List.Elements as elements
use Rattle.radio_base.specs.declared.modulus.TheConstants.{COUNT_MAX}
use Rattle.circuit_reassembly.specs.Fragments.{Fragment}
use Rattle.circuit_l4.specs.declared.transport.Flags.{Flags}
use Rattle.circuit_l4.specs.declared.pair.Pair.{Pair}
use Rattle.circuit_l4.specs.declared.transport.Transport.{Transport}
use Rattle.circuit_l4.specs.declared.transport.Transport.TheVariants.{Request, Accept, Refuse, Disconnect, Disconnected, Info, InfoAck}
use Rattle.circuit_l4.specs.declared.piece.Piece.{Piece}
use Rattle.circuit_l4.specs.declared.phase.EndPhase.{EndPhase}
use Rattle.circuit_l4.specs.declared.phase.EndPhase.TheVariants.{Connecting, Up, Closing, Ended}
use Rattle.circuit_l4.specs.declared.notice.EndNotice.{EndNotice}
use Rattle.circuit_l4.specs.declared.notice.EndNotice.TheVariants.{Opened, Refused, Closed, ClosedByPartner, FailedRetries, FailedOversize, FailedInactive}
use Rattle.circuit_l4.specs.declared.role.Role.{Role}
use Rattle.circuit_l4.specs.declared.role.Role.TheVariants.{Requester, Responder}
use Rattle.circuit_l4.specs.declared.owed.Owed.{Owed}
use Rattle.circuit_l4.specs.State.{Effect, Out, State, begin, info, info_ack, infos, is_up, total, written, Appended, Receipt, busy, receive, without_first, inbox, follow}
use Rattle.circuit_l4.specs.Moves.{acknowledge, again, answer, answer_all, wait, wait_if_out, on_state, begin_to_close, end_with, fill, fill_count, finish, with_receiving, is_done, note, on_info, on_info_ack, emit, emit_owed, supply, emit_ack}
use Rattle.circuit_l4.specs.Table.{Input, Write, Arrive, Tick, Close, Take, on_accept, common_window, arrive_in, ask_by, close, close_in_turn, due_in, expire, note_activity, is_due, may_close, come_up, unchoke, resume_by, retry, retry_in, step, step_at, take_first, take_from, tick, write_answer, write}
use Rattle.circuit_l4.specs.Laws.{Asks, Accepts, DisconnectsWhenAcknowledged, IsNew, followed_by, after_inputs}
use Rattle.circuit_l4.proofs.Parts.{either_going, itself, keeps-acknowledged, keeps-awaited_if_out, keeps-counted_out}

abbrev AllAcknowledged : State → Type 0
AllAcknowledged s = s.sending.acked ≡ total s.sending

-- an end that is Closing has nothing left to send
abbrev Closes : State → Type 0
Closes s = s.phase ≡ Closing → AllAcknowledged s

-- no disconnect request is put out
abbrev NoRequest : List Out → Type 0
NoRequest outs = (to : Pair) (number : Option ℕ) → Contains outs (Disconnect to, number) → ⊥

abbrev Sound : Effect → Type 0
Sound g = Closes g.end × ((to : Pair) (number : Option ℕ) → Contains g.outs (Disconnect to, number) → AllAcknowledged g.end)

-- a step of an end that is Up, so far
abbrev StaysUp : Effect → Type 0
StaysUp g = (g.end.phase ≡ Up) × NoRequest g.outs

up-closes : (s : State) → s.phase ≡ Up → Closes s
up-closes s e c = let two : Up ≡ Closing = sym e ∙ c in absurd (cc two)

no_request : (g : Effect) → Closes g.end → NoRequest g.outs → Sound g
no_request g c none = (c, λ to number w. absurd (none to number w))

up-sound : (g : Effect) → StaysUp g → Sound g
up-sound g up = no_request g (up-closes g.end up.0) up.1

-- ---- what is put out ----
nothing : NoRequest []
nothing to number w = let below : w.0 < 0 = w.1 in omega arith

both : (xs ys : List Out) → NoRequest xs → NoRequest ys → NoRequest (xs ++ ys)
both xs ys p q to number w = ⊎_elim (p to number) (q to number) (elements.Contains-append_cases xs ys (Disconnect to, number) w)

one : (t : Transport) (n : Option ℕ) → ((to : Pair) → t ≡ Disconnect to → ⊥) → NoRequest ((t, n) ∷ [])
one t n other to number w =
    ⊎_elim (nothing to number) (λ e. other to (ap (λ (o : Out). o.0) e)) (elements.Contains-push_cases [] (t, n) (Disconnect to, number) w)

one_more : (outs : List Out) (t : Transport) → NoRequest outs → ((to : Pair) → t ≡ Disconnect to → ⊥) → NoRequest (outs ++ (t, None) ∷ [])
one_more outs t none other = both outs ((t, None) ∷ []) none (one t None other)

no_request-info : (s : State) (n : ℕ) (f : Option Fragment) → NoRequest (info s n f)
no_request-info s n None = nothing
no_request-info s n (Some f) = one _ (Some n) (λ to e. absurd (cc e))

no_request-infos : (s : State) (n many : ℕ) → NoRequest (infos s n many)
no_request-infos s n zero = nothing
no_request-infos s n (suc many) = both _ _ (no_request-info s n (slice_get _ n)) (no_request-infos s (suc n) many)

more_infos : (g : Effect) (n many : ℕ) → NoRequest g.outs → NoRequest (g.outs ++ infos g.end n many)
more_infos g n many none = both g.outs (infos g.end n many) none (no_request-infos g.end n many)

-- ---- the parts of a step ----
pub third_of_and : (a b c : Bool) → (a && b && c) ≡ true → c ≡ true
third_of_and true true c h = h
third_of_and true false c h = absurd (cc h)
third_of_and false b c h = absurd (cc h)

finished : (done : Bool) (now : ℕ) (g : Effect) → is_done g.end ≡ done → Sound g → Sound (if done then begin_to_close now g else g)
finished true now g e h =
    let test : nat_eq g.end.sending.acked (total g.end.sending) ≡ true = third_of_and (is_up g.end.phase) g.end.closing _ e in
    let all : AllAcknowledged g.end = grind (arith, nat_tests) in
    (λ c. all, λ to number w. all)
finished false now g e h = h

finishes : (now : ℕ) (g : Effect) → Sound g → Sound (finish now g)
finishes now g h = finished (is_done g.end) now g refl h

fills : (now : ℕ) (g : Effect) → StaysUp g → StaysUp (fill now g)
fills now g up = ((keeps-counted_out g.end now (fill_count g.end)).0 ∙ up.0, more_infos g _ _ up.1)

supplies : (now : ℕ) (g : Effect) → StaysUp g → Sound (supply now g)
supplies now g up = finishes now (fill now g) (up-sound (fill now g) (fills now g up))

pays : (owed : Owed) (g : Effect) → StaysUp g → StaysUp (emit_owed owed g)
pays owed g up = (up.0, more_infos g owed.from owed.many up.1)

tells_got : (nak : Bool) (g : Effect) → NoRequest g.outs → NoRequest (emit_ack nak g).outs
tells_got nak g none = one_more g.outs (info_ack g.end nak) none (λ to e. absurd (cc e))

answers : (now : ℕ) (nak : Bool) (owed : Owed) (g : Effect) → StaysUp g → Sound (answer_all now nak owed g)
answers now nak owed g up =
    let a = answer nak owed g in
    let stays : StaysUp a = either_going StaysUp (nak || nat_eq (owed.many + fill_count g.end) 0) (emit_ack nak g) g (up.0, tells_got nak g up.1) up in
    supplies now (emit_owed owed a) (pays owed a stays)

-- an end that has ended isn't Closing
ends : (why : EndNotice) (g : Effect) → NoRequest g.outs → Sound (end_with why g)
ends why g none = no_request (end_with why g) (λ c. absurd (cc c)) none

texts : (now : ℕ) (owed : Owed) (c : Receipt) (fits : Bool) (g : Effect) → StaysUp g →
    Sound (if fits then answer_all now c.nak owed (with_receiving c.half g) else end_with FailedOversize (with_receiving c.half g))
texts now owed c true g up = answers now c.nak owed (with_receiving c.half g) up
texts now owed c false g up = ends FailedOversize (with_receiving c.half g) up.1

info_comes : (now tx rx : ℕ) (flags : Flags) (piece : Piece) (s : State) → s.phase ≡ Up → Sound (on_info now tx rx flags piece (note_activity now (begin s)))
info_comes now tx rx flags piece s up =
    let g = note_activity now (begin s) in
    let a = acknowledge now rx flags g.end in
    let c = receive a.end.window tx piece a.end.receiving in
    texts now a.owed c c.fits (record g { end = a.end }) ((keeps-acknowledged g.end now rx flags).0 ∙ up, nothing)

ack_comes : (now rx : ℕ) (flags : Flags) (s : State) → s.phase ≡ Up → Sound (on_info_ack now rx flags (note_activity now (begin s)))
ack_comes now rx flags s up =
    let g = note_activity now (begin s) in
    let a = acknowledge now rx flags g.end in
    let h : Effect = record g { end = a.end } in
    supplies now (emit_owed a.owed h) (pays a.owed h ((keeps-acknowledged g.end now rx flags).0 ∙ up, nothing))

accept_comes : (now : ℕ) (to : Pair) (window : ℕ) (s : State) → Sound (on_accept now to window (begin s))
accept_comes now to window s =
    let g = note (Opened (common_window s.config.window window)) (on_state (come_up now to window) (begin s)) in
    finishes now g (up-sound g (refl, nothing))

partner_closes : (s : State) → Sound (end_with ClosedByPartner (emit (Disconnected s.to) (begin s)))
partner_closes s = ends ClosedByPartner (emit (Disconnected s.to) (begin s)) (one (Disconnected s.to) None (λ to e. absurd (cc e)))

arrives : (p : EndPhase) (now : ℕ) (t : Transport) (s : State) → s.phase ≡ p → Closes s → Sound (arrive_in p now t (begin s))
arrives Connecting now (Accept to own window) s e c = accept_comes now own window s
arrives Connecting now (Refuse to) s e c = ends Refused (begin s) nothing
arrives Connecting now _ s e c = no_request (begin s) c nothing
arrives Up now (Info to tx rx flags text) s e c = info_comes now tx rx flags (record { text = text; more = flags.more }) s e
arrives Up now (InfoAck to rx flags) s e c = ack_comes now rx flags s e
arrives Up now (Disconnect to) s e c = partner_closes s
arrives Up now _ s e c = no_request (begin s) c nothing
arrives Closing now (Disconnect to) s e c = partner_closes s
arrives Closing now (Disconnected to) s e c = ends Closed (begin s) nothing
arrives Closing now _ s e c = no_request (begin s) c nothing
arrives Ended now t s e c = no_request (begin s) c nothing

-- ---- expiries ----
-- a try more
abbrev pub again_later : ℕ → Effect → Effect
again_later now g = on_state (λ s. wait now (record s { tries = suc s.tries })) g

asks : (r : Role) (now : ℕ) (g : Effect) → Closes g.end → NoRequest g.outs → Sound (again_later now (ask_by r g))
asks (Requester user node) now g c none =
    no_request (again_later now (ask_by (Requester user node) g)) c (one_more g.outs (Request g.end.pair g.end.config.window user node) none (λ to e. absurd (cc e)))
asks Responder now g c none = no_request (again_later now g) c none

tries_again : (p : EndPhase) (now : ℕ) (g : Effect) → g.end.phase ≡ p → Closes g.end → NoRequest g.outs → Sound (again_later now (retry_in p g))
tries_again Connecting now g e c none = asks g.end.role now g c none
tries_again Up now g e c none = no_request (again_later now (again g)) c (more_infos g _ _ none)
tries_again Closing now g e c none = (c, λ to number w. c e)
tries_again Ended now g e c none = no_request (again_later now g) c none

expires : (now : ℕ) (s : State) → Closes s → Sound (expire now (begin s))
expires now s c =
    let g = begin s in
    either_going Sound (nat_eq s.tries s.config.retries) (end_with FailedRetries g) (retry now g)
    (ends FailedRetries g nothing) (tries_again s.phase now g refl c nothing)

releases : (now : ℕ) (s : State) → s.phase ≡ Up → Sound (unchoke now (begin s))
releases now s up =
    let g = on_state (λ s. record s { choked = false; answer_due = None }) (begin s) in
    let f : Effect = fill now (again g) in
    let stays : StaysUp f = fills now (again g) (up, more_infos g _ _ nothing) in
    up-sound (on_state (wait_if_out now) f) ((keeps-awaited_if_out f.end f.end now (itself f.end)).0 ∙ stays.0, stays.1)

falls_due : (p : EndPhase) (now : ℕ) (s : State) → s.phase ≡ p → Closes s → Sound (due_in p now (begin s))
falls_due Connecting now s e c = expires now s c
falls_due Up now s e c = either_going Sound s.choked (unchoke now (begin s)) (expire now (begin s)) (releases now s e) (expires now s c)
falls_due Closing now s e c = expires now s c
falls_due Ended now s e c = no_request (begin s) c nothing

ticks : (now : ℕ) (s : State) → Closes s → Sound (tick now (begin s))
ticks now s c =
    let g = begin s in
    let due : Effect = if is_due s.answer_due now then due_in s.phase now g else g in
    either_going Sound (is_up s.phase && nat_le (s.last_active + s.config.inactive) now) (end_with FailedInactive g) due
    (ends FailedInactive g nothing)
    (either_going Sound (is_due s.answer_due now) (due_in s.phase now g) g (falls_due s.phase now s refl c) (no_request g c nothing))

-- ---- calls ----
refused : (ok : Bool) (g h : Effect) → ok ≡ false → Sound h → Sound (if ok then g else h)
refused true g h e k = absurd (cc e)
refused false g h e k = k

-- a message is accepted only by an end that is Up
pub not_up : (s : State) (message : List ℕ) → is_up s.phase ≡ false → is_ok (write_answer s message) ≡ false
not_up s message e = rw e refl

not_written : (now : ℕ) (message : List ℕ) (s : State) → is_up s.phase ≡ false → Closes s → Sound (step_at now (begin s) (Write message))
not_written now message s e c =
    refused (is_ok (write_answer s message)) (write now message (begin s)) (begin s) (not_up s message e) (no_request (begin s) c nothing)

writes : (p : EndPhase) (now : ℕ) (message : List ℕ) (s : State) → s.phase ≡ p → Closes s → Sound (step_at now (begin s) (Write message))
writes Up now message s e c =
    let g = on_state (λ s. record s { last_active = now; sending = written message s.sending }) (begin s) in
    either_going Sound (is_ok (write_answer s message)) (fill now g) (begin s)
    (up-sound (fill now g) (fills now g (e, nothing))) (no_request (begin s) c nothing)
writes Connecting now message s e c = not_written now message s (ap is_up e) c
writes Closing now message s e c = not_written now message s (ap is_up e) c
writes Ended now message s e c = not_written now message s (ap is_up e) c

closes : (now : ℕ) (s : State) → Closes s → Sound (close now (begin s))
closes now s c =
    let g = on_state (λ s. record s { closing = true }) (begin s) in
    either_going Sound (may_close s.phase) (close_in_turn now (begin s)) (begin s)
    (finishes now g (no_request g c nothing)) (no_request (begin s) c nothing)

resumes : (a : Appended) (fits : Bool) (s : State) → Closes s → Sound (resume_by (record { half = a.half; fits = fits }) (begin s))
resumes a true s c =
    let g = with_receiving a.half (begin s) in
    no_request (emit_ack false g) c (tells_got false g nothing)
resumes a false s c = ends FailedOversize (with_receiving a.half (begin s)) nothing

takes : (s : State) → Closes s → Sound (take_first (begin s))
takes s c =
    let g = begin s in
    let r = without_first s.receiving in
    let a = follow r in
    either_going Sound (nat_lt 0 (length (inbox s.receiving))) (take_from r g) g
    (either_going Sound (is_up s.phase && busy s.receiving && not (busy r)) (resume_by a g) (with_receiving r g)
    (resumes a a.fits s c) (no_request (with_receiving r g) c nothing)) (no_request g c nothing)

-- ---- a life ----
steps : (now : ℕ) (s : State) (i : Input) → Closes s → Sound (step_at now (begin s) i)
steps now s (Write message) c = writes s.phase now message s refl c
steps now s (Arrive t) c = arrives s.phase now t s refl c
steps now s Tick c = ticks now s c
steps now s Close c = closes now s c
steps now s Take c = takes s c

lives : (g : Effect) (inputs : List (Input × ℕ)) → Closes g.end → Closes (after_inputs g inputs).end
lives g [] c = c
lives g (i ∷ inputs) c = lives (followed_by g (step g.end i.0 i.1)) inputs (steps (min i.1 COUNT_MAX) g.end i.0 c).0

begins : (g : Effect) → IsNew g → Closes g.end
begins _ (Asks pair user node config now) c = absurd (cc c)
begins _ (Accepts pair partner proposed config now) c = absurd (cc c)

pub disconnects_when_acknowledged : DisconnectsWhenAcknowledged
disconnects_when_acknowledged g new inputs input now =
    (steps (min now COUNT_MAX) (after_inputs g inputs).end input (lives g inputs (begins g new))).1
