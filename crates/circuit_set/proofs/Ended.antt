-- What an end tells in a step: nothing, that its circuit is open, or how it ended; and then it has ended, and stays so.
use Rattle.std.specs.Prelude.{◌≡◌, ℕ, ◌⊎◌, ◌∷◌, ◌+◌, min, Bool, true, false, not, ◌&&◌, ◌||◌, nat_eq, nat_lt, nat_le, if◌then◌else◌, List, [], ◌++◌, length, None, is_ok, refl}
use Rattle.std.proofs.Common.{sym, ◌∙◌, ap, inl, inr}
use Rattle.std.proofs.Math.Bool.{or-true}
use Rattle.radio_base.specs.declared.modulus.TheConstants.{COUNT_MAX}
use Rattle.circuit_l4.specs.declared.pair.Pair.{Pair}
use Rattle.circuit_l4.specs.declared.transport.Flags.{Flags}
use Rattle.circuit_l4.specs.declared.transport.Transport.{Transport}
use Rattle.circuit_l4.specs.declared.transport.Transport.TheVariants.{Request, Accept, Refuse, Disconnect, Disconnected, Info, InfoAck}
use Rattle.circuit_l4.specs.declared.piece.Piece.{Piece}
use Rattle.circuit_l4.specs.declared.phase.EndPhase.{EndPhase}
use Rattle.circuit_l4.specs.declared.phase.EndPhase.TheVariants.{Connecting, Up, Closing, Ended}
use Rattle.circuit_l4.specs.declared.notice.EndNotice.{EndNotice}
use Rattle.circuit_l4.specs.declared.notice.EndNotice.TheVariants.{Opened, Refused, Closed, ClosedByPartner, FailedRetries, FailedOversize, FailedInactive}
use Rattle.circuit_l4.specs.declared.role.Role.{Role}
use Rattle.circuit_l4.specs.declared.role.Role.TheVariants.{Requester, Responder}
use Rattle.circuit_l4.specs.declared.owed.Owed.{Owed}
use Rattle.circuit_l4.specs.State.{Effect, State, begin, is_up, Appended, Receipt, busy, receive, without_first, inbox, follow, total, written}
use Rattle.circuit_l4.specs.Moves.{acknowledge, again, answer, answer_all, wait_if_out, on_state, begin_to_close, end_with, fill, finish, with_receiving, is_done, is_silent, note, on_info, on_info_ack, emit, emit_owed, supply, emit_ack}
use Rattle.circuit_l4.specs.Laws.{Accepts, Asks, IsNew, after_inputs, followed_by}
use Rattle.circuit_l4.specs.Table.{Input, Write, Arrive, Tick, Close, Take, arrive_in, ask_by, close_in_turn, due_in, expire, note_activity, is_due, may_close, unchoke, common_window, come_up, resume_by, retry, retry_in, step, step_at, take_from, write_answer, write}
use Rattle.circuit_l4.proofs.Parts.{either_going}
use Rattle.circuit_l4.proofs.Retries.{first_of_and}
use Rattle.circuit_set.specs.Books.{any_ends}
use Rattle.circuit_table.specs.Events.{ends_it}
use Rattle.circuit_set.specs.NotedRuns.{opened_window}
use Rattle.circuit_table.specs.Sets.{has_ended}
use Rattle.circuit_table.proofs.Lasting.{Core, acknowledges, fills as fill_keeps, if_out}
use Rattle.circuit_table.proofs.Names.{AcceptsNone, is_accept, step_same}
use Rattle.circuit_table.proofs.Choices.{Named}

-- it tells how its circuit ended
record IsLast (g : Effect) : Type 0 where
  why : EndNotice
  notes : g.notes ≡ why ∷ []
  ends : ends_it why ≡ true
  over : has_ended g.end.phase ≡ true

-- a step in which it isn't opened, and ends only where it tells how
record Goes (s : State) (g : Effect) : Type 0 where
  told : ((g.notes ≡ []) × (has_ended g.end.phase ≡ true → has_ended s.phase ≡ true)) ⊎ IsLast g
  stays : has_ended s.phase ≡ true → has_ended g.end.phase ≡ true

rests : (s : State) (g : Effect) → g.notes ≡ [] → g.end.phase ≡ s.phase → Goes s g
rests s g none same = record { told = inl (none, λ e. sym (ap has_ended same) ∙ e); stays = λ e. ap has_ended same ∙ e }

over : (s : State) (why : EndNotice) (g : Effect) → g.notes ≡ [] → ends_it why ≡ true → Goes s (end_with why g)
over s why g none ends = record { told = inr (record { why = why; notes = ap (λ ns. ns ++ why ∷ []) none; ends = ends; over = refl }); stays = λ e. refl }

same_phase : (s : State) (g h : Effect) → h.notes ≡ g.notes → h.end.phase ≡ g.end.phase → Goes s g → Goes s h
same_phase s g h notes phase k = record {
  told = elim k.told [ inl r ↦ inl (notes ∙ r.0, λ e. r.1 (sym (ap has_ended phase) ∙ e)) | inr r ↦ inr (record { why = r.why; notes = notes ∙ r.notes; ends = r.ends; over = ap has_ended phase ∙ r.over }) ];
  stays = λ e. ap has_ended phase ∙ k.stays e;
}

-- ---- the phase of a state stays ----
abbrev phase_stays : Core → Core → Type 0
phase_stays c d = d.phase ≡ c.phase

fill_phase : (now : ℕ) (g : Effect) → (fill now g).end.phase ≡ g.end.phase
fill_phase now g = fill_keeps phase_stays (λ c. refl) (λ c d k e. e) g.end now g refl

if_out_phase : (s : State) (now : ℕ) → (wait_if_out now s).phase ≡ s.phase
if_out_phase s now = if_out phase_stays (λ c. refl) (λ c d k e. e) s s now refl

acknowledges_phase : (s : State) (now rx : ℕ) (flags : Flags) → (acknowledge now rx flags s).end.phase ≡ s.phase
acknowledges_phase s now rx flags = acknowledges phase_stays (λ c. refl) (λ c d k e. e) s now rx flags

-- ---- the rows ----
fills : (s : State) (now : ℕ) (g : Effect) → Goes s g → Goes s (fill now g)
fills s now g k = same_phase s g (fill now g) refl (fill_phase now g) k

up_is_open : (P : Type 0) (p : EndPhase) → is_up p ≡ true → has_ended p ≡ true → P
up_is_open P Connecting e f = cc
up_is_open P Up e f = cc
up_is_open P Closing e f = cc
up_is_open P Ended e f = cc

finish_case : (s : State) (now : ℕ) (g : Effect) (b : Bool) → is_done g.end ≡ b → Goes s g → Goes s (if b then begin_to_close now g else g)
finish_case s now g true e k =
    let up : is_up g.end.phase ≡ true = first_of_and (is_up g.end.phase) g.end.closing (nat_eq g.end.sending.acked (total g.end.sending)) e in
    let n : Effect = begin_to_close now g in
    record {
      told = elim k.told [ inl r ↦ inl (r.0, λ e. cc) | inr r ↦ up_is_open (((n.notes ≡ []) × (has_ended n.end.phase ≡ true → has_ended s.phase ≡ true)) ⊎ IsLast n) g.end.phase up r.over ];
      stays = λ t. up_is_open (has_ended n.end.phase ≡ true) g.end.phase up (k.stays t);
    }
finish_case s now g false e k = k

finishes : (s : State) (now : ℕ) (g : Effect) → Goes s g → Goes s (finish now g)
finishes s now g k = finish_case s now g (is_done g.end) refl k

supplies : (s : State) (now : ℕ) (g : Effect) → Goes s g → Goes s (supply now g)
supplies s now g k = finishes s now (fill now g) (fills s now g k)

answers : (s : State) (now : ℕ) (nak : Bool) (owed : Owed) (g : Effect) → Goes s g → Goes s (answer_all now nak owed g)
answers s now nak owed g k =
    let a : Effect = answer nak owed g in
    let b : Goes s a = either_going (Goes s) (nak || is_silent owed g.end) (emit_ack nak g) g (same_phase s g (emit_ack nak g) refl refl k) k in
    supplies s now (emit_owed owed a) (same_phase s a (emit_owed owed a) refl refl b)

info_goes : (s : State) (now tx rx : ℕ) (flags : Flags) (piece : Piece) → Goes s (on_info now tx rx flags piece (note_activity now (begin s)))
info_goes s now tx rx flags piece =
    let base : State = record s { last_active = now } in
    let a = acknowledge now rx flags base in
    let c : Receipt = receive a.end.window tx piece a.end.receiving in
    let g : Effect = with_receiving c.half (record { end = a.end; outs = []; notes = [] }) in
    either_going (Goes s) c.fits (answer_all now c.nak a.owed g) (end_with FailedOversize g) (answers s now c.nak a.owed g (rests s g refl (acknowledges_phase base now rx flags))) (over s FailedOversize g refl refl)

ack_goes : (s : State) (now rx : ℕ) (flags : Flags) → Goes s (on_info_ack now rx flags (note_activity now (begin s)))
ack_goes s now rx flags =
    let base : State = record s { last_active = now } in
    let a = acknowledge now rx flags base in
    let g : Effect = emit_owed a.owed (record { end = a.end; outs = []; notes = [] }) in
    supplies s now g (rests s g refl (acknowledges_phase base now rx flags))

nothing : (s : State) → Goes s (begin s)
nothing s = rests s (begin s) refl refl

arrives_go : (p : EndPhase) (s : State) (now : ℕ) (t : Transport) → is_accept t ≡ false → Goes s (arrive_in p now t (begin s))
arrives_go Connecting s now (Accept to own window) a = cc
arrives_go Connecting s now (Refuse to) a = over s Refused (begin s) refl refl
arrives_go Connecting s now (Request pair window user node) a = nothing s
arrives_go Connecting s now (Disconnect to) a = nothing s
arrives_go Connecting s now (Disconnected to) a = nothing s
arrives_go Connecting s now (Info to tx rx flags text) a = nothing s
arrives_go Connecting s now (InfoAck to rx flags) a = nothing s
arrives_go Up s now (Info to tx rx flags text) a = info_goes s now tx rx flags (record { text = text; more = flags.more })
arrives_go Up s now (InfoAck to rx flags) a = ack_goes s now rx flags
arrives_go Up s now (Disconnect to) a = over s ClosedByPartner (emit (Disconnected s.to) (begin s)) refl refl
arrives_go Up s now (Disconnected to) a = nothing s
arrives_go Up s now (Accept to own window) a = cc
arrives_go Up s now (Refuse to) a = nothing s
arrives_go Up s now (Request pair window user node) a = nothing s
arrives_go Closing s now (Disconnect to) a = over s ClosedByPartner (emit (Disconnected s.to) (begin s)) refl refl
arrives_go Closing s now (Disconnected to) a = over s Closed (begin s) refl refl
arrives_go Closing s now (Info to tx rx flags text) a = nothing s
arrives_go Closing s now (InfoAck to rx flags) a = nothing s
arrives_go Closing s now (Accept to own window) a = cc
arrives_go Closing s now (Refuse to) a = nothing s
arrives_go Closing s now (Request pair window user node) a = nothing s
arrives_go Ended s now t a = nothing s

asks_go : (r : Role) (s : State) (g : Effect) → Goes s g → Goes s (ask_by r g)
asks_go (Requester user node) s g k = same_phase s g (ask_by (Requester user node) g) refl refl k
asks_go Responder s g k = k

retries_go : (p : EndPhase) (s : State) (g : Effect) → Goes s g → Goes s (retry_in p g)
retries_go Connecting s g k = asks_go g.end.role s g k
retries_go Up s g k = same_phase s g (again g) refl refl k
retries_go Closing s g k = same_phase s g (emit (Disconnect g.end.to) g) refl refl k
retries_go Ended s g k = k

expires_go : (s : State) (now : ℕ) → Goes s (expire now (begin s))
expires_go s now =
    let g : Effect = begin s in
    either_going (Goes s) (nat_eq s.tries s.config.retries) (end_with FailedRetries g) (retry now g) (over s FailedRetries g refl refl)
    (same_phase s (retry_in s.phase g) (retry now g) refl refl (retries_go s.phase s g (rests s g refl refl)))

releases_go : (s : State) (now : ℕ) → Goes s (unchoke now (begin s))
releases_go s now =
    let g : Effect = again (on_state (λ s. record s { choked = false; answer_due = None }) (begin s)) in
    let f : Effect = fill now g in
    rests s (unchoke now (begin s)) refl (if_out_phase f.end now ∙ fill_phase now g)

due_go : (p : EndPhase) (s : State) (now : ℕ) → Goes s (due_in p now (begin s))
due_go Connecting s now = expires_go s now
due_go Up s now = either_going (Goes s) s.choked (unchoke now (begin s)) (expire now (begin s)) (releases_go s now) (expires_go s now)
due_go Closing s now = expires_go s now
due_go Ended s now = nothing s

steps_go : (s : State) (i : Input) (now : ℕ) → AcceptsNone i → Goes s (step_at now (begin s) i)
steps_go s (Write m) now a =
    let g : Effect = on_state (λ s. record s { last_active = now; sending = written m s.sending }) (begin s) in
    either_going (Goes s) (is_ok (write_answer s m)) (write now m (begin s)) (begin s) (fills s now g (rests s g refl refl)) (nothing s)
steps_go s (Arrive t) now a = arrives_go s.phase s now t a
steps_go s Tick now a =
    let g : Effect = begin s in
    let due : Effect = if is_due s.answer_due now then due_in s.phase now g else g in
    either_going (Goes s) (is_up s.phase && nat_le (s.last_active + s.config.inactive) now) (end_with FailedInactive g) due (over s FailedInactive g refl refl)
    (either_going (Goes s) (is_due s.answer_due now) (due_in s.phase now g) g (due_go s.phase s now) (nothing s))
steps_go s Close now a =
    let g : Effect = on_state (λ s. record s { closing = true }) (begin s) in
    either_going (Goes s) (may_close s.phase) (close_in_turn now (begin s)) (begin s) (finishes s now g (rests s g refl refl)) (nothing s)
steps_go s Take now a =
    let g : Effect = begin s in
    let r = without_first s.receiving in
    let a : Appended = follow r in
    let taken : Effect = with_receiving a.half g in
    either_going (Goes s) (nat_lt 0 (length (inbox s.receiving))) (take_from r g) g
    (either_going (Goes s) (is_up s.phase && busy s.receiving && not (busy r)) (resume_by a g) (with_receiving r g)
    (either_going (Goes s) a.fits (emit_ack false taken) (end_with FailedOversize taken) (rests s (emit_ack false taken) refl refl) (over s FailedOversize taken refl refl)) (rests s (with_receiving r g) refl refl)) (nothing s)

-- ---- what comes of a step ----
pub record Ends (s : State) (g : Effect) : Type 0 where
  pub told : any_ends g.notes ≡ true → has_ended g.end.phase ≡ true
  pub stays : has_ended s.phase ≡ true → has_ended g.end.phase ≡ true
  pub says : has_ended g.end.phase ≡ true → (has_ended s.phase ≡ true) ⊎ (any_ends g.notes ≡ true)

-- it isn't opened, and sends to the same pair as before
pub record SendsOn (s : State) (g : Effect) : Type 0 where
  pub unopened : opened_window g.notes ≡ None
  pub to : g.end.to ≡ s.to

unopened_by : (n : EndNotice) → ends_it n ≡ true → opened_window (n ∷ []) ≡ None
unopened_by (Opened window) e = cc
unopened_by Refused e = refl
unopened_by Closed e = refl
unopened_by ClosedByPartner e = refl
unopened_by FailedRetries e = refl
unopened_by FailedOversize e = refl
unopened_by FailedInactive e = refl

goes_ends : (s : State) (g : Effect) → Goes s g → Ends s g
goes_ends s g k = record {
  told = λ e. elim k.told [ inl r ↦ (let bad : any_ends [] ≡ true = sym (ap any_ends r.0) ∙ e in cc) | inr r ↦ r.over ];
  stays = k.stays;
  says = λ e. elim k.told [ inl r ↦ inl (r.1 e) | inr r ↦ inr (ap any_ends r.notes ∙ ap (λ b. b || false) r.ends) ];
}

goes_unopened : (s : State) (g : Effect) → Goes s g → opened_window g.notes ≡ None
goes_unopened s g k = elim k.told [ inl r ↦ ap opened_window r.0 | inr r ↦ ap opened_window r.notes ∙ unopened_by r.why r.ends ]

pub step_ends : (s : State) (i : Input) (now : ℕ) → AcceptsNone i → Ends s (step s i now)
step_ends s i now a = goes_ends s (step s i now) (steps_go s i (min now COUNT_MAX) a)

pub step_sends_on : (s : State) (i : Input) (now : ℕ) → AcceptsNone i → SendsOn s (step s i now)
step_sends_on s i now a = record { unopened = goes_unopened s (step s i now) (steps_go s i (min now COUNT_MAX) a); to = ap (λ (n : Named). n.to) (step_same s i now a) }

-- ---- an accept ----
abbrev Opens : State → Pair → Effect → Type 0
Opens s own g = Ends s g × (SendsOn s g ⊎ ((s.phase ≡ Connecting) × (g.end.to ≡ own)))

up_case : (s : State) (now : ℕ) (own : Pair) (g : Effect) (b : Bool) → s.phase ≡ Connecting → any_ends g.notes ≡ false → g.end.phase ≡ Up → g.end.to ≡ own → Opens s own (if b then begin_to_close now g else g)
up_case s now own g true p none up to = (record { told = λ e. let bad : true ≡ false = sym e ∙ none in cc; stays = λ e. let bad : has_ended Connecting ≡ true = sym (ap has_ended p) ∙ e in cc; says = λ e. cc }, inr (p, to))
up_case s now own g false p none up to = (
  record {
    told = λ e. let bad : true ≡ false = sym e ∙ none in cc;
    stays = λ e. let bad : has_ended Connecting ≡ true = sym (ap has_ended p) ∙ e in cc;
    says = λ e. let bad : has_ended Up ≡ true = sym (ap has_ended up) ∙ e in cc;
  },
  inr (p, to),
)

accept_case : (p : EndPhase) (s : State) (now : ℕ) (to own : Pair) (window : ℕ) → s.phase ≡ p → Opens s own (arrive_in p now (Accept to own window) (begin s))
accept_case Connecting s now to own window e =
    let g : Effect = note (Opened (common_window s.config.window window)) (on_state (come_up now own window) (begin s)) in up_case s now own g (is_done g.end) e refl refl refl
accept_case Up s now to own window e = (goes_ends s (begin s) (nothing s), inl (record { unopened = refl; to = refl }))
accept_case Closing s now to own window e = (goes_ends s (begin s) (nothing s), inl (record { unopened = refl; to = refl }))
accept_case Ended s now to own window e = (goes_ends s (begin s) (nothing s), inl (record { unopened = refl; to = refl }))

pub accept_opens : (s : State) (to own : Pair) (window now : ℕ) → Ends s (step s (Arrive (Accept to own window)) now) × (SendsOn s (step s (Arrive (Accept to own window)) now) ⊎ ((s.phase ≡ Connecting) × ((step s (Arrive (Accept to own window)) now).end.to ≡ own)))
accept_opens s to own window now = accept_case s.phase s (min now COUNT_MAX) to own window refl

-- ---- each step, and so each end ----
arrival_ends : (s : State) (t : Transport) (now : ℕ) → Ends s (step s (Arrive t) now)
arrival_ends s (Accept to own window) now = (accept_opens s to own window now).0
arrival_ends s (Refuse to) now = step_ends s (Arrive (Refuse to)) now refl
arrival_ends s (Request pair window user node) now = step_ends s (Arrive (Request pair window user node)) now refl
arrival_ends s (Disconnect to) now = step_ends s (Arrive (Disconnect to)) now refl
arrival_ends s (Disconnected to) now = step_ends s (Arrive (Disconnected to)) now refl
arrival_ends s (Info to tx rx flags text) now = step_ends s (Arrive (Info to tx rx flags text)) now refl
arrival_ends s (InfoAck to rx flags) now = step_ends s (Arrive (InfoAck to rx flags)) now refl

input_ends : (s : State) (i : Input) (now : ℕ) → Ends s (step s i now)
input_ends s (Write m) now = step_ends s (Write m) now tt
input_ends s (Arrive t) now = arrival_ends s t now
input_ends s Tick now = step_ends s Tick now tt
input_ends s Close now = step_ends s Close now tt
input_ends s Take now = step_ends s Take now tt

or_assoc : (a b c : Bool) → (a || (b || c)) ≡ ((a || b) || c)
or_assoc true b c = refl
or_assoc false b c = refl

pub any_append : (xs ys : List EndNotice) → any_ends (xs ++ ys) ≡ (any_ends xs || any_ends ys)
any_append [] ys = refl
any_append (n ∷ xs) ys = ap (λ b. ends_it n || b) (any_append xs ys) ∙ or_assoc (ends_it n) (any_ends xs) (any_ends ys)

-- where it has ended it was told how
abbrev Says : Effect → Type 0
Says g = has_ended g.end.phase ≡ true → any_ends g.notes ≡ true

inputs_say : (inputs : List (Input × ℕ)) (g : Effect) → Says g → Says (after_inputs g inputs)
inputs_say [] g k = k
inputs_say (i ∷ inputs) g k =
    let h : Effect = step g.end i.0 i.1 in
    let next : Says (followed_by g h) = λ e. any_append g.notes h.notes ∙ elim ((input_ends g.end i.0 i.1).says e) [
      | inl was ↦ ap (λ b. b || any_ends h.notes) (k was)
      | inr now ↦ ap (λ b. any_ends g.notes || b) now ∙ or-true (any_ends g.notes)
    ] in
    inputs_say inputs (followed_by g h) next

new_says : (g : Effect) → IsNew g → Says g
new_says g (Asks pair user node config now) = λ e. cc
new_says g (Accepts pair partner window config now) = λ e. cc

pub lived_says : (g : Effect) (inputs : List (Input × ℕ)) → IsNew g → Says (after_inputs g inputs)
lived_says g inputs new = inputs_say inputs g (new_says g new)
