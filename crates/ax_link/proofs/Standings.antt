-- What the code keeps, a step further.
use Rattle.std.proofs.Common.{◌≡◌, ℕ, zero, suc, ◌+◌, ◌-◌, ◌%◌, ◌<◌, ◌≤◌, Bool, true, false, List, [], ◌∷◌, ◌++◌, length, slice_get, Option, Some, None, map, refl, ap, sym, ◌∙◌, subst, arith, append_assoc, add-one, nat_lt, nat_le, ◌&&◌, take, drop, length-append}
use Rattle.std.proofs.lemmas.Bool.Decides.{nat_tests}
use Rattle.std.proofs.lemmas.List.{map-append, length-take-le, take-append-drop}
use Rattle.radio_base.specs.declared.payload.Payload.{Payload}
use Rattle.ax_frame.specs.declared.control.Control.TheVariants as control
use Rattle.ax_link.specs.declared.phase.LinkPhase.{LinkPhase}
use Rattle.ax_link.specs.declared.phase.LinkPhase.TheVariants.{Down, SettingUp, Up, Releasing}
use Rattle.ax_link.specs.declared.out.LinkOut.{LinkOut}
use Rattle.ax_link.specs.State.{Frame, Effect, is_up}
use Rattle.ax_link.specs.Table.{take_first}
use Rattle.ax_link.specs.Moves.{acknowledge, frames_of, resume}
use Rattle.ax_link.specs.Standing.{LinkView, KeepsEffect, runs, effect_of, frame_of}
use Rattle.ax_link.specs.Calls.{EmitsTexts, view_with_t1, take_next_payload, enqueue}
use Rattle.circular_buffer.specs.Buffer.{keep_last}

-- what is kept stands for itself, with what was forgotten
pub itself : (size : ℕ) (h : LinkView) (before received : List Payload) → length before ≡ h.acked → length received ≡ h.got → KeepsEffect size h (effect_of size h before received)
itself size h before received a b = record { before = before; received = received; acked = a; got = b; is = refl }

-- a part that does so from what is kept does so from all that it stands for
pub standing : (size : ℕ) (h later : LinkView) (part : Effect → Effect) →
    ((before received : List Payload) → length before ≡ h.acked → length received ≡ h.got → KeepsEffect size later (part (effect_of size h before received))) →
    (g : Effect) → KeepsEffect size h g → KeepsEffect size later (part g)
standing size h later part f g s = subst (λ x. KeepsEffect size later (part x)) (sym s.is) (f s.before s.received s.acked s.got)

-- behind what was forgotten
get_behind : (before queue : List Payload) (n : ℕ) → length before ≤ n → slice_get (before ++ queue) n ≡ slice_get queue (n - length before)
get_behind [] queue n l = ap (slice_get queue) (omega arith)
get_behind (p ∷ before) queue (suc n) l = get_behind before queue n (omega (arith, l)) ∙ ap (slice_get queue) (omega arith)
get_behind (p ∷ before) queue zero l = absurd (omega (arith, l))

-- a payload goes out
pub text_goes : (size got number ns nr : ℕ) (before queue : List Payload) (payload : Option Payload) (outs : List LinkOut) →
    ns ≡ number % size → nr ≡ got % size → payload ≡ slice_get queue (number - length before) → length before ≤ number →
    map (frame_of size) (outs ++ record { command = true; control = control.I ns nr false; payload = payload } ∷ [])
    ≡ map (frame_of size) outs ++ frames_of size got (before ++ queue) number 1
text_goes size got number ns nr before queue payload outs e f p l = rw (e, f, p, get_behind before queue number l) (map-append (frame_of size) outs _)

-- the first of many
frames_step : (size got : ℕ) (given : List Payload) (n many rest : ℕ) → many ≡ suc rest →
    frames_of size got given n many ≡ frames_of size got given n 1 ++ frames_of size got given (n + 1) rest
frames_step size got given n many rest e =
    rw e (ap (λ m. frames_of size got given n 1 ++ frames_of size got given m rest) (sym (add-one n)))

-- one more of many has gone out
pub one_more_out : (size : ℕ) (old new : LinkView) (outs : List LinkOut) (n many rest : ℕ) (whole : List Payload → List Frame) → many ≡ suc rest →
    ((before : List Payload) → length before ≡ old.acked →
    map (frame_of size) outs ++ frames_of size old.got (before ++ old.queue) n many ≡ whole before) →
    EmitsTexts size n 1 (record old { outs = outs }) new →
    (before : List Payload) → length before ≡ old.acked →
    map (frame_of size) new.outs ++ frames_of size old.got (before ++ old.queue) (n + 1) rest ≡ whole before
one_more_out size old new outs n many rest whole e left puts before h =
    rw (puts.frames before h)
    (append_assoc (map (frame_of size) outs) _ _
    ∙ ap (λ fs. map (frame_of size) outs ++ fs) (sym (frames_step size old.got (before ++ old.queue) n many rest e))
    ∙ left before h)

-- the state after payloads are acknowledged, by the phase that is known
acknowledged_in : (phase : LinkPhase) (size : ℕ) (h : LinkView) (now below many : ℕ) (before received : List Payload) → nat_lt h.acked below ≡ true →
    acknowledge now below (effect_of size (record h { phase = phase }) before received)
    ≡ effect_of size
    (record (view_with_t1 now (runs (record h { phase = phase })) (record h { phase = phase; queue = drop many h.queue; acked = below; tries = 0 })) { t1_at = now + h.t1 })
    (before ++ take many h.queue) received
acknowledged_in Down size h now below many before received test = rw (test, append_assoc before (take many h.queue) (drop many h.queue), take-append-drop many h.queue) refl
acknowledged_in SettingUp size h now below many before received test = rw (test, append_assoc before (take many h.queue) (drop many h.queue), take-append-drop many h.queue) refl
acknowledged_in Up size h now below many before received test = rw (test, append_assoc before (take many h.queue) (drop many h.queue), take-append-drop many h.queue) refl
acknowledged_in Releasing size h now below many before received test = rw (test, append_assoc before (take many h.queue) (drop many h.queue), take-append-drop many h.queue) refl

-- payloads are acknowledged, and forgotten
acknowledged : (size : ℕ) (h : LinkView) (now below : ℕ) (before received : List Payload) → length before ≡ h.acked → length received ≡ h.got →
    h.acked < below → below ≤ h.acked + length h.queue →
    KeepsEffect size (record (view_with_t1 now (runs h) (record h { queue = drop (below - h.acked) h.queue; acked = below; tries = 0 })) { t1_at = now + h.t1 })
    (acknowledge now below (effect_of size h before received))
acknowledged size h now below before received a b more within =
    let test : nat_lt h.acked below ≡ true = grind (arith, nat_tests, more) in
    let len : below - h.acked ≤ length h.queue = omega (arith, within) in
    record {
      before = before ++ take (below - h.acked) h.queue;
      received = received;
      acked = omega (arith, length-append before (take (below - h.acked) h.queue), length-take-le (below - h.acked) h.queue len, a, more, within);
      got = b;
      is = acknowledged_in h.phase size h now below (below - h.acked) before received test;
    }

pub acknowledges : (size : ℕ) (h mid later : LinkView) (now below : ℕ) (ran : Bool) (queue : List Payload) →
    h.acked < below → below ≤ h.acked + length h.queue → ran ≡ runs h → queue ≡ drop (below - h.acked) h.queue →
    mid ≡ view_with_t1 now ran (record h { queue = queue; acked = below; tries = 0 }) → later ≡ record mid { t1_at = now + mid.t1 } →
    (g : Effect) → KeepsEffect size h g → KeepsEffect size later (acknowledge now below g)
acknowledges size h mid later now below ran queue more within r q m e =
    rw (e, m, r, q) (standing size h _ (acknowledge now below) (λ before received a b. acknowledged size h now below before received a b more within))

-- the tries are counted anew
pub tries_anew : (size : ℕ) (h : LinkView) (g : Effect) → KeepsEffect size h g → KeepsEffect size (record h { tries = 0 }) (record g { link = record g.link { tries = 0 } })
tries_anew size h g s = record { before = s.before; received = s.received; acked = s.acked; got = s.got; is = ap (λ (x : Effect). record x { link = record x.link { tries = 0 } }) s.is }

-- what is done at a place, once the place is known
pub placed_or : (size : ℕ) (h later : LinkView) (found : Option ℕ) (none : Effect → Effect) (at : ℕ → Effect → Effect) (find : Effect → Option ℕ) →
    ((before received : List Payload) → length before ≡ h.acked → length received ≡ h.got → found ≡ find (effect_of size h before received)) →
    ((g : Effect) → KeepsEffect size h g → KeepsEffect size later (elim found as (λ x. Effect) [ None ↦ none g | Some x ↦ at x g ])) →
    (g : Effect) → KeepsEffect size h g → KeepsEffect size later (elim (find g) as (λ x. Effect) [ None ↦ none g | Some x ↦ at x g ])
placed_or size h later found none at find known does =
    standing size h later (λ g. elim (find g) as (λ x. Effect) [ None ↦ none g | Some x ↦ at x g ])
    (λ before received a b.
    let G : Effect = effect_of size h before received in
    subst (λ y. KeepsEffect size later (elim y as (λ x. Effect) [ None ↦ none G | Some x ↦ at x G ])) (known before received a b)
    (does G (itself size h before received a b)))

-- and nothing without a place
pub placed : (size : ℕ) (h later : LinkView) (found : Option ℕ) (at : ℕ → Effect → Effect) (find : Effect → Option ℕ) →
    ((before received : List Payload) → length before ≡ h.acked → length received ≡ h.got → found ≡ find (effect_of size h before received)) →
    ((g : Effect) → KeepsEffect size h g → KeepsEffect size later (elim found as (λ x. Effect) [ None ↦ g | Some x ↦ at x g ])) →
    (g : Effect) → KeepsEffect size h g → KeepsEffect size later (elim (find g) as (λ x. Effect) [ None ↦ g | Some x ↦ at x g ])
placed size h later found at find known does = placed_or size h later found (λ g. g) at find known does

-- a full ring lets its first place go
first_leaves : (e : List (Option Payload)) (room : ℕ) → length e ≡ room → keep_last room (e ++ None ∷ []) ≡ drop 1 (e ++ None ∷ [])
first_leaves e room l =
    let step : length (e ++ None ∷ []) - room ≡ 1 = omega (arith, length-append e (None ∷ []), l) in
    ap (λ n. drop n (e ++ None ∷ [])) step

-- the next payload is taken
pub takes_next : (size : ℕ) (h later : LinkView) (p : Payload) (room : ℕ) → length h.early ≡ room →
    later ≡ record h { inbox = h.inbox ++ p ∷ []; got = h.got + 1; early = keep_last room (h.early ++ None ∷ []) } →
    (g : Effect) → KeepsEffect size h g → KeepsEffect size later (take_next_payload p g)
takes_next size h later p room full e =
    rw (e, first_leaves h.early room full)
    (standing size h _ (take_next_payload p) (λ before received a b.
    record { before = before; received = received ++ p ∷ []; acked = a; got = omega (arith, length-append received (p ∷ []), b); is = refl }))

-- nothing is asked for any more
pub asked_no_more : (size : ℕ) (h : LinkView) (g : Effect) → KeepsEffect size h g → KeepsEffect size (record h { rej_sent = false }) (record g { link = record g.link { rej_sent = false } })
asked_no_more size h g s =
    record { before = s.before; received = s.received; acked = s.acked; got = s.got; is = ap (λ (x : Effect). record x { link = record x.link { rej_sent = false } }) s.is }

-- one try more is counted
pub one_try_more : (size : ℕ) (h : LinkView) (g : Effect) → KeepsEffect size h g →
    KeepsEffect size (record h { tries = h.tries + 1 }) (record g { link = record g.link { tries = suc g.link.tries } })
one_try_more size h g s =
    rw (add-one h.tries)
    (record { before = s.before; received = s.received; acked = s.acked; got = s.got; is = ap (λ (x : Effect). record x { link = record x.link { tries = suc x.link.tries } }) s.is })

-- one payload more waits
pub queues : (size : ℕ) (h later : LinkView) (p : Payload) → later ≡ record h { queue = h.queue ++ p ∷ [] } →
    (g : Effect) → KeepsEffect size h g → KeepsEffect size later (enqueue p g)
queues size h later p e =
    rw e
    (standing size h _ (enqueue p) (λ before received a b.
    record { before = before; received = received; acked = a; got = b; is = rw (append_assoc before h.queue (p ∷ [])) refl }))

-- the link is to be closed
pub to_be_closed : (size : ℕ) (h : LinkView) (g : Effect) → KeepsEffect size h g → KeepsEffect size (record h { closing = true }) (record g { link = record g.link { closing = true } })
to_be_closed size h g s =
    record { before = s.before; received = s.received; acked = s.acked; got = s.got; is = ap (λ (x : Effect). record x { link = record x.link { closing = true } }) s.is }

-- a payload is taken out of a full inbox
pub taken_from_full : (size : ℕ) (h rest later : LinkView) → rest ≡ record h { inbox = drop 1 h.inbox } →
    (is_up h.phase && nat_le 64 (length h.inbox)) ≡ true →
    ((g : Effect) → KeepsEffect size rest g → KeepsEffect size later (resume g)) →
    (g : Effect) → KeepsEffect size h g → KeepsEffect size later (take_first g)
taken_from_full size h rest later e test does =
    standing size h later take_first (λ before received a b.
    let r : LinkView = record h { inbox = drop 1 h.inbox } in
    rw test (does (effect_of size r before received) (subst (λ (x : LinkView). KeepsEffect size x (effect_of size r before received)) (sym e) (itself size r before received a b))))

-- all but the frames stays
pub outs_alone : (old mid new : LinkView) → mid ≡ record old { outs = mid.outs } → new ≡ record mid { outs = drop 1 mid.outs } → new ≡ record old { outs = new.outs }
outs_alone old mid new first next =
    next ∙ ap (λ (h : LinkView). record h { outs = drop 1 mid.outs }) first ∙ ap (λ xs. record old { outs = xs }) (sym (ap (λ (h : LinkView). h.outs) next))
