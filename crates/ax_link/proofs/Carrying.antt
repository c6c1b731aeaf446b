-- An end that is Up goes on until a notice is given.
use Rattle.std.proofs.Common.{◌≡◌, ℕ, zero, suc, ◌-◌, Bool, true, false, not, ◌&&◌, ◌||◌, nat_eq, nat_lt, nat_le, if◌then◌else◌, List, [], ◌∷◌, ◌++◌, length, drop, min, Option, Some, None, slice_get, slice_set, refl, sym, subst}
use Rattle.std.specs.List.{AllByRecursion}
use Rattle.radio_base.specs.declared.payload.Payload.{Payload}
use Rattle.radio_base.specs.Modulus.{place_of}
use Rattle.ax_link.specs.declared.kind.Kind.{Kind}
use Rattle.ax_link.specs.declared.kind.Kind.TheVariants as kind
use Rattle.ax_link.specs.declared.notice.LinkNotice.TheVariants.{Failed}
use Rattle.ax_link.specs.declared.phase.LinkPhase.{LinkPhase}
use Rattle.ax_link.specs.declared.phase.LinkPhase.TheVariants.{Up}
use Rattle.ax_link.specs.Carrying.{StaysOn, OpensSo, UpStaysOn, carries, is_on}
use Rattle.ax_link.specs.Laws.{notice_at, notice_of}
use Rattle.ax_link.specs.State.{Frame, State, Effect, ack_place, count_end, begin, busy, high, is_up, update_t1, t1_runs, t3_at, wire}
use Rattle.ax_link.specs.Moves.{acknowledge, again, answer_poll, ask, ask_again, asks, asks_of, end_poll, fill, fill_count, finish, frames, frames_of, hold, i_at, is_free, follow_by, follow, next_early, on_i, on_srej, on_supervisory, emit, release, resume, supply_again, resupply, rr, srej_at, start_poll, store_early, supervisory_at, supply, take_in, take_next, text, text_at, text_later, text_plain, text_srej}
use Rattle.ax_link.specs.Table.{Input, Set_up, Send, Arrive, Tick, Close, Take, step, accept, arrive_in, arrive_setting_up, arrive_up, come_up, fail, retry, takes}

abbrev All : List Frame → Type 0
All fs = AllByRecursion (λ f. carries f.kind ≡ true) fs

on_if : (b : Bool) (g h : Effect) → StaysOn g → StaysOn h → StaysOn (if b then g else h)
on_if true g h x y = x
on_if false g h x y = y

all_both : (fs gs : List Frame) → All fs → All gs → All (fs ++ gs)
all_both [] gs x y = y
all_both (f ∷ fs) gs x y = (x.0, all_both fs gs x.1 y)

on_more : (g : Effect) (fs : List Frame) → All fs → StaysOn g → StaysOn (record g { outs = g.outs ++ fs })
on_more g fs a x = record { phase = x.phase; outs = all_both g.outs fs x.outs a }

on_put : (command : Bool) (k : Kind) (g : Effect) → carries k ≡ true → StaysOn g → StaysOn (emit command k g)
on_put command k g c x = on_more g (record { command = command; kind = k; payload = None } ∷ []) (c, tt) x

-- another state in the same phase
on_state : (g : Effect) (s : State) → s.phase ≡ g.link.phase → StaysOn g → StaysOn (record g { link = s })
on_state g s e x = record { phase = subst (λ (ph : LinkPhase). is_on ph ≡ true) (sym e) x.phase; outs = x.outs }

rr_carries : (b : Bool) (n : ℕ) (pf : Bool) → carries (if b then kind.Rnr n pf else kind.Rr n pf) ≡ true
rr_carries true n pf = refl
rr_carries false n pf = refl

on_rr : (command pf : Bool) (g : Effect) → StaysOn g → StaysOn (emit command (rr g.link pf) g)
on_rr command pf g x = on_put command (rr g.link pf) g (rr_carries (busy g.link) (wire g.link (length g.link.received)) pf) x

shots : (size got : ℕ) (given : List Payload) (n many : ℕ) → All (frames_of size got given n many)
shots size got given n zero = tt
shots size got given n (suc many) = (refl, shots size got given (suc n) many)

on_shots : (n many : ℕ) (g : Effect) → StaysOn g → StaysOn (record g { outs = g.outs ++ frames g.link n many })
on_shots n many g x = on_more g (frames g.link n many) (shots g.link.rules.size (length g.link.received) g.link.given n many) x

asked : (size n many : ℕ) → All (asks_of size n many)
asked size n zero = tt
asked size n (suc many) = (refl, asked size (suc n) many)

on_fill : (now : ℕ) (g : Effect) → StaysOn g → StaysOn (fill now g)
on_fill now g x =
    let y = on_shots g.link.sent (fill_count g.link) g x in record { phase = y.phase; outs = y.outs }

on_finish : (now : ℕ) (g : Effect) → StaysOn g → StaysOn (finish now g)
on_finish now g x =
    on_if (is_up g.link.phase && g.link.closing && nat_eq g.link.acked (length g.link.given)) (release now g) g
    (record { phase = refl; outs = all_both g.outs (record { command = true; kind = kind.Disc true; payload = None } ∷ []) x.outs (refl, tt) }) x

on_supply : (now : ℕ) (g : Effect) → StaysOn g → StaysOn (supply now g)
on_supply now g x = on_finish now (fill now g) (on_fill now g x)

on_again : (now : ℕ) (g : Effect) → StaysOn g → StaysOn (again now g)
on_again now g x =
    let y = on_shots g.link.acked (g.link.sent - g.link.acked) g x in record { phase = y.phase; outs = y.outs }

on_acknowledge : (now n : ℕ) (g : Effect) → StaysOn g → StaysOn (acknowledge now n g)
on_acknowledge now n g x = on_if (nat_lt g.link.acked n) _ g (record { phase = x.phase; outs = x.outs }) x

on_resupply : (now : ℕ) (ends rej unpolled : Bool) (g : Effect) → StaysOn g → StaysOn (resupply now ends rej unpolled g)
on_resupply now true rej unpolled g x = on_again now (end_poll now g) (record { phase = x.phase; outs = x.outs })
on_resupply now false rej unpolled g x = on_if (rej && unpolled) (again now g) g (on_again now g x) x

on_answered : (poll : Bool) (g : Effect) → StaysOn g → StaysOn (answer_poll poll g)
on_answered true g x = on_rr false true g x
on_answered false g x = x

on_hold : (now : ℕ) (b : Bool) (g : Effect) → StaysOn g → StaysOn (hold now b g)
on_hold now b g x = record { phase = x.phase; outs = x.outs }

on_supervised : (now : ℕ) (command rnr rej pf : Bool) (n : ℕ) (g : Effect) → StaysOn g → StaysOn (supervisory_at now command rnr rej pf n g)
on_supervised now command rnr rej pf n g x =
    let a : Effect = hold now rnr (acknowledge now n g) in
    let b : Effect = answer_poll (command && pf) a in
    on_supply now (supply_again now (not command && pf) rej b)
    (on_resupply now ((not command && pf) && b.link.polling) rej (not b.link.polling) b (on_answered (command && pf) a (on_hold now rnr (acknowledge now n g) (on_acknowledge now n g x))))

on_on_supervisory : (now : ℕ) (command rnr rej pf : Bool) (nr : ℕ) (g : Effect) → StaysOn g → StaysOn (on_supervisory now command rnr rej pf nr g)
on_on_supervisory now command rnr rej pf nr g x = by (ack_place g.link nr)
  where
    by : (r : Option ℕ) → StaysOn (elim r as (λ y. Effect) [ None ↦ g | Some n ↦ supervisory_at now command rnr rej pf n g ])
    by None = x
    by (Some n) = on_supervised now command rnr rej pf n g x

on_selected : (now n : ℕ) (g : Effect) → StaysOn g → StaysOn (srej_at now n g)
on_selected now n g x =
    let h : Effect = end_poll now (acknowledge now n g) in
    let y : StaysOn (acknowledge now n g) = on_acknowledge now n g x in
    on_supply now (record h { outs = h.outs ++ frames h.link n (min 1 (h.link.sent - n)) })
    (on_shots n (min 1 (h.link.sent - n)) h (record { phase = y.phase; outs = y.outs }))

on_on_srej : (now : ℕ) (pf : Bool) (nr : ℕ) (g : Effect) → StaysOn g → StaysOn (on_srej now pf nr g)
on_on_srej now false nr g x = by (place_of g.link.rules.size nr g.link.acked (g.link.sent - g.link.acked))
  where
    by : (r : Option ℕ) → StaysOn (elim r as (λ y. Effect) [ None ↦ g | Some n ↦ record g { outs = g.outs ++ frames g.link n 1 } ])
    by None = x
    by (Some n) = on_shots n 1 g x
on_on_srej now true nr g x = by (ack_place g.link nr)
  where
    by : (r : Option ℕ) → StaysOn (elim r as (λ y. Effect) [ None ↦ g | Some n ↦ srej_at now n g ])
    by None = x
    by (Some n) = on_selected now n g x

-- ---- payloads that come

pub followed_phase : (k : ℕ) (s : State) → (follow_by k s).phase ≡ s.phase
followed_phase zero s = refl
followed_phase (suc k) s = by (next_early s) (λ p. followed_phase k (take_next p s))
  where
    by : (r : Option Payload) → ((p : Payload) → (follow_by k (take_next p s)).phase ≡ s.phase) →
        (elim r as (λ y. State) [ None ↦ s | Some p ↦ follow_by k (take_next p s) ]).phase ≡ s.phase
    by None more = refl
    by (Some p) more = more p

on_take_in : (pf : Bool) (s : State) (g : Effect) → s.phase ≡ g.link.phase → StaysOn g → StaysOn (take_in pf s g)
on_take_in pf s g e x =
    let n : Effect = record g { link = s } in
    let y : StaysOn n = on_state g s e x in
    on_if (pf || (busy s || nat_eq (fill_count s) 0)) (emit false (rr s pf) n) n (on_rr false pf n y) y

on_ask_again : (pf : Bool) (g : Effect) → StaysOn g → StaysOn (ask_again pf g)
on_ask_again pf g x =
    on_if (not g.link.rej_sent) (ask pf g) (if pf then emit false (rr g.link true) g else g)
    (on_put false (kind.Rej (wire g.link (length g.link.received)) pf) (record g { link = record g.link { rej_sent = true } }) refl (record { phase = x.phase; outs = x.outs }))
    (on_if pf (emit false (rr g.link true) g) g (on_rr false true g x) x)

on_text_plain : (pf : Bool) (ns : ℕ) (p : Payload) (g : Effect) → StaysOn g → StaysOn (text_plain pf ns p g)
on_text_plain pf ns p g x =
    on_if (nat_eq ns (wire g.link (length g.link.received))) (take_in pf (record (take_next p g.link) { rej_sent = false }) g) (ask_again pf g)
    (on_take_in pf (record (take_next p g.link) { rej_sent = false }) g refl x) (on_ask_again pf g x)

pub stored_phase : (b : Bool) (i : ℕ) (p : Payload) (s : State) → (if b then record s { early = slice_set s.early i (Some p) } else s).phase ≡ s.phase
stored_phase true i p s = refl
stored_phase false i p s = refl

on_text_later : (pf : Bool) (n : ℕ) (p : Payload) (g : Effect) → StaysOn g → StaysOn (text_later pf n p g)
on_text_later pf n p g x =
    let i : ℕ = n - length g.link.received in
    let h : Effect = record g { outs = g.outs ++ asks g.link (high g.link) (n - high g.link) } in
    let y : StaysOn h = on_more g (asks g.link (high g.link) (n - high g.link)) (asked g.link.rules.size (high g.link) (n - high g.link)) x in
    on_answered pf (record h { link = store_early i p g.link })
    (on_state h (store_early i p g.link) (stored_phase (is_free (slice_get g.link.early i)) i p g.link) y)

on_text_srej : (pf : Bool) (ns : ℕ) (p : Payload) (g : Effect) → StaysOn g → StaysOn (text_srej pf ns p g)
on_text_srej pf ns p g x = by (place_of g.link.rules.size ns (length g.link.received) g.link.rules.window)
  where
    by : (r : Option ℕ) → StaysOn (elim r as (λ y. Effect) [ None ↦ emit false (rr g.link pf) g | Some n ↦ text_at pf n p g ])
    by None = on_rr false pf g x
    by (Some n) =
        on_if (nat_lt (length g.link.received) n) (text_later pf n p g) (take_in pf (follow (take_next p g.link)) g)
        (on_text_later pf n p g x) (on_take_in pf (follow (take_next p g.link)) g (followed_phase (length (take_next p g.link).early) (take_next p g.link)) x)

on_text : (pf : Bool) (ns : ℕ) (p : Payload) (g : Effect) → StaysOn g → StaysOn (text pf ns p g)
on_text pf ns p g x =
    on_if (nat_le count_end (length g.link.received)) g _ x
    (on_if (busy g.link) (emit false (kind.Rnr (wire g.link (length g.link.received)) pf) g) _ (on_put false (kind.Rnr (wire g.link (length g.link.received)) pf) g refl x)
    (on_if g.link.rules.srej (text_srej pf ns p g) (text_plain pf ns p g) (on_text_srej pf ns p g x) (on_text_plain pf ns p g x)))

on_on_i : (now : ℕ) (pf : Bool) (ns nr : ℕ) (p : Option Payload) (g : Effect) → StaysOn g → StaysOn (on_i now pf ns nr p g)
on_on_i now pf ns nr None g x = x
on_on_i now pf ns nr (Some p) g x = by (ack_place g.link nr)
  where
    by : (r : Option ℕ) → StaysOn (elim r as (λ y. Effect) [ None ↦ g | Some n ↦ i_at now pf ns p n g ])
    by None = x
    by (Some n) = on_supply now (text pf ns p (acknowledge now n g)) (on_text pf ns p (acknowledge now n g) (on_acknowledge now n g x))

-- ---- the rows of an end that is Up

on_up : (now : ℕ) (command : Bool) (k : Kind) (p : Option Payload) (g : Effect) → notice_at Up k ≡ None → StaysOn g → StaysOn (arrive_up now command k p g)
on_up now command (kind.I ns nr pf) p g e x = on_on_i now pf ns nr p g x
on_up now command (kind.Rr nr pf) p g e x = on_on_supervisory now command false false pf nr g x
on_up now command (kind.Rnr nr pf) p g e x = on_on_supervisory now command true false pf nr g x
on_up now command (kind.Rej nr pf) p g e x = on_on_supervisory now command false true pf nr g x
on_up now command (kind.Srej nr pf) p g e x = on_on_srej now pf nr g x
on_up now command (kind.SetUp pf) p g e x = absurd (cc e)
on_up now command (kind.Disc pf) p g e x = absurd (cc e)
on_up now command (kind.Dm pf) p g e x = absurd (cc e)
on_up now command (kind.Frmr pf) p g e x = absurd (cc e)
on_up now command (kind.OtherSetUp pf) p g e x = x
on_up now command (kind.Ua pf) p g e x = x
on_up now command (kind.Xid pf) p g e x = x
on_up now command kind.Other p g e x = x

on_poll : (now : ℕ) (g : Effect) → StaysOn g → StaysOn (start_poll now g)
on_poll now g x =
    let y = on_rr true true (record g { link = update_t1 now g.link (record g.link { polling = true }) }) (record { phase = x.phase; outs = x.outs }) in
    record { phase = y.phase; outs = y.outs }

tick_by : (runs comes last asks : Bool) (now : ℕ) (s : State) → (if runs && (comes && last) then Some Failed else None) ≡ None → StaysOn (begin s) →
    StaysOn (retry now (begin s)) → StaysOn (start_poll now (begin s)) →
    StaysOn
    (if runs
    then (if comes then (if last then fail now (begin s) else retry now (begin s)) else begin s)
    else if asks then start_poll now (begin s)
    else begin s)
tick_by true true true asks now s e x y z = absurd (cc e)
tick_by true true false asks now s e x y z = y
tick_by true false last asks now s e x y z = x
tick_by false comes last true now s e x y z = z
tick_by false comes last false now s e x y z = x

begun : (s : State) → StaysOn (begin (record s { phase = Up }))
begun s = record { phase = refl; outs = tt }

-- of an end whose phase is written out
on_step : (s : State) (i : Input) (now : ℕ) → notice_of (record s { phase = Up }) i now ≡ None → StaysOn (step (record s { phase = Up }) i now)
on_step s Set_up now e = begun s
on_step s (Send p) now e =
    let t : State = record s { phase = Up } in
    on_if (takes t) (accept (min now count_end) p (begin t)) (begin t) (on_fill (min now count_end) (begin (record t { given = t.given ++ p ∷ [] })) (begun (record s { given = s.given ++ p ∷ [] }))) (begun s)
on_step s (Arrive f) now e =
    let m : ℕ = min now count_end in on_up m f.command f.kind f.payload (begin (record s { phase = Up; last_arrival = m })) e (begun (record s { last_arrival = m }))
on_step s Tick now e =
    let t : State = record s { phase = Up } in
    let m : ℕ = min now count_end in
    tick_by (t1_runs t) (nat_le s.t1_at m) (nat_eq s.tries s.rules.retries) (is_up t.phase && nat_le (t3_at t) m) m t e (begun s)
    (on_poll m (begin (record t { tries = suc s.tries })) (begun (record s { tries = suc s.tries }))) (on_poll m (begin t) (begun s))
on_step s Close now e = on_finish (min now count_end) (begin (record s { phase = Up; closing = true })) (begun (record s { closing = true }))
on_step s Take now e =
    let rest : State = record s { phase = Up; inbox = drop 1 s.inbox } in
    on_if (is_up Up && busy (record s { phase = Up })) (resume (begin rest)) (begin rest)
    (on_rr false false (begin (follow rest)) (on_state (begin rest) (follow rest) (followed_phase (length s.early) rest) (begun (record s { inbox = drop 1 s.inbox }))))
    (begun (record s { inbox = drop 1 s.inbox }))

pub up_stays_on : UpStaysOn
up_stays_on s i now u e =
    subst (λ (ph : LinkPhase). notice_of (record s { phase = ph }) i now ≡ None → StaysOn (step (record s { phase = ph }) i now)) (sym u) (on_step s i now) e

pub opens_so : OpensSo
opens_so s f now u k =
    let m : ℕ = min now count_end in
    subst (λ (ph : LinkPhase). StaysOn (arrive_in ph m f (begin (record s { last_arrival = m })))) (sym u)
    (subst (λ (c : Kind). StaysOn (arrive_setting_up m c (begin (record s { last_arrival = m })))) (sym k)
    (on_supply m (come_up m (begin (record s { last_arrival = m }))) (record { phase = refl; outs = tt })))
