-- A step of a link that isn't Down leaves it so, or gives a notice by which it has ended.
use Rattle.std.proofs.Common.{◌≡◌, ℕ, suc, ◌-◌, Bool, true, false, not, ◌&&◌, ◌||◌, nat_eq, nat_lt, nat_le, if◌then◌else◌, List, [], ◌∷◌, ◌++◌, length, drop, min, Option, Some, None, slice_get, refl, ap, ◌∙◌}
use Rattle.radio_base.specs.declared.payload.Payload.{Payload}
use Rattle.radio_base.specs.Modulus.{place_of}
use Rattle.ax_link.specs.declared.kind.Kind.{Kind}
use Rattle.ax_link.specs.declared.kind.Kind.TheVariants as kind
use Rattle.ax_link.specs.declared.notice.LinkNotice.{LinkNotice}
use Rattle.ax_link.specs.declared.notice.LinkNotice.TheVariants.{Closed, Failed, Refused, Reset}
use Rattle.ax_link.specs.declared.phase.LinkPhase.{LinkPhase}
use Rattle.ax_link.specs.declared.phase.LinkPhase.TheVariants.{Down, SettingUp, Up, Releasing}
use Rattle.ax_link.specs.State.{Frame, State, Effect, ack_place, begin, busy, count_end, high, is_up, t1_runs, t3_at, wire}
use Rattle.ax_link.specs.Moves.{acknowledge, again, answer_poll, ask, ask_again, asks, emit_timed, end_poll, fill, fill_count, finish, frames, hold, i_at, is_free, follow, note, on_i, on_srej, on_supervisory, emit, release, reset, resume, supply_again, resupply, rr, srej_at, start_poll, store_early, supervisory_at, supply, take_in, take_next, text, text_at, text_later, text_plain, text_srej, to_phase}
use Rattle.ax_link.specs.Table.{Input, Set_up, Send, Arrive, Tick, Close, Take, step, accept, arrive_in, arrive_releasing, arrive_setting_up, arrive_up, close_in_turn, fail_in, fail, may_close, come_up, retry, retry_in, set_up_in, takes}
use Rattle.ax_link.proofs.Carrying.{followed_phase, stored_phase}
use Rattle.link_table.specs.Ending.{is_end}
use Rattle.link_table.specs.Works.{is_down}

-- ---- parts of a step

-- a part of a step leaves a link that isn't Down as such
abbrev Stays : Effect → Effect → Type 0
Stays g h = is_down g.link.phase ≡ false → is_down h.link.phase ≡ false

same : (g : Effect) → Stays g g
same g e = e

if_stays : (b : Bool) (g h k : Effect) → Stays g h → Stays g k → Stays g (if b then h else k)
if_stays true g h k x y = x
if_stays false g h k x y = y

finished : (now : ℕ) (g : Effect) → Stays g (finish now g)
finished now g = if_stays (is_up g.link.phase && g.link.closing && nat_eq g.link.acked (length g.link.given)) g (release now g) g (λ e. refl) (λ e. e)

supplied : (now : ℕ) (g : Effect) → Stays g (supply now g)
supplied now g e = finished now (fill now g) e

acknowledged : (now n : ℕ) (g : Effect) → Stays g (acknowledge now n g)
acknowledged now n g = if_stays (nat_lt g.link.acked n) g _ g (λ e. e) (λ e. e)

resupplied : (now : ℕ) (ends rej unpolled : Bool) (g : Effect) → Stays g (resupply now ends rej unpolled g)
resupplied now true rej unpolled g = λ e. e
resupplied now false rej unpolled g = if_stays (rej && unpolled) g (again now g) g (λ e. e) (λ e. e)

answered : (poll : Bool) (g : Effect) → Stays g (answer_poll poll g)
answered true g = λ e. e
answered false g = λ e. e

supervised : (now : ℕ) (command rnr rej pf : Bool) (n : ℕ) (g : Effect) → Stays g (supervisory_at now command rnr rej pf n g)
supervised now command rnr rej pf n g e =
    let a : Effect = hold now rnr (acknowledge now n g) in
    let b : Effect = answer_poll (command && pf) a in
    let c : Effect = supply_again now (not command && pf) rej b in
    supplied now c (resupplied now ((not command && pf) && b.link.polling) rej (not b.link.polling) b (answered (command && pf) a (acknowledged now n g e)))

on_supervised : (now : ℕ) (command rnr rej pf : Bool) (nr : ℕ) (g : Effect) → Stays g (on_supervisory now command rnr rej pf nr g)
on_supervised now command rnr rej pf nr g = by (ack_place g.link nr)
  where
    by : (r : Option ℕ) → Stays g (elim r as (λ y. Effect) [ None ↦ g | Some n ↦ supervisory_at now command rnr rej pf n g ])
    by None = same g
    by (Some n) = supervised now command rnr rej pf n g

selected : (now n : ℕ) (g : Effect) → Stays g (srej_at now n g)
selected now n g e =
    let h : Effect = end_poll now (acknowledge now n g) in
    let k : Effect = record h { outs = h.outs ++ frames h.link n (min 1 (h.link.sent - n)) } in
    supplied now k (acknowledged now n g e)

on_selected : (now : ℕ) (pf : Bool) (nr : ℕ) (g : Effect) → Stays g (on_srej now pf nr g)
on_selected now false nr g = by (place_of g.link.rules.size nr g.link.acked (g.link.sent - g.link.acked))
  where
    by : (r : Option ℕ) → Stays g (elim r as (λ y. Effect) [ None ↦ g | Some n ↦ record g { outs = g.outs ++ frames g.link n 1 } ])
    by None = same g
    by (Some n) = λ e. e
on_selected now true nr g = by (ack_place g.link nr)
  where
    by : (r : Option ℕ) → Stays g (elim r as (λ y. Effect) [ None ↦ g | Some n ↦ srej_at now n g ])
    by None = same g
    by (Some n) = selected now n g

taken_in : (pf : Bool) (s : State) (g : Effect) → s.phase ≡ g.link.phase → Stays g (take_in pf s g)
taken_in pf s g e =
    let n : Effect = record g { link = s } in
    let on : Stays g n = λ f. ap is_down e ∙ f in
    if_stays (pf || (busy s || nat_eq (fill_count s) 0)) g (emit false (rr s pf) n) n on on

asked_again : (pf : Bool) (g : Effect) → Stays g (ask_again pf g)
asked_again pf g =
    if_stays (not g.link.rej_sent) g (ask pf g) (if pf then emit false (rr g.link true) g else g) (λ e. e)
    (if_stays pf g (emit false (rr g.link true) g) g (λ e. e) (λ e. e))

plain : (pf : Bool) (ns : ℕ) (p : Payload) (g : Effect) → Stays g (text_plain pf ns p g)
plain pf ns p g =
    if_stays (nat_eq ns (wire g.link (length g.link.received))) g (take_in pf (record (take_next p g.link) { rej_sent = false }) g) (ask_again pf g)
    (taken_in pf (record (take_next p g.link) { rej_sent = false }) g refl) (asked_again pf g)

later : (pf : Bool) (n : ℕ) (p : Payload) (g : Effect) → Stays g (text_later pf n p g)
later pf n p g e =
    let i : ℕ = n - length g.link.received in
    let h : Effect = record g { link = store_early i p g.link; outs = g.outs ++ asks g.link (high g.link) (n - high g.link) } in
    answered pf h (ap is_down (stored_phase (is_free (slice_get g.link.early i)) i p g.link) ∙ e)

selective : (pf : Bool) (ns : ℕ) (p : Payload) (g : Effect) → Stays g (text_srej pf ns p g)
selective pf ns p g = by (place_of g.link.rules.size ns (length g.link.received) g.link.rules.window)
  where
    by : (r : Option ℕ) → Stays g (elim r as (λ y. Effect) [ None ↦ emit false (rr g.link pf) g | Some n ↦ text_at pf n p g ])
    by None = λ e. e
    by (Some n) =
        if_stays (nat_lt (length g.link.received) n) g (text_later pf n p g) (take_in pf (follow (take_next p g.link)) g)
        (later pf n p g) (taken_in pf (follow (take_next p g.link)) g (followed_phase (length (take_next p g.link).early) (take_next p g.link)))

came : (pf : Bool) (ns : ℕ) (p : Payload) (g : Effect) → Stays g (text pf ns p g)
came pf ns p g =
    if_stays (nat_le count_end (length g.link.received)) g g _ (λ e. e)
    (if_stays (busy g.link) g (emit false (kind.Rnr (wire g.link (length g.link.received)) pf) g) _ (λ e. e)
    (if_stays g.link.rules.srej g (text_srej pf ns p g) (text_plain pf ns p g) (selective pf ns p g) (plain pf ns p g)))

on_came : (now : ℕ) (pf : Bool) (ns nr : ℕ) (p : Option Payload) (g : Effect) → Stays g (on_i now pf ns nr p g)
on_came now pf ns nr None g = same g
on_came now pf ns nr (Some p) g = by (ack_place g.link nr)
  where
    by : (r : Option ℕ) → Stays g (elim r as (λ y. Effect) [ None ↦ g | Some n ↦ i_at now pf ns p n g ])
    by None = same g
    by (Some n) = λ e. let a : Effect = acknowledge now n g in supplied now (text pf ns p a) (came pf ns p a (acknowledged now n g e))

resumed : (g : Effect) → Stays g (resume g)
resumed g e = ap is_down (followed_phase (length g.link.early) g.link) ∙ e

-- ---- the rows

-- one of these notices tells that the link has ended
abbrev pub any_end : List LinkNotice → Bool
any_end [] = false
any_end (n ∷ ns) = is_end n || any_end ns

-- it is Down only where that is told
abbrev pub Told : Effect → Type 0
Told g = is_down g.link.phase ≡ true → any_end g.notes ≡ true

stayed : (g : Effect) → is_down g.link.phase ≡ false → Told g
stayed g e f = absurd (cc (e, f))

last_end : (ns : List LinkNotice) (n : LinkNotice) → is_end n ≡ true → any_end (ns ++ n ∷ []) ≡ true
last_end [] n e = ap (λ b. b || false) e
last_end (m ∷ ns) n e = by (is_end m) (last_end ns n e)
  where
    by : (b : Bool) → any_end (ns ++ n ∷ []) ≡ true → (b || any_end (ns ++ n ∷ [])) ≡ true
    by true rest = refl
    by false rest = rest

told_setting : (now : ℕ) (k : Kind) (g : Effect) → is_down g.link.phase ≡ false → Told (arrive_setting_up now k g)
told_setting now (kind.Ua true) g e = stayed (supply now (come_up now g)) (supplied now (come_up now g) refl)
told_setting now (kind.Ua false) g e = stayed g e
told_setting now (kind.Dm true) g e = λ f. last_end g.notes Refused refl
told_setting now (kind.Dm false) g e = stayed g e
told_setting now (kind.SetUp pf) g e = stayed (emit false (kind.Ua pf) g) e
told_setting now (kind.Disc pf) g e = stayed (emit false (kind.Dm pf) g) e
told_setting now (kind.I ns nr pf) g e = stayed g e
told_setting now (kind.Rr nr pf) g e = stayed g e
told_setting now (kind.Rnr nr pf) g e = stayed g e
told_setting now (kind.Rej nr pf) g e = stayed g e
told_setting now (kind.Srej nr pf) g e = stayed g e
told_setting now (kind.OtherSetUp pf) g e = stayed g e
told_setting now (kind.Frmr pf) g e = stayed g e
told_setting now (kind.Xid pf) g e = stayed g e
told_setting now kind.Other g e = stayed g e

told_up : (now : ℕ) (command : Bool) (k : Kind) (p : Option Payload) (g : Effect) → is_down g.link.phase ≡ false → Told (arrive_up now command k p g)
told_up now command (kind.I ns nr pf) p g e = stayed (on_i now pf ns nr p g) (on_came now pf ns nr p g e)
told_up now command (kind.Rr nr pf) p g e = stayed (on_supervisory now command false false pf nr g) (on_supervised now command false false pf nr g e)
told_up now command (kind.Rnr nr pf) p g e = stayed (on_supervisory now command true false pf nr g) (on_supervised now command true false pf nr g e)
told_up now command (kind.Rej nr pf) p g e = stayed (on_supervisory now command false true pf nr g) (on_supervised now command false true pf nr g e)
told_up now command (kind.Srej nr pf) p g e = stayed (on_srej now pf nr g) (on_selected now pf nr g e)
told_up now command (kind.SetUp pf) p g e = stayed (note Reset (emit false (kind.Ua pf) (reset now g))) e
told_up now command (kind.Disc pf) p g e = λ f. last_end g.notes Closed refl
told_up now command (kind.Dm pf) p g e = λ f. last_end g.notes Closed refl
told_up now command (kind.Frmr pf) p g e = stayed (emit_timed now true (kind.SetUp true) (to_phase now SettingUp (note Reset (reset now g)))) refl
told_up now command (kind.OtherSetUp pf) p g e = stayed g e
told_up now command (kind.Ua pf) p g e = stayed g e
told_up now command (kind.Xid pf) p g e = stayed g e
told_up now command kind.Other p g e = stayed g e

told_releasing : (now : ℕ) (k : Kind) (g : Effect) → is_down g.link.phase ≡ false → Told (arrive_releasing now k g)
told_releasing now (kind.Ua true) g e = λ f. last_end g.notes Closed refl
told_releasing now (kind.Ua false) g e = stayed g e
told_releasing now (kind.Dm true) g e = λ f. last_end g.notes Closed refl
told_releasing now (kind.Dm false) g e = stayed g e
told_releasing now (kind.Disc pf) g e = stayed (emit false (kind.Ua pf) g) e
told_releasing now (kind.SetUp pf) g e = stayed (emit false (kind.Dm pf) g) e
told_releasing now (kind.OtherSetUp pf) g e = stayed (emit false (kind.Dm pf) g) e
told_releasing now (kind.I ns nr pf) g e = stayed g e
told_releasing now (kind.Rr nr pf) g e = stayed g e
told_releasing now (kind.Rnr nr pf) g e = stayed g e
told_releasing now (kind.Rej nr pf) g e = stayed g e
told_releasing now (kind.Srej nr pf) g e = stayed g e
told_releasing now (kind.Frmr pf) g e = stayed g e
told_releasing now (kind.Xid pf) g e = stayed g e
told_releasing now kind.Other g e = stayed g e

told_arrive : (phase : LinkPhase) (now : ℕ) (f : Frame) (g : Effect) → is_down phase ≡ false → is_down g.link.phase ≡ false → Told (arrive_in phase now f g)
told_arrive Down now f g e d = absurd (cc e)
told_arrive SettingUp now f g e d = told_setting now f.kind g d
told_arrive Up now f g e d = told_up now f.command f.kind f.payload g d
told_arrive Releasing now f g e d = told_releasing now f.kind g d

retried : (phase : LinkPhase) (now : ℕ) (g : Effect) → Stays g (retry_in phase now g)
retried Down now g e = e
retried SettingUp now g e = e
retried Up now g e = e
retried Releasing now g e = e

told_tick : (runs comes last asks : Bool) (now : ℕ) (g : Effect) → is_down g.link.phase ≡ false →
    Told
    (if runs
    then (if comes then (if last then fail now g else retry now g) else g)
    else if asks then start_poll now g
    else g)
told_tick true true true asks now g e = λ f. last_end (fail_in g.link.phase g).notes Failed refl
told_tick true true false asks now g e = stayed (retry now g) (retried g.link.phase now (record g { link = record g.link { tries = suc g.link.tries } }) e)
told_tick true false last asks now g e = stayed g e
told_tick false comes last true now g e = stayed (start_poll now g) e
told_tick false comes last false now g e = stayed g e

told_set_up : (phase : LinkPhase) (now : ℕ) (g : Effect) → is_down g.link.phase ≡ false → Told (set_up_in phase now g)
told_set_up Down now g e = stayed (emit_timed now true (kind.SetUp true) (to_phase now SettingUp (reset now g))) refl
told_set_up SettingUp now g e = stayed g e
told_set_up Up now g e = stayed g e
told_set_up Releasing now g e = stayed g e

pub ends_told : (s : State) (i : Input) (now : ℕ) → is_down s.phase ≡ false → Told (step s i now)
ends_told s Set_up now e = told_set_up s.phase (min now count_end) (begin s) e
ends_told s (Send p) now e = stayed (if takes s then accept (min now count_end) p (begin s) else begin s) (if_stays (takes s) (begin s) (accept (min now count_end) p (begin s)) (begin s) (λ d. d) (λ d. d) e)
ends_told s (Arrive f) now e = told_arrive s.phase (min now count_end) f (begin (record s { last_arrival = min now count_end })) e e
ends_told s Tick now e =
    told_tick (t1_runs s) (nat_le s.t1_at (min now count_end)) (nat_eq s.tries s.rules.retries) (is_up s.phase && nat_le (t3_at s) (min now count_end)) (min now count_end) (begin s) e
ends_told s Close now e =
    stayed (if may_close s.phase then close_in_turn (min now count_end) (begin s) else begin s)
    (if_stays (may_close s.phase) (begin s) (close_in_turn (min now count_end) (begin s)) (begin s) (λ d. finished (min now count_end) (begin (record s { closing = true })) d) (λ d. d) e)
ends_told s Take now e =
    let rest : State = record s { inbox = drop 1 s.inbox } in
    stayed (if is_up s.phase && busy s then resume (begin rest) else begin rest) (if_stays (is_up s.phase && busy s) (begin s) (resume (begin rest)) (begin rest) (λ d. resumed (begin rest) d) (λ d. d) e)
