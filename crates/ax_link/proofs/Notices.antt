-- A step keeps the settings, and gives at most one notice.
use Rattle.std.proofs.Common.{◌≡◌, ℕ, zero, suc, ◌-◌, Bool, true, false, not, ◌&&◌, ◌||◌, nat_eq, nat_lt, nat_le, if◌then◌else◌, [], ◌∷◌, ◌++◌, length, drop, min, Option, Some, None, slice_get, slice_set, refl, ap, ◌∙◌}
use Rattle.std.specs.Option.{option_to_list}
use Rattle.radio_base.specs.declared.payload.Payload.{Payload}
use Rattle.radio_base.specs.Modulus.{place_of}
use Rattle.ax_link.specs.declared.kind.Kind.{Kind}
use Rattle.ax_link.specs.declared.kind.Kind.TheVariants as kind
use Rattle.ax_link.specs.declared.notice.LinkNotice.{LinkNotice}
use Rattle.ax_link.specs.declared.notice.LinkNotice.TheVariants.{Failed}
use Rattle.ax_link.specs.declared.phase.LinkPhase.{LinkPhase}
use Rattle.ax_link.specs.declared.phase.LinkPhase.TheVariants.{Down, SettingUp, Up, Releasing}
use Rattle.ax_link.specs.Laws.{NoticesAre, SettingsStay, notice_at, notice_of}
use Rattle.ax_link.specs.State.{Frame, State, Effect, ack_place, begin, busy, count_end, high, is_up, t1_runs, t3_at, wire}
use Rattle.ax_link.specs.Moves.{acknowledge, again, answer_poll, ask, ask_again, asks, end_poll, fill, fill_count, finish, frames, hold, i_at, is_free, follow_by, follow, next_early, on_i, on_srej, on_supervisory, emit, release, resume, supply_again, resupply, rr, srej_at, start_poll, store_early, supervisory_at, supply, take_in, take_next, text, text_at, text_later, text_plain, text_srej}
use Rattle.ax_link.specs.Table.{Input, Set_up, Send, Arrive, Tick, Close, Take, step, accept, arrive_down, arrive_in, arrive_releasing, arrive_setting_up, arrive_up, close_in_turn, fail_in, fail, may_close, come_up, refuse_if, retry, retry_in, set_up_in, takes}

-- a part of a step keeps the settings and the notices
abbrev Same : Effect → Effect → Type 0
Same g h = (h.link.rules ≡ g.link.rules) × (h.notes ≡ g.notes)

here : (g : Effect) → Same g g
here g = (refl, refl)

on : (g h k : Effect) → Same g h → Same h k → Same g k
on g h k x y = (y.0 ∙ x.0, y.1 ∙ x.1)

same_if : (b : Bool) (g h k : Effect) → Same g h → Same g k → Same g (if b then h else k)
same_if true g h k x y = x
same_if false g h k x y = y

same_finish : (now : ℕ) (g : Effect) → Same g (finish now g)
same_finish now g = same_if (is_up g.link.phase && g.link.closing && nat_eq g.link.acked (length g.link.given)) g (release now g) g (refl, refl) (refl, refl)

same_supply : (now : ℕ) (g : Effect) → Same g (supply now g)
same_supply now g = on g (fill now g) (supply now g) (refl, refl) (same_finish now (fill now g))

same_acknowledge : (now n : ℕ) (g : Effect) → Same g (acknowledge now n g)
same_acknowledge now n g = same_if (nat_lt g.link.acked n) g _ g (refl, refl) (refl, refl)

same_resupply : (now : ℕ) (ends rej unpolled : Bool) (g : Effect) → Same g (resupply now ends rej unpolled g)
same_resupply now true rej unpolled g = (refl, refl)
same_resupply now false rej unpolled g = same_if (rej && unpolled) g (again now g) g (refl, refl) (refl, refl)

same_answered : (poll : Bool) (g : Effect) → Same g (answer_poll poll g)
same_answered true g = (refl, refl)
same_answered false g = (refl, refl)

same_supervised : (now : ℕ) (command rnr rej pf : Bool) (n : ℕ) (g : Effect) → Same g (supervisory_at now command rnr rej pf n g)
same_supervised now command rnr rej pf n g =
    let a : Effect = hold now rnr (acknowledge now n g) in
    let b : Effect = answer_poll (command && pf) a in
    let c : Effect = supply_again now (not command && pf) rej b in
    on g a (supply now c) (same_acknowledge now n g)
    (on a b (supply now c) (same_answered (command && pf) a)
    (on b c (supply now c) (same_resupply now ((not command && pf) && b.link.polling) rej (not b.link.polling) b) (same_supply now c)))

same_on_supervisory : (now : ℕ) (command rnr rej pf : Bool) (nr : ℕ) (g : Effect) → Same g (on_supervisory now command rnr rej pf nr g)
same_on_supervisory now command rnr rej pf nr g = by (ack_place g.link nr)
  where
    by : (r : Option ℕ) → Same g (elim r as (λ y. Effect) [ None ↦ g | Some n ↦ supervisory_at now command rnr rej pf n g ])
    by None = here g
    by (Some n) = same_supervised now command rnr rej pf n g

same_selected : (now n : ℕ) (g : Effect) → Same g (srej_at now n g)
same_selected now n g =
    let h : Effect = end_poll now (acknowledge now n g) in
    let k : Effect = record h { outs = h.outs ++ frames h.link n (min 1 (h.link.sent - n)) } in
    on g h (supply now k) (same_acknowledge now n g) (same_supply now k)

same_on_srej : (now : ℕ) (pf : Bool) (nr : ℕ) (g : Effect) → Same g (on_srej now pf nr g)
same_on_srej now false nr g = by (place_of g.link.rules.size nr g.link.acked (g.link.sent - g.link.acked))
  where
    by : (r : Option ℕ) → Same g (elim r as (λ y. Effect) [ None ↦ g | Some n ↦ record g { outs = g.outs ++ frames g.link n 1 } ])
    by None = here g
    by (Some n) = (refl, refl)
same_on_srej now true nr g = by (ack_place g.link nr)
  where
    by : (r : Option ℕ) → Same g (elim r as (λ y. Effect) [ None ↦ g | Some n ↦ srej_at now n g ])
    by None = here g
    by (Some n) = same_selected now n g

-- ---- payloads that come

moved_rules : (k : ℕ) (s : State) → (follow_by k s).rules ≡ s.rules
moved_rules zero s = refl
moved_rules (suc k) s = by (next_early s) (λ p. moved_rules k (take_next p s))
  where
    by : (r : Option Payload) → ((p : Payload) → (follow_by k (take_next p s)).rules ≡ s.rules) →
        (elim r as (λ y. State) [ None ↦ s | Some p ↦ follow_by k (take_next p s) ]).rules ≡ s.rules
    by None more = refl
    by (Some p) more = more p

same_take_in : (pf : Bool) (s : State) (g : Effect) → s.rules ≡ g.link.rules → Same g (take_in pf s g)
same_take_in pf s g e =
    let n : Effect = record g { link = s } in
    same_if (pf || (busy s || nat_eq (fill_count s) 0)) g (emit false (rr s pf) n) n (e, refl) (e, refl)

same_ask_again : (pf : Bool) (g : Effect) → Same g (ask_again pf g)
same_ask_again pf g =
    same_if (not g.link.rej_sent) g (ask pf g) (if pf then emit false (rr g.link true) g else g) (refl, refl)
    (same_if pf g (emit false (rr g.link true) g) g (refl, refl) (refl, refl))

same_text_plain : (pf : Bool) (ns : ℕ) (p : Payload) (g : Effect) → Same g (text_plain pf ns p g)
same_text_plain pf ns p g =
    same_if (nat_eq ns (wire g.link (length g.link.received))) g (take_in pf (record (take_next p g.link) { rej_sent = false }) g) (ask_again pf g)
    (same_take_in pf (record (take_next p g.link) { rej_sent = false }) g refl) (same_ask_again pf g)

stored_rules : (b : Bool) (i : ℕ) (p : Payload) (s : State) → (if b then record s { early = slice_set s.early i (Some p) } else s).rules ≡ s.rules
stored_rules true i p s = refl
stored_rules false i p s = refl

same_text_later : (pf : Bool) (n : ℕ) (p : Payload) (g : Effect) → Same g (text_later pf n p g)
same_text_later pf n p g =
    let i : ℕ = n - length g.link.received in
    let h : Effect = record g { link = store_early i p g.link; outs = g.outs ++ asks g.link (high g.link) (n - high g.link) } in
    on g h (answer_poll pf h) (stored_rules (is_free (slice_get g.link.early i)) i p g.link, refl) (same_answered pf h)

same_text_srej : (pf : Bool) (ns : ℕ) (p : Payload) (g : Effect) → Same g (text_srej pf ns p g)
same_text_srej pf ns p g = by (place_of g.link.rules.size ns (length g.link.received) g.link.rules.window)
  where
    by : (r : Option ℕ) → Same g (elim r as (λ y. Effect) [ None ↦ emit false (rr g.link pf) g | Some n ↦ text_at pf n p g ])
    by None = (refl, refl)
    by (Some n) =
        same_if (nat_lt (length g.link.received) n) g (text_later pf n p g) (take_in pf (follow (take_next p g.link)) g)
        (same_text_later pf n p g) (same_take_in pf (follow (take_next p g.link)) g (moved_rules (length (take_next p g.link).early) (take_next p g.link)))

same_text : (pf : Bool) (ns : ℕ) (p : Payload) (g : Effect) → Same g (text pf ns p g)
same_text pf ns p g =
    same_if (nat_le count_end (length g.link.received)) g g _ (refl, refl)
    (same_if (busy g.link) g (emit false (kind.Rnr (wire g.link (length g.link.received)) pf) g) _ (refl, refl)
    (same_if g.link.rules.srej g (text_srej pf ns p g) (text_plain pf ns p g) (same_text_srej pf ns p g) (same_text_plain pf ns p g)))

same_on_i : (now : ℕ) (pf : Bool) (ns nr : ℕ) (p : Option Payload) (g : Effect) → Same g (on_i now pf ns nr p g)
same_on_i now pf ns nr None g = here g
same_on_i now pf ns nr (Some p) g = by (ack_place g.link nr)
  where
    by : (r : Option ℕ) → Same g (elim r as (λ y. Effect) [ None ↦ g | Some n ↦ i_at now pf ns p n g ])
    by None = here g
    by (Some n) =
        let a : Effect = acknowledge now n g in
        let t : Effect = text pf ns p a in
        on g a (supply now t) (same_acknowledge now n g) (on a t (supply now t) (same_text pf ns p a) (same_supply now t))

same_resumed : (g : Effect) → Same g (resume g)
same_resumed g = (moved_rules (length g.link.early) g.link, refl)

-- ---- the rows

-- a step from a state keeps its settings, and gives this notice
abbrev Row : State → Effect → Option LinkNotice → Type 0
Row s g n = (g.link.rules ≡ s.rules) × (g.notes ≡ option_to_list n)

row_refused : (asked pf : Bool) (s : State) → Row s (refuse_if asked pf (begin s)) None
row_refused true pf s = (refl, refl)
row_refused false pf s = (refl, refl)

row_down : (now : ℕ) (command : Bool) (k : Kind) (s : State) → Row s (arrive_down now command k (begin s)) (notice_at Down k)
row_down now command (kind.SetUp pf) s = (refl, refl)
row_down now command (kind.Disc pf) s = row_refused command pf s
row_down now command (kind.Xid pf) s = row_refused command pf s
row_down now command (kind.I ns nr pf) s = row_refused (command && pf) true s
row_down now command (kind.Rr nr pf) s = row_refused (command && pf) true s
row_down now command (kind.Rnr nr pf) s = row_refused (command && pf) true s
row_down now command (kind.Rej nr pf) s = row_refused (command && pf) true s
row_down now command (kind.Srej nr pf) s = row_refused (command && pf) true s
row_down now command (kind.OtherSetUp pf) s = (refl, refl)
row_down now command (kind.Dm pf) s = (refl, refl)
row_down now command (kind.Ua pf) s = (refl, refl)
row_down now command (kind.Frmr pf) s = (refl, refl)
row_down now command kind.Other s = (refl, refl)

row_setting : (now : ℕ) (k : Kind) (s : State) → Row s (arrive_setting_up now k (begin s)) (notice_at SettingUp k)
row_setting now (kind.Ua true) s = same_supply now (come_up now (begin s))
row_setting now (kind.Ua false) s = (refl, refl)
row_setting now (kind.Dm true) s = (refl, refl)
row_setting now (kind.Dm false) s = (refl, refl)
row_setting now (kind.SetUp pf) s = (refl, refl)
row_setting now (kind.Disc pf) s = (refl, refl)
row_setting now (kind.I ns nr pf) s = (refl, refl)
row_setting now (kind.Rr nr pf) s = (refl, refl)
row_setting now (kind.Rnr nr pf) s = (refl, refl)
row_setting now (kind.Rej nr pf) s = (refl, refl)
row_setting now (kind.Srej nr pf) s = (refl, refl)
row_setting now (kind.OtherSetUp pf) s = (refl, refl)
row_setting now (kind.Frmr pf) s = (refl, refl)
row_setting now (kind.Xid pf) s = (refl, refl)
row_setting now kind.Other s = (refl, refl)

row_up : (now : ℕ) (command : Bool) (k : Kind) (p : Option Payload) (s : State) → Row s (arrive_up now command k p (begin s)) (notice_at Up k)
row_up now command (kind.I ns nr pf) p s = same_on_i now pf ns nr p (begin s)
row_up now command (kind.Rr nr pf) p s = same_on_supervisory now command false false pf nr (begin s)
row_up now command (kind.Rnr nr pf) p s = same_on_supervisory now command true false pf nr (begin s)
row_up now command (kind.Rej nr pf) p s = same_on_supervisory now command false true pf nr (begin s)
row_up now command (kind.Srej nr pf) p s = same_on_srej now pf nr (begin s)
row_up now command (kind.SetUp pf) p s = (refl, refl)
row_up now command (kind.Disc pf) p s = (refl, refl)
row_up now command (kind.Dm pf) p s = (refl, refl)
row_up now command (kind.Frmr pf) p s = (refl, refl)
row_up now command (kind.OtherSetUp pf) p s = (refl, refl)
row_up now command (kind.Ua pf) p s = (refl, refl)
row_up now command (kind.Xid pf) p s = (refl, refl)
row_up now command kind.Other p s = (refl, refl)

row_releasing : (now : ℕ) (k : Kind) (s : State) → Row s (arrive_releasing now k (begin s)) (notice_at Releasing k)
row_releasing now (kind.Ua true) s = (refl, refl)
row_releasing now (kind.Ua false) s = (refl, refl)
row_releasing now (kind.Dm true) s = (refl, refl)
row_releasing now (kind.Dm false) s = (refl, refl)
row_releasing now (kind.Disc pf) s = (refl, refl)
row_releasing now (kind.SetUp pf) s = (refl, refl)
row_releasing now (kind.OtherSetUp pf) s = (refl, refl)
row_releasing now (kind.I ns nr pf) s = (refl, refl)
row_releasing now (kind.Rr nr pf) s = (refl, refl)
row_releasing now (kind.Rnr nr pf) s = (refl, refl)
row_releasing now (kind.Rej nr pf) s = (refl, refl)
row_releasing now (kind.Srej nr pf) s = (refl, refl)
row_releasing now (kind.Frmr pf) s = (refl, refl)
row_releasing now (kind.Xid pf) s = (refl, refl)
row_releasing now kind.Other s = (refl, refl)

row_arrive : (phase : LinkPhase) (now : ℕ) (f : Frame) (s : State) → Row s (arrive_in phase now f (begin s)) (notice_at phase f.kind)
row_arrive Down now f s = row_down now f.command f.kind s
row_arrive SettingUp now f s = row_setting now f.kind s
row_arrive Up now f s = row_up now f.command f.kind f.payload s
row_arrive Releasing now f s = row_releasing now f.kind s

same_fail : (phase : LinkPhase) (g : Effect) → Same g (fail_in phase g)
same_fail Down g = (refl, refl)
same_fail SettingUp g = (refl, refl)
same_fail Up g = (refl, refl)
same_fail Releasing g = (refl, refl)

same_retry : (phase : LinkPhase) (now : ℕ) (g : Effect) → Same g (retry_in phase now g)
same_retry Down now g = (refl, refl)
same_retry SettingUp now g = (refl, refl)
same_retry Up now g = (refl, refl)
same_retry Releasing now g = (refl, refl)

row_failed : (now : ℕ) (s : State) → Row s (fail now (begin s)) (Some Failed)
row_failed now s =
    let f = same_fail s.phase (begin s) in (f.0, ap (λ ns. ns ++ Failed ∷ []) f.1)

row_tick : (runs comes last asks : Bool) (now : ℕ) (s : State) →
    Row s
    (if runs
    then (if comes then (if last then fail now (begin s) else retry now (begin s)) else begin s)
    else if asks then start_poll now (begin s)
    else begin s)
    (if runs && (comes && last) then Some Failed else None)
row_tick true true true asks now s = row_failed now s
row_tick true true false asks now s = same_retry s.phase now (begin (record s { tries = suc s.tries }))
row_tick true false last asks now s = (refl, refl)
row_tick false comes last true now s = (refl, refl)
row_tick false comes last false now s = (refl, refl)

row_set_up : (phase : LinkPhase) (now : ℕ) (s : State) → Row s (set_up_in phase now (begin s)) None
row_set_up Down now s = (refl, refl)
row_set_up SettingUp now s = (refl, refl)
row_set_up Up now s = (refl, refl)
row_set_up Releasing now s = (refl, refl)

row_step : (s : State) (i : Input) (now : ℕ) → Row s (step s i now) (notice_of s i now)
row_step s Set_up now = row_set_up s.phase (min now count_end) s
row_step s (Send p) now = same_if (takes s) (begin s) (accept (min now count_end) p (begin s)) (begin s) (refl, refl) (refl, refl)
row_step s (Arrive f) now = row_arrive s.phase (min now count_end) f (record s { last_arrival = min now count_end })
row_step s Tick now =
    row_tick (t1_runs s) (nat_le s.t1_at (min now count_end)) (nat_eq s.tries s.rules.retries) (is_up s.phase && nat_le (t3_at s) (min now count_end)) (min now count_end) s
row_step s Close now =
    same_if (may_close s.phase) (begin s) (close_in_turn (min now count_end) (begin s)) (begin s)
    (same_finish (min now count_end) (begin (record s { closing = true }))) (refl, refl)
row_step s Take now =
    let rest : State = record s { inbox = drop 1 s.inbox } in
    same_if (is_up s.phase && busy s) (begin s) (resume (begin rest)) (begin rest) (same_resumed (begin rest)) (refl, refl)

pub settings_stay : SettingsStay
settings_stay s i now = (row_step s i now).0

pub notices_are : NoticesAre
notices_are s i now = (row_step s i now).1
