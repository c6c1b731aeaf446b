-- No step of an end that stays Up puts out a UA with F.
use Rattle.std.proofs.Common.{◌≡◌, ℕ, zero, suc, ◌+◌, ◌-◌, List, [], ◌∷◌, ◌++◌, length, Option, Some, None, refl, arith, true, false, Bool, min, max, nat_lt, nat_le, nat_eq, not, ◌&&◌, ◌||◌, if◌then◌else◌, drop}
use Rattle.ax_link.specs.Moves.{emit, note, to_phase, rr, emit_timed, fill, fill_count, finish, supply, again, end_poll, start_poll, resupply, supply_again, answer_poll, supervisory_at, acknowledge, hold, on_supervisory, on_srej, on_i, text, text_plain, text_later, text_srej, take_in, answer_text, store_early, asks, asks_of, frames, frames_of, follow, take_next}
use Rattle.ax_link.specs.declared.kind.Kind.{Kind}
use Rattle.ax_link.specs.declared.kind.Kind.TheVariants.{I, Rr, Rnr, Rej, Srej, Disc, Dm, Ua, Frmr, SetUp, OtherSetUp, Xid, Other}
use Rattle.ax_link.specs.State.{State, Frame, Effect, ack_place, begin, is_up, busy, t1_runs, update_t1, restart_t1, wire, high}
use Rattle.ax_link.specs.Table.{Send, Close, Take, takes, may_close, step_at, tick, expire, retry_in, fail_in, arrive_up}
use Rattle.ax_link.specs.declared.notice.LinkNotice.TheVariants.{Failed}
use Rattle.ax_link.specs.declared.phase.LinkPhase.TheVariants.{Down, SettingUp, Up, Releasing}
use Rattle.ax_link.specs.declared.phase.LinkPhase.{LinkPhase}
use Rattle.radio_base.specs.Modulus.{place_of}
use Rattle.radio_base.specs.declared.modulus.TheConstants.{COUNT_MAX}
use Rattle.radio_base.specs.declared.payload.Payload.{Payload}
use Rattle.ax_link.specs.Pair.{opens, opens_count}
use Rattle.ax_link.specs.Pair.{NoRestart}

count_more_by : (c : Bool) (a b n : ℕ) → a ≡ b + n → (if c then suc a else a) ≡ (if c then suc b else b) + n
count_more_by true a b n e = omega (arith, e)
count_more_by false a b n e = e

pub count_more : (fs outs : List Frame) → opens_count (fs ++ outs) ≡ opens_count fs + opens_count outs
count_more [] outs = omega arith
count_more (f ∷ fs) outs = count_more_by (opens f.kind) (opens_count (fs ++ outs)) (opens_count fs) (opens_count outs) (count_more fs outs)

-- no UA with F was put out so far
abbrev pub Quiet : Effect → Type 0
Quiet g = opens_count g.outs ≡ 0

q_shots : (size got : ℕ) (given : List Payload) (n many : ℕ) → opens_count (frames_of size got given n many) ≡ 0
q_shots size got given n zero = refl
q_shots size got given n (suc many) = q_shots size got given (suc n) many

q_asks : (size n many : ℕ) → opens_count (asks_of size n many) ≡ 0
q_asks size n zero = refl
q_asks size n (suc many) = q_asks size (suc n) many

q_add : (xs ys : List Frame) → opens_count xs ≡ 0 → opens_count ys ≡ 0 → opens_count (xs ++ ys) ≡ 0
q_add xs ys a b = omega (arith, count_more xs ys, a, b)

one_by : (c : Bool) → c ≡ false → ◌≡◌ {A = ℕ} (if c then suc 0 else 0) 0
one_by true e = absurd (cc e)
one_by false e = refl

pub q_put : (command : Bool) (c : Kind) (g : Effect) → opens c ≡ false → Quiet g → Quiet (emit command c g)
q_put command c g e q = q_add g.outs (record { command = command; kind = c; payload = None } ∷ []) q (one_by (opens c) e)

rr_opens : (b : Bool) (n : ℕ) (pf : Bool) → opens (if b then Rnr n pf else Rr n pf) ≡ false
rr_opens true n pf = refl
rr_opens false n pf = refl

q_rr : (command pf : Bool) (g : Effect) → Quiet g → Quiet (emit command (rr g.link pf) g)
q_rr command pf g q = q_put command (rr g.link pf) g (rr_opens (busy g.link) (wire g.link (length g.link.received)) pf) q

q_if : (b : Bool) (g h : Effect) → Quiet g → Quiet h → Quiet (if b then g else h)
q_if true g h x y = x
q_if false g h x y = y

pub q_fill : (now : ℕ) (g : Effect) → Quiet g → Quiet (fill now g)
q_fill now g q = q_add g.outs (frames g.link g.link.sent (fill_count g.link)) q (q_shots g.link.rules.size (length g.link.received) g.link.given g.link.sent (fill_count g.link))

q_again : (now : ℕ) (g : Effect) → Quiet g → Quiet (again now g)
q_again now g q = q_add g.outs (frames g.link g.link.acked (g.link.sent - g.link.acked)) q (q_shots g.link.rules.size (length g.link.received) g.link.given g.link.acked (g.link.sent - g.link.acked))

pub q_finish : (now : ℕ) (g : Effect) → Quiet g → Quiet (finish now g)
q_finish now g q = q_if (is_up g.link.phase && g.link.closing && nat_eq g.link.acked (length g.link.given)) (emit_timed now true (Disc true) (to_phase now Releasing (record g { link = record g.link { tries = 0 } }))) g (q_put true (Disc true) (to_phase now Releasing (record g { link = record g.link { tries = 0 } })) refl q) q

q_supply : (now : ℕ) (g : Effect) → Quiet g → Quiet (supply now g)
q_supply now g q = q_finish now (fill now g) (q_fill now g q)

q_resupply : (now : ℕ) (ends rej unpolled : Bool) (g : Effect) → Quiet g → Quiet (resupply now ends rej unpolled g)
q_resupply now true rej unpolled g q = q_again now (end_poll now g) q
q_resupply now false rej unpolled g q = q_if (rej && unpolled) (again now g) g (q_again now g q) q

q_answered : (poll : Bool) (g : Effect) → Quiet g → Quiet (answer_poll poll g)
q_answered true g q = q_rr false true g q
q_answered false g q = q

q_ack : (now x : ℕ) (g : Effect) → Quiet g → Quiet (acknowledge now x g)
q_ack now x g q = q_if (nat_lt g.link.acked x) (record g { link = restart_t1 now (update_t1 now g.link (record g.link { acked = x; tries = 0 })) }) g q q

q_resupplied : (now : ℕ) (final rej : Bool) (g : Effect) → Quiet g → Quiet (supply_again now final rej g)
q_resupplied now final rej g q = q_resupply now (final && g.link.polling) rej (not g.link.polling) g q

q_hold : (now : ℕ) (b : Bool) (g : Effect) → Quiet g → Quiet (hold now b g)
q_hold now b g q = q

q_supervised : (now : ℕ) (command rnr rej pf : Bool) (x : ℕ) (g : Effect) → Quiet g → Quiet (supervisory_at now command rnr rej pf x g)
q_supervised now command rnr rej pf x g q =
    q_supply now (supply_again now (not command && pf) rej (answer_poll (command && pf) (hold now rnr (acknowledge now x g))))
    (q_resupplied now (not command && pf) rej (answer_poll (command && pf) (hold now rnr (acknowledge now x g)))
    (q_answered (command && pf) (hold now rnr (acknowledge now x g)) (q_hold now rnr (acknowledge now x g) (q_ack now x g q))))

q_at : (x : Option ℕ) (g : Effect) (f : ℕ → Effect) → Quiet g → ((y : ℕ) → Quiet (f y)) → Quiet (elim x as (λ z. Effect) [ None ↦ g | Some y ↦ f y ])
q_at None g f q h = q
q_at (Some y) g f q h = h y

q_on_supervisory : (now : ℕ) (command rnr rej pf : Bool) (nr : ℕ) (g : Effect) → Quiet g → Quiet (on_supervisory now command rnr rej pf nr g)
q_on_supervisory now command rnr rej pf nr g q = q_at (ack_place g.link nr) g (λ x. supervisory_at now command rnr rej pf x g) q (λ x. q_supervised now command rnr rej pf x g q)

q_more : (g : Effect) (n many : ℕ) → Quiet g → Quiet (record g { outs = g.outs ++ frames g.link n many })
q_more g n many q = q_add g.outs (frames g.link n many) q (q_shots g.link.rules.size (length g.link.received) g.link.given n many)

q_srej : (now : ℕ) (pf : Bool) (nr : ℕ) (g : Effect) → Quiet g → Quiet (on_srej now pf nr g)
q_srej now false nr g q = q_at (place_of g.link.rules.size nr g.link.acked (g.link.sent - g.link.acked)) g (λ y. record g { outs = g.outs ++ frames g.link y 1 }) q (λ y. q_more g y 1 q)
q_srej now true nr g q = q_at (ack_place g.link nr) g (λ x. let h = end_poll now (acknowledge now x g) in supply now (record h { outs = h.outs ++ frames h.link x (min 1 (h.link.sent - x)) })) q
    (λ x. let k : Quiet (end_poll now (acknowledge now x g)) = q_ack now x g q in q_supply now (record (end_poll now (acknowledge now x g)) { outs = (end_poll now (acknowledge now x g)).outs ++ frames (end_poll now (acknowledge now x g)).link x (min 1 ((end_poll now (acknowledge now x g)).link.sent - x)) }) (q_more (end_poll now (acknowledge now x g)) x (min 1 ((end_poll now (acknowledge now x g)).link.sent - x)) k))

q_answer_taken : (pf : Bool) (g : Effect) → Quiet g → Quiet (answer_text pf g)
q_answer_taken pf g q = q_if (pf || (busy g.link || nat_eq (fill_count g.link) 0)) (emit false (rr g.link pf) g) g (q_rr false pf g q) q

q_plain : (pf : Bool) (ns : ℕ) (p : Payload) (g : Effect) → Quiet g → Quiet (text_plain pf ns p g)
q_plain pf ns p g q =
    q_if (nat_eq ns (wire g.link (length g.link.received))) (take_in pf (record (take_next p g.link) { rej_sent = false }) g) (if not g.link.rej_sent then emit false (Rej (wire g.link (length g.link.received)) pf) (record g { link = record g.link { rej_sent = true } }) else if pf then emit false (rr g.link true) g else g)
    (q_answer_taken pf (record g { link = record (take_next p g.link) { rej_sent = false } }) q)
    (q_if (not g.link.rej_sent) (emit false (Rej (wire g.link (length g.link.received)) pf) (record g { link = record g.link { rej_sent = true } })) (if pf then emit false (rr g.link true) g else g)
    (q_put false (Rej (wire g.link (length g.link.received)) pf) (record g { link = record g.link { rej_sent = true } }) refl q)
    (q_if pf (emit false (rr g.link true) g) g (q_rr false true g q) q))

q_later : (pf : Bool) (n : ℕ) (p : Payload) (g : Effect) → Quiet g → Quiet (text_later pf n p g)
q_later pf n p g q =
    let a : opens_count (g.outs ++ asks g.link (high g.link) (n - high g.link)) ≡ 0 = q_add g.outs (asks g.link (high g.link) (n - high g.link)) q (q_asks g.link.rules.size (high g.link) (n - high g.link)) in
    q_if pf (emit false (rr (store_early (n - length g.link.received) p g.link) true) (record g { link = store_early (n - length g.link.received) p g.link; outs = g.outs ++ asks g.link (high g.link) (n - high g.link) }))
    (record g { link = store_early (n - length g.link.received) p g.link; outs = g.outs ++ asks g.link (high g.link) (n - high g.link) })
    (q_rr false true (record g { link = store_early (n - length g.link.received) p g.link; outs = g.outs ++ asks g.link (high g.link) (n - high g.link) }) a) a

q_text_srej : (pf : Bool) (ns : ℕ) (p : Payload) (g : Effect) → Quiet g → Quiet (text_srej pf ns p g)
q_text_srej pf ns p g q = q_at (place_of g.link.rules.size ns (length g.link.received) g.link.rules.window) (emit false (rr g.link pf) g) (λ n. if nat_lt (length g.link.received) n then text_later pf n p g else take_in pf (follow (take_next p g.link)) g) (q_rr false pf g q)
    (λ n. q_if (nat_lt (length g.link.received) n) (text_later pf n p g) (take_in pf (follow (take_next p g.link)) g) (q_later pf n p g q) (q_answer_taken pf (record g { link = follow (take_next p g.link) }) q))

q_text : (pf : Bool) (ns : ℕ) (p : Payload) (g : Effect) → Quiet g → Quiet (text pf ns p g)
q_text pf ns p g q =
    q_if (nat_le COUNT_MAX (length g.link.received)) g (if busy g.link then emit false (Rnr (wire g.link (length g.link.received)) pf) g else if g.link.rules.srej then text_srej pf ns p g else text_plain pf ns p g) q
    (q_if (busy g.link) (emit false (Rnr (wire g.link (length g.link.received)) pf) g) (if g.link.rules.srej then text_srej pf ns p g else text_plain pf ns p g)
    (q_put false (Rnr (wire g.link (length g.link.received)) pf) g refl q)
    (q_if g.link.rules.srej (text_srej pf ns p g) (text_plain pf ns p g) (q_text_srej pf ns p g q) (q_plain pf ns p g q)))

q_on_i : (now : ℕ) (pf : Bool) (ns nr : ℕ) (p : Option Payload) (g : Effect) → Quiet g → Quiet (on_i now pf ns nr p g)
q_on_i now pf ns nr None g q = q
q_on_i now pf ns nr (Some p) g q = q_at (ack_place g.link nr) g (λ x. supply now (text pf ns p (acknowledge now x g))) q (λ x. q_supply now (text pf ns p (acknowledge now x g)) (q_text pf ns p (acknowledge now x g) (q_ack now x g q)))

down_not_up : Down ≡ Up → ⊥
down_not_up e = absurd (cc e)

-- an arrival at an end that stays Up
pub q_up : (now : ℕ) (command : Bool) (c : Kind) (p : Option Payload) (g : Effect) → NoRestart c → (arrive_up now command c p g).link.phase ≡ Up → Quiet g → Quiet (arrive_up now command c p g)
q_up now command (I ns nr pf) p g k v q = q_on_i now pf ns nr p g q
q_up now command (Rr nr pf) p g k v q = q_on_supervisory now command false false pf nr g q
q_up now command (Rnr nr pf) p g k v q = q_on_supervisory now command true false pf nr g q
q_up now command (Rej nr pf) p g k v q = q_on_supervisory now command false true pf nr g q
q_up now command (Srej nr pf) p g k v q = q_srej now pf nr g q
q_up now command (SetUp pf) p g k v q = absurd k
q_up now command (Frmr pf) p g k v q = absurd k
q_up now command (Disc pf) p g k v q = absurd (down_not_up v)
q_up now command (Dm pf) p g k v q = q
q_up now command (Ua pf) p g k v q = q
q_up now command (OtherSetUp pf) p g k v q = q
q_up now command (Xid pf) p g k v q = q
q_up now command Other p g k v q = q

q_poll : (now : ℕ) (g : Effect) → Quiet g → Quiet (start_poll now g)
q_poll now g q = q_rr true true (record g { link = update_t1 now g.link (record g.link { polling = true }) }) q

q_retry : (ph : LinkPhase) (now : ℕ) (g : Effect) → Quiet g → Quiet (retry_in ph now g)
q_retry Down now g q = q
q_retry SettingUp now g q = q_put true (SetUp true) g refl q
q_retry Up now g q = q_poll now g q
q_retry Releasing now g q = q_put true (Disc true) g refl q

q_fail : (ph : LinkPhase) (now : ℕ) (g : Effect) → Quiet g → Quiet (note Failed (to_phase now Down (fail_in ph g)))
q_fail Down now g q = q
q_fail SettingUp now g q = q
q_fail Up now g q = q_put false (Dm false) g refl q
q_fail Releasing now g q = q

pub q_tick : (now : ℕ) (g : Effect) → Quiet g → Quiet (tick now g)
q_tick now g q =
    q_if (t1_runs g.link) (if nat_le g.link.t1_at now then expire now g else g) (if is_up g.link.phase && nat_le (max g.link.last_arrival g.link.t1_stopped_at + g.link.rules.t3) now then start_poll now g else g)
    (q_if (nat_le g.link.t1_at now) (expire now g) g
    (q_if (nat_eq g.link.tries g.link.rules.retries) (note Failed (to_phase now Down (fail_in g.link.phase g))) (retry_in g.link.phase now (record g { link = record g.link { tries = suc g.link.tries } }))
    (q_fail g.link.phase now g q) (q_retry g.link.phase now (record g { link = record g.link { tries = suc g.link.tries } }) q)) q)
    (q_if (is_up g.link.phase && nat_le (max g.link.last_arrival g.link.t1_stopped_at + g.link.rules.t3) now) (start_poll now g) g (q_poll now g q) q)

pub q_send : (now : ℕ) (p : Payload) (s : State) → Quiet (step_at now s (Send p))
q_send now p s = q_if (takes s) (fill now (begin (record s { given = s.given ++ p ∷ [] }))) (begin s) (q_fill now (begin (record s { given = s.given ++ p ∷ [] })) refl) refl

pub q_close : (now : ℕ) (s : State) → Quiet (step_at now s Close)
q_close now s = q_if (may_close s.phase) (finish now (begin (record s { closing = true }))) (begin s) (q_finish now (begin (record s { closing = true })) refl) refl

pub q_take : (now : ℕ) (s : State) → Quiet (step_at now s Take)
q_take now s = q_if (is_up s.phase && busy s) (emit false (rr (follow (record s { inbox = drop 1 s.inbox })) false) (begin (follow (record s { inbox = drop 1 s.inbox })))) (begin (record s { inbox = drop 1 s.inbox })) (q_rr false false (begin (follow (record s { inbox = drop 1 s.inbox }))) refl) refl
