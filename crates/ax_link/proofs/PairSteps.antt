-- pair_step, for the left end; pair_swap gives the right one.
use Rattle.std.proofs.Common.{◌≡◌, ℕ, suc, ◌≤◌, List, [], ◌∷◌, ◌++◌, length, Option, refl, sym, arith, true, false, Bool, subst, inl, inr, ◌⊎◌, append-nil, drop, if◌then◌else◌, ◌&&◌, nat_eq, nat_le}
use Rattle.ax_link.specs.Moves.{supply, fill, finish, emit, emit_timed, to_phase, note}
use Rattle.ax_link.specs.declared.kind.Kind.{Kind}
use Rattle.ax_link.specs.declared.kind.Kind.TheVariants.{I, Rr, Rnr, Rej, Srej, Disc, Dm, Ua, Frmr, SetUp, OtherSetUp, Xid, Other}
use Rattle.ax_link.specs.State.{State, Frame, Effect, begin, high, is_up}
use Rattle.ax_link.specs.Table.{Input, Send, Arrive, Tick, Close, Take, Set_up, step_at, arrive_in, arrive_up, come_up, arrive_setting_up, takes}
use Rattle.ax_link.specs.declared.notice.LinkNotice.TheVariants.{Failed}
use Rattle.ax_link.specs.declared.phase.LinkPhase.TheVariants.{Down, SettingUp, Up, Releasing}
use Rattle.ax_link.specs.declared.phase.LinkPhase.{LinkPhase}
use Rattle.radio_base.specs.declared.payload.Payload.{Payload}
use Rattle.ax_link.specs.Pair.{Both, Core, core, Way, opens, after_ua, counted, Joined, opens_count, SettingFine, PairSound, NoSetUp, NoSetUps, NoSetUpIn, Queue, InScope}
use Rattle.ax_link.proofs.Steps.{fine_fill, fine_finish, fine_supply, fine_other}
use Rattle.ax_link.specs.Pair.{NoRestart}
use Rattle.ax_link.proofs.Inputs.{fine_send, fine_begin}
use Rattle.ax_link.proofs.NoUa.{Quiet, q_fill, q_finish, q_up, q_tick, q_send, q_close, q_take}
use Rattle.ax_link.proofs.Pairs.{pair_up, pair_call, pair_arrive, pair_swap}

-- what step_at puts out where an end stays Up, without a UA with F
q_arrive : (now : ℕ) (l : State) (f : Frame) → l.phase ≡ Up → (step_at now l (Arrive f)).link.phase ≡ Up → NoRestart f.kind → Quiet (step_at now l (Arrive f))
q_arrive now l f u v k =
    let w : (arrive_up now f.command f.kind f.payload (begin (record l { last_arrival = now }))).link.phase ≡ Up = subst (λ ph. (arrive_in ph now f (begin (record l { last_arrival = now }))).link.phase ≡ Up) u v in
    subst (λ ph. Quiet (arrive_in ph now f (begin (record l { last_arrival = now })))) (sym u) (q_up now f.command f.kind f.payload (begin (record l { last_arrival = now })) k w refl)

-- set_up at an end that is Up does nothing
pub idle_set_up : (now : ℕ) (l : State) → l.phase ≡ Up → step_at now l Set_up ≡ begin l
idle_set_up now l u = subst (λ ph. step_at now (record l { phase = ph }) Set_up ≡ begin (record l { phase = ph })) (sym u) refl

abbrev pub NoArrival : Input → Type 0
NoArrival (Arrive f) = ⊥
NoArrival _ = Unit {0}

-- every call and tick of an end that is Up and stays Up
pub step_call : (now : ℕ) (l r : State) (i : Input) (tl tr : List Frame) → l.phase ≡ Up → (step_at now l i).link.phase ≡ Up → NoArrival i → PairSound l r tl tr → PairSound (step_at now l i).link r tl (tr ++ (step_at now l i).outs)
step_call now l r (Send x) tl tr u v k p = pair_call now l r (Send x) tl tr u v (q_send now x l) tt p
step_call now l r Close tl tr u v k p = pair_call now l r Close tl tr u v (q_close now l) tt p
step_call now l r Take tl tr u v k p = pair_call now l r Take tl tr u v (q_take now l) tt p
step_call now l r Tick tl tr u v k p = pair_call now l r Tick tl tr u v (q_tick now (begin l) refl) tt p
step_call now l r Set_up tl tr u v k p = subst (λ g. PairSound g.link r tl (tr ++ g.outs)) (sym (idle_set_up now l u)) (subst (PairSound l r tl) (sym (append-nil tr)) p)
step_call now l r (Arrive f) tl tr u v k p = absurd k

-- every arrival at an end that is Up and stays Up, but a set-up command and FRMR (which leaves Up)
pub step_arrive : (now : ℕ) (l r : State) (f : Frame) (tl tr : List Frame) → l.phase ≡ Up → (step_at now l (Arrive f)).link.phase ≡ Up → NoRestart f.kind → PairSound l r (f ∷ tl) tr → PairSound (step_at now l (Arrive f)).link r tl (tr ++ (step_at now l (Arrive f)).outs)
step_arrive now l r f tl tr u v k p = pair_arrive now l r f tl tr u v (q_arrive now l f u v k) k p

-- ---- an end that is SettingUp ----
-- it stays so, and counts nothing
setting_keep : (g : Effect) (r : State) (tl tr : List Frame) → g.link.phase ≡ SettingUp → r.phase ≡ Up → (g.link.acked ≡ 0) × (g.link.sent ≡ 0) × (high g.link ≡ 0) → opens_count tl ≤ 1 → Both (core g.link) (core r) (after_ua tl) (tr ++ g.outs) → PairSound g.link r tl (tr ++ g.outs)
setting_keep g r tl tr v w z o b = record {
  joined = subst (λ k. Joined k r.phase) (sym v) (subst (λ k. Joined SettingUp k) (sym w) tt);
  left_new = subst (λ k. SettingFine k g.link tl) (sym v) (z.0, z.1, z.2, o);
  right_new = subst (λ k. SettingFine k r (tr ++ g.outs)) (sym w) tt;
  rightward = subst (λ k. Way (core g.link) (core r) (counted r.phase (tr ++ g.outs)) (counted k tl)) (sym v) (subst (λ k. Way (core g.link) (core r) (counted k (tr ++ g.outs)) (after_ua tl)) (sym w) b.out);
  leftward = subst (λ k. Way (core r) (core g.link) (counted k tl) (counted r.phase (tr ++ g.outs))) (sym v) (subst (λ k. Way (core r) (core g.link) (after_ua tl) (counted k (tr ++ g.outs))) (sym w) b.back);
}

-- it has become Up
setting_opened : (g : Effect) (r : State) (tl tr : List Frame) → g.link.phase ≡ Up → r.phase ≡ Up → Both (core g.link) (core r) tl (tr ++ g.outs) → PairSound g.link r tl (tr ++ g.outs)
setting_opened g r tl tr v w b = record {
  joined = subst (λ k. Joined k r.phase) (sym v) (subst (λ k. Joined Up k) (sym w) tt);
  left_new = subst (λ k. SettingFine k g.link tl) (sym v) tt;
  right_new = subst (λ k. SettingFine k r (tr ++ g.outs)) (sym w) tt;
  rightward = subst (λ k. Way (core g.link) (core r) (counted r.phase (tr ++ g.outs)) (counted k tl)) (sym v) (subst (λ k. Way (core g.link) (core r) (counted k (tr ++ g.outs)) tl) (sym w) b.out);
  leftward = subst (λ k. Way (core r) (core g.link) (counted k tl) (counted r.phase (tr ++ g.outs))) (sym v) (subst (λ k. Way (core r) (core g.link) tl (counted k (tr ++ g.outs))) (sym w) b.back);
}

-- Fill and Finish lead from Up to Up or Releasing
finish_phase_by : (c : Bool) (g h : Effect) → g.link.phase ≡ Releasing → h.link.phase ≡ Up → ((if c then g else h).link.phase ≡ SettingUp) → ⊥
finish_phase_by true g h a b v = absurd (cc (a, v))
finish_phase_by false g h a b v = absurd (cc (b, v))

pub not_down : Down ≡ Up → ⊥
not_down e = absurd (cc e)

not_down_setting : Down ≡ SettingUp → ⊥
not_down_setting e = absurd (cc e)

-- what stays of a SettingUp end and its queue after an arrival that it doesn't heed
abbrev pub Stays : State → State → List Frame → List Frame → Type 0
Stays l r tl tr = ((l.acked ≡ 0) × (l.sent ≡ 0) × (high l ≡ 0)) × (opens_count tl ≤ 1) × Both (core l) (core r) (after_ua tl) tr

setting_idle : (g : Effect) (r : State) (tl tr : List Frame) → g.link.phase ≡ SettingUp → r.phase ≡ Up → g.outs ≡ [] → Stays g.link r tl tr → PairSound g.link r tl (tr ++ g.outs)
setting_idle g r tl tr v w e s = setting_keep g r tl tr v w s.0 s.1 (subst (λ k. Both (core g.link) (core r) (after_ua tl) (tr ++ k)) (sym e) (subst (Both (core g.link) (core r) (after_ua tl)) (sym (append-nil tr)) s.2))

-- a frame at an end that is SettingUp: l is the end, with its phase written out; stays is said of the rest of the queue where the frame doesn't open
setting_arrive : (now : ℕ) (command : Bool) (c : Kind) (p : Option Payload) (l r : State) (tl tr : List Frame) → r.phase ≡ Up → NoSetUp c →
    ((arrive_setting_up now c (begin (record l { phase = SettingUp }))).link.phase ≡ SettingUp) ⊎ ((arrive_setting_up now c (begin (record l { phase = SettingUp }))).link.phase ≡ Up) →
    (opens c ≡ false → Stays l r tl tr) → (opens c ≡ true → Both (core l) (core r) tl tr) →
    PairSound (arrive_setting_up now c (begin (record l { phase = SettingUp }))).link r tl (tr ++ (arrive_setting_up now c (begin (record l { phase = SettingUp }))).outs)
setting_arrive now command (Ua true) p l r tl tr w n (inl v) s o = absurd (finish_phase_by (is_up (fill now (come_up now (begin (record l { phase = SettingUp })))).link.phase && (fill now (come_up now (begin (record l { phase = SettingUp })))).link.closing && nat_eq (fill now (come_up now (begin (record l { phase = SettingUp })))).link.acked (length (fill now (come_up now (begin (record l { phase = SettingUp })))).link.given)) (emit_timed now true (Disc true) (to_phase now Releasing (record (fill now (come_up now (begin (record l { phase = SettingUp })))) { link = record (fill now (come_up now (begin (record l { phase = SettingUp })))).link { tries = 0 } }))) (fill now (come_up now (begin (record l { phase = SettingUp })))) refl refl v)
setting_arrive now command (Ua true) p l r tl tr w n (inr v) s o =
    setting_opened (supply now (come_up now (begin (record l { phase = SettingUp })))) r tl tr v w
    (fine_supply now (come_up now (begin (record l { phase = SettingUp }))) (core r) tl tr (fine_begin l (core r) tl tr (o refl)))
setting_arrive now command (Ua false) p l r tl tr w n v s o = setting_idle (begin (record l { phase = SettingUp })) r tl tr refl w refl (s refl)
setting_arrive now command (Dm true) p l r tl tr w n (inl v) s o = absurd (not_down_setting v)
setting_arrive now command (Dm true) p l r tl tr w n (inr v) s o = absurd (not_down v)
setting_arrive now command (Dm false) p l r tl tr w n v s o = setting_idle (begin (record l { phase = SettingUp })) r tl tr refl w refl (s refl)
setting_arrive now command (SetUp pf) p l r tl tr w n v s o = absurd n
setting_arrive now command (Disc pf) p l r tl tr w n v s o =
    let k = s refl in
    setting_keep (emit false (Dm pf) (begin (record l { phase = SettingUp }))) r tl tr refl w k.0 k.1
    (fine_other false (Dm pf) (begin l) (core r) (after_ua tl) tr refl refl (fine_begin l (core r) (after_ua tl) tr k.2))
setting_arrive now command (I ns nr pf) p l r tl tr w n v s o = setting_idle (begin (record l { phase = SettingUp })) r tl tr refl w refl (s refl)
setting_arrive now command (Rr nr pf) p l r tl tr w n v s o = setting_idle (begin (record l { phase = SettingUp })) r tl tr refl w refl (s refl)
setting_arrive now command (Rnr nr pf) p l r tl tr w n v s o = setting_idle (begin (record l { phase = SettingUp })) r tl tr refl w refl (s refl)
setting_arrive now command (Rej nr pf) p l r tl tr w n v s o = setting_idle (begin (record l { phase = SettingUp })) r tl tr refl w refl (s refl)
setting_arrive now command (Srej nr pf) p l r tl tr w n v s o = setting_idle (begin (record l { phase = SettingUp })) r tl tr refl w refl (s refl)
setting_arrive now command (OtherSetUp pf) p l r tl tr w n v s o = setting_idle (begin (record l { phase = SettingUp })) r tl tr refl w refl (s refl)
setting_arrive now command (Frmr pf) p l r tl tr w n v s o = setting_idle (begin (record l { phase = SettingUp })) r tl tr refl w refl (s refl)
setting_arrive now command (Xid pf) p l r tl tr w n v s o = setting_idle (begin (record l { phase = SettingUp })) r tl tr refl w refl (s refl)
setting_arrive now command Other p l r tl tr w n v s o = setting_idle (begin (record l { phase = SettingUp })) r tl tr refl w refl (s refl)

-- ---- the law ----
setting_not_up : SettingUp ≡ Up → ⊥
setting_not_up e = absurd (cc e)

pub keeps_of : (now : ℕ) (command : Bool) (c : Kind) (p : Option Payload) (g : Effect) → NoSetUp c → (arrive_up now command c p g).link.phase ≡ Up → NoRestart c
keeps_of now command (SetUp pf) p g n v = absurd n
keeps_of now command (Frmr pf) p g n v = absurd (setting_not_up v)
keeps_of now command (I ns nr pf) p g n v = tt
keeps_of now command (Rr nr pf) p g n v = tt
keeps_of now command (Rnr nr pf) p g n v = tt
keeps_of now command (Rej nr pf) p g n v = tt
keeps_of now command (Srej nr pf) p g n v = tt
keeps_of now command (OtherSetUp pf) p g n v = tt
keeps_of now command (Disc pf) p g n v = tt
keeps_of now command (Dm pf) p g n v = tt
keeps_of now command (Ua pf) p g n v = tt
keeps_of now command (Xid pf) p g n v = tt
keeps_of now command Other p g n v = tt

other_up_in : (ph : LinkPhase) → Joined SettingUp ph → ph ≡ Up
other_up_in Up j = refl
other_up_in Down j = absurd j
other_up_in SettingUp j = absurd j
other_up_in Releasing j = absurd j

other_up : (r : State) → Joined SettingUp r.phase → r.phase ≡ Up
other_up r j = other_up_in r.phase j

pub setting_send_by : (c : Bool) (now : ℕ) (x : Payload) (l : State) → (l.acked ≡ 0) × (l.sent ≡ 0) × (high l ≡ 0) →
    ((if c then fill now (begin (record l { phase = SettingUp; given = l.given ++ x ∷ [] })) else begin (record l { phase = SettingUp })).link.phase ≡ SettingUp) ×
    ((if c then fill now (begin (record l { phase = SettingUp; given = l.given ++ x ∷ [] })) else begin (record l { phase = SettingUp })).link.acked ≡ 0) ×
    ((if c then fill now (begin (record l { phase = SettingUp; given = l.given ++ x ∷ [] })) else begin (record l { phase = SettingUp })).link.sent ≡ 0) ×
    (high (if c then fill now (begin (record l { phase = SettingUp; given = l.given ++ x ∷ [] })) else begin (record l { phase = SettingUp })).link ≡ 0)
setting_send_by true now x l z = (refl, z.0, omega (arith, z.1), z.2)
setting_send_by false now x l z = (refl, z.0, z.1, z.2)

setting_tick_by : (c d : Bool) (now : ℕ) (l r : State) (tl tr : List Frame) → r.phase ≡ Up → Stays l r tl tr →
    NoSetUps (if c then (if d then note Failed (to_phase now Down (begin (record l { phase = SettingUp }))) else emit_timed now true (SetUp true) (begin (record l { phase = SettingUp; tries = suc l.tries }))) else begin (record l { phase = SettingUp })).outs →
    ((if c then (if d then note Failed (to_phase now Down (begin (record l { phase = SettingUp }))) else emit_timed now true (SetUp true) (begin (record l { phase = SettingUp; tries = suc l.tries }))) else begin (record l { phase = SettingUp })).link.phase ≡ SettingUp) ⊎ ((if c then (if d then note Failed (to_phase now Down (begin (record l { phase = SettingUp }))) else emit_timed now true (SetUp true) (begin (record l { phase = SettingUp; tries = suc l.tries }))) else begin (record l { phase = SettingUp })).link.phase ≡ Up) →
    PairSound (if c then (if d then note Failed (to_phase now Down (begin (record l { phase = SettingUp }))) else emit_timed now true (SetUp true) (begin (record l { phase = SettingUp; tries = suc l.tries }))) else begin (record l { phase = SettingUp })).link r tl (tr ++ (if c then (if d then note Failed (to_phase now Down (begin (record l { phase = SettingUp }))) else emit_timed now true (SetUp true) (begin (record l { phase = SettingUp; tries = suc l.tries }))) else begin (record l { phase = SettingUp })).outs)
setting_tick_by true true now l r tl tr w s n (inl v) = absurd (not_down_setting v)
setting_tick_by true true now l r tl tr w s n (inr v) = absurd (not_down v)
setting_tick_by true false now l r tl tr w s n v = absurd n.0
setting_tick_by false d now l r tl tr w s n v = setting_idle (begin (record l { phase = SettingUp })) r tl tr refl w refl s

-- a call or a tick of an end that is SettingUp
setting_call : (now : ℕ) (i : Input) (l r : State) (tl tr : List Frame) → r.phase ≡ Up → NoArrival i → Stays l r tl tr → NoSetUps (step_at now (record l { phase = SettingUp }) i).outs →
    ((step_at now (record l { phase = SettingUp }) i).link.phase ≡ SettingUp) ⊎ ((step_at now (record l { phase = SettingUp }) i).link.phase ≡ Up) →
    PairSound (step_at now (record l { phase = SettingUp }) i).link r tl (tr ++ (step_at now (record l { phase = SettingUp }) i).outs)
setting_call now (Send x) l r tl tr w k s n v =
    let f = setting_send_by (takes (record l { phase = SettingUp })) now x l s.0 in
    setting_keep (step_at now (record l { phase = SettingUp }) (Send x)) r tl tr f.0 w (f.1, f.2, f.3) s.1 (fine_send now x (record l { phase = SettingUp }) (core r) (after_ua tl) tr s.2)
setting_call now Close l r tl tr w k s n v = setting_idle (begin (record l { phase = SettingUp; closing = true })) r tl tr refl w refl s
setting_call now Take l r tl tr w k s n v = setting_idle (begin (record l { phase = SettingUp; inbox = drop 1 l.inbox })) r tl tr refl w refl s
setting_call now Set_up l r tl tr w k s n v = setting_idle (begin (record l { phase = SettingUp })) r tl tr refl w refl s
setting_call now Tick l r tl tr w k s n v = setting_tick_by (nat_le l.t1_at now) (nat_eq l.tries l.rules.retries) now l r tl tr w s n v
setting_call now (Arrive f) l r tl tr w k s n v = absurd k

-- what the pair says of an end that is SettingUp, and of its queue behind the first frame
open_new : (c : Bool) (n : ℕ) → c ≡ false → (if c then suc n else n) ≤ 1 → n ≤ 1
open_new true n e l = absurd (cc e)
open_new false n e l = l

stays_rest_by : (c : Bool) (a b : Core) (tl tr : List Frame) → c ≡ false → Both a b (if c then tl else after_ua tl) tr → Both a b (after_ua tl) tr
stays_rest_by true a b tl tr e w = absurd (cc e)
stays_rest_by false a b tl tr e w = w

opens_rest_by : (c : Bool) (a b : Core) (tl tr : List Frame) → c ≡ true → Both a b (if c then tl else after_ua tl) tr → Both a b tl tr
opens_rest_by true a b tl tr e w = w
opens_rest_by false a b tl tr e w = absurd (cc e)

pub setting_pair : (l r : State) (tl tr : List Frame) → l.phase ≡ SettingUp → PairSound l r tl tr → (r.phase ≡ Up) × ((l.acked ≡ 0) × (l.sent ≡ 0) × (high l ≡ 0)) × (opens_count tl ≤ 1) × Both (core l) (core r) (after_ua tl) tr
setting_pair l r tl tr u p =
    let w : r.phase ≡ Up = other_up r (subst (λ k. Joined k r.phase) u p.joined) in
    let n : SettingFine SettingUp l tl = subst (λ k. SettingFine k l tl) u p.left_new in
    let b : Both (core l) (core r) (counted l.phase tl) (counted r.phase tr) = record { out = p.rightward; back = p.leftward } in
    (w, (n.0, n.1, n.2), n.3, subst (λ k. Both (core l) (core r) (after_ua tl) (counted k tr)) w (subst (λ k. Both (core l) (core r) (counted k tl) (counted r.phase tr)) u b))

-- l with its phase written out
step_setting : (now : ℕ) (l r : State) (i : Input) (tl tl2 tr : List Frame) → l.phase ≡ SettingUp → Queue i tl tl2 → NoSetUpIn i → NoSetUps (step_at now (record l { phase = SettingUp }) i).outs →
    ((step_at now (record l { phase = SettingUp }) i).link.phase ≡ SettingUp) ⊎ ((step_at now (record l { phase = SettingUp }) i).link.phase ≡ Up) → PairSound l r tl tr →
    PairSound (step_at now (record l { phase = SettingUp }) i).link r tl2 (tr ++ (step_at now (record l { phase = SettingUp }) i).outs)
step_setting now l r (Arrive f) tl tl2 tr u e n o v p =
    let q = setting_pair l r (f ∷ tl2) tr u (subst (λ k. PairSound l r k tr) e p) in
    setting_arrive now f.command f.kind f.payload (record l { last_arrival = now }) r tl2 tr q.0 n v
    (λ k. (q.1, open_new (opens f.kind) (opens_count tl2) k q.2, stays_rest_by (opens f.kind) (core l) (core r) tl2 tr k q.3))
    (λ k. opens_rest_by (opens f.kind) (core l) (core r) tl2 tr k q.3)
step_setting now l r (Send x) tl tl2 tr u e n o v p = let q = setting_pair l r tl2 tr u (subst (λ k. PairSound l r k tr) e p) in setting_call now (Send x) l r tl2 tr q.0 tt (q.1, q.2, q.3) o v
step_setting now l r Close tl tl2 tr u e n o v p = let q = setting_pair l r tl2 tr u (subst (λ k. PairSound l r k tr) e p) in setting_call now Close l r tl2 tr q.0 tt (q.1, q.2, q.3) o v
step_setting now l r Take tl tl2 tr u e n o v p = let q = setting_pair l r tl2 tr u (subst (λ k. PairSound l r k tr) e p) in setting_call now Take l r tl2 tr q.0 tt (q.1, q.2, q.3) o v
step_setting now l r Tick tl tl2 tr u e n o v p = let q = setting_pair l r tl2 tr u (subst (λ k. PairSound l r k tr) e p) in setting_call now Tick l r tl2 tr q.0 tt (q.1, q.2, q.3) o v
step_setting now l r Set_up tl tl2 tr u e n o v p = let q = setting_pair l r tl2 tr u (subst (λ k. PairSound l r k tr) e p) in setting_call now Set_up l r tl2 tr q.0 tt (q.1, q.2, q.3) o v

step_up : (now : ℕ) (l r : State) (i : Input) (tl tl2 tr : List Frame) → l.phase ≡ Up → Queue i tl tl2 → NoSetUpIn i → (step_at now l i).link.phase ≡ Up → PairSound l r tl tr → PairSound (step_at now l i).link r tl2 (tr ++ (step_at now l i).outs)
step_up now l r (Arrive f) tl tl2 tr u e n v p =
    step_arrive now l r f tl2 tr u v (keeps_of now f.command f.kind f.payload (begin (record l { last_arrival = now })) n (subst (λ ph. (arrive_in ph now f (begin (record l { last_arrival = now }))).link.phase ≡ Up) u v)) (subst (λ k. PairSound l r k tr) e p)
step_up now l r (Send x) tl tl2 tr u e n v p = step_call now l r (Send x) tl2 tr u v tt (subst (λ k. PairSound l r k tr) e p)
step_up now l r Close tl tl2 tr u e n v p = step_call now l r Close tl2 tr u v tt (subst (λ k. PairSound l r k tr) e p)
step_up now l r Take tl tl2 tr u e n v p = step_call now l r Take tl2 tr u v tt (subst (λ k. PairSound l r k tr) e p)
step_up now l r Tick tl tl2 tr u e n v p = step_call now l r Tick tl2 tr u v tt (subst (λ k. PairSound l r k tr) e p)
step_up now l r Set_up tl tl2 tr u e n v p = step_call now l r Set_up tl2 tr u v tt (subst (λ k. PairSound l r k tr) e p)

pub joined_down : (ph : LinkPhase) → Joined Down ph → ⊥
joined_down ph j = j

pub joined_releasing : (ph : LinkPhase) → Joined Releasing ph → ⊥
joined_releasing ph j = j

step_in : (ph : LinkPhase) (now : ℕ) (l r : State) (i : Input) (tl tl2 tr : List Frame) → l.phase ≡ ph → Queue i tl tl2 → InScope l i (step_at now l i) → PairSound l r tl tr → PairSound (step_at now l i).link r tl2 (tr ++ (step_at now l i).outs)
step_in Up now l r i tl tl2 tr u e s p = step_up now l r i tl tl2 tr u e s.comes (s.up u) p
step_in SettingUp now l r i tl tl2 tr u e s p =
    subst (λ ph. NoSetUps (step_at now (record l { phase = ph }) i).outs → (((step_at now (record l { phase = ph }) i).link.phase ≡ SettingUp) ⊎ ((step_at now (record l { phase = ph }) i).link.phase ≡ Up)) → PairSound (step_at now (record l { phase = ph }) i).link r tl2 (tr ++ (step_at now (record l { phase = ph }) i).outs)) (sym u)
    (λ o v. step_setting now l r i tl tl2 tr u e s.comes o v p) s.put_out (s.setting u)
step_in Down now l r i tl tl2 tr u e s p = absurd (joined_down r.phase (subst (λ k. Joined k r.phase) u p.joined))
step_in Releasing now l r i tl tl2 tr u e s p = absurd (joined_releasing r.phase (subst (λ k. Joined k r.phase) u p.joined))

-- a call, a tick or the arrival of the oldest frame at the left end
pub pair_step_left : (now : ℕ) (l r : State) (i : Input) (tl tl2 tr : List Frame) → Queue i tl tl2 → InScope l i (step_at now l i) → PairSound l r tl tr → PairSound (step_at now l i).link r tl2 (tr ++ (step_at now l i).outs)
pair_step_left now l r i tl tl2 tr e s p = step_in l.phase now l r i tl tl2 tr refl e s p

-- and at the right end
pub pair_step_right : (now : ℕ) (l r : State) (i : Input) (tl tr tr2 : List Frame) → Queue i tr tr2 → InScope r i (step_at now r i) → PairSound l r tl tr → PairSound l (step_at now r i).link (tl ++ (step_at now r i).outs) tr2
pair_step_right now l r i tl tr tr2 e s p = pair_swap (step_at now r i).link l tr2 (tl ++ (step_at now r i).outs) (pair_step_left now r l i tr tr2 tl e s (pair_swap l r tl tr p))

-- ---- Fill by itself, Finish by itself ----
fill_in : (ph : LinkPhase) (now : ℕ) (l r : State) (tl tr : List Frame) → l.phase ≡ ph → PairSound l r tl tr → PairSound (fill now (begin l)).link r tl (tr ++ (fill now (begin l)).outs)
fill_in Up now l r tl tr u p = pair_up l r (fill now (begin l)) tl tl tr u u (q_fill now (begin l) refl) p (λ b. fine_fill now (begin l) (core r) tl (counted r.phase tr) (fine_begin l (core r) tl (counted r.phase tr) b))
fill_in SettingUp now l r tl tr u p =
    let q = setting_pair l r tl tr u p in
    subst (λ ph. PairSound (fill now (begin (record l { phase = ph }))).link r tl (tr ++ (fill now (begin (record l { phase = ph }))).outs)) (sym u)
    (setting_keep (fill now (begin (record l { phase = SettingUp }))) r tl tr refl q.0 (q.1.0, omega (arith, q.1.1), q.1.2) q.2 (fine_fill now (begin (record l { phase = SettingUp })) (core r) (after_ua tl) tr (fine_begin (record l { phase = SettingUp }) (core r) (after_ua tl) tr q.3)))
fill_in Down now l r tl tr u p = absurd (joined_down r.phase (subst (λ k. Joined k r.phase) u p.joined))
fill_in Releasing now l r tl tr u p = absurd (joined_releasing r.phase (subst (λ k. Joined k r.phase) u p.joined))

pub pair_fill : (now : ℕ) (l r : State) (tl tr : List Frame) → PairSound l r tl tr → PairSound (fill now (begin l)).link r tl (tr ++ (fill now (begin l)).outs)
pair_fill now l r tl tr p = fill_in l.phase now l r tl tr refl p

finish_in : (ph : LinkPhase) (now : ℕ) (l r : State) (tl tr : List Frame) → l.phase ≡ ph → (l.phase ≡ Up → (finish now (begin l)).link.phase ≡ Up) → PairSound l r tl tr → PairSound (finish now (begin l)).link r tl (tr ++ (finish now (begin l)).outs)
finish_in Up now l r tl tr u v p = pair_up l r (finish now (begin l)) tl tl tr u (v u) (q_finish now (begin l) refl) p (λ b. fine_finish now (begin l) (core r) tl (counted r.phase tr) (fine_begin l (core r) tl (counted r.phase tr) b))
finish_in SettingUp now l r tl tr u v p =
    let q = setting_pair l r tl tr u p in
    subst (λ ph. PairSound (finish now (begin (record l { phase = ph }))).link r tl (tr ++ (finish now (begin (record l { phase = ph }))).outs)) (sym u)
    (setting_idle (begin (record l { phase = SettingUp })) r tl tr refl q.0 refl (q.1, q.2, q.3))
finish_in Down now l r tl tr u v p = absurd (joined_down r.phase (subst (λ k. Joined k r.phase) u p.joined))
finish_in Releasing now l r tl tr u v p = absurd (joined_releasing r.phase (subst (λ k. Joined k r.phase) u p.joined))

pub pair_finish : (now : ℕ) (l r : State) (tl tr : List Frame) → (l.phase ≡ Up → (finish now (begin l)).link.phase ≡ Up) → PairSound l r tl tr → PairSound (finish now (begin l)).link r tl (tr ++ (finish now (begin l)).outs)
pair_finish now l r tl tr v p = finish_in l.phase now l r tl tr refl v p
