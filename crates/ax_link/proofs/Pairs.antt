-- A step of one end keeps the pair sound.
use Rattle.std.proofs.Common.{◌≡◌, ℕ, suc, ◌+◌, ◌≤◌, List, [], ◌∷◌, ◌++◌, length, Option, Some, None, refl, ap, sym, arith, max, true, false, Bool, subst, if◌then◌else◌}
use Rattle.std.proofs.lemmas.Bool.Decides.{nat_tests}
use mathlib.Core.List.{IsPrefix}
use Rattle.ax_link.specs.State.{State, Frame, Effect, begin, high, top}
use Rattle.ax_link.specs.Table.{Input, Send, Arrive, Tick, Close, Take, Set_up, step_at, arrive_in}
use Rattle.ax_link.specs.declared.phase.LinkPhase.TheVariants.{Down, SettingUp, Up, Releasing}
use Rattle.ax_link.specs.declared.phase.LinkPhase.{LinkPhase}
use Rattle.radio_base.specs.declared.payload.Payload.{Payload}
use Rattle.ax_link.specs.Pair.{NoRestart, Both, Core, core, reach, AcksFine, TextsFine, EarlyFine, texts_of, acks_of, Way, Fits, opens, after_ua, counted, Joined, opens_count, SettingFine, PairSound, IsNew}
use Rattle.ax_link.proofs.Ways.{texts_reach, texts_under, acks_low, acks_under}
use Rattle.ax_link.proofs.Steps.{Fine, way_texts, way_acks, texts_append, acks_append, way_order}
use Rattle.ax_link.proofs.PairArrivals.{fine_up}
use Rattle.ax_link.proofs.Inputs.{fine_send, fine_close, fine_take, fine_tick, fine_begin}

-- frames at the end may be taken away
texts_front : {A : Type 0} (given : List A) (size window sent : ℕ) (ts us : List (ℕ × A)) (reach : ℕ) → TextsFine given size window sent (ts ++ us) reach → TextsFine given size window sent ts reach
texts_front given size window sent [] us reach p = texts_reach given size window sent us reach p
texts_front given size window sent (t ∷ ts) us reach p = (p.0, p.1, p.2, p.3, texts_front given size window sent ts us (max reach (suc p.0)) p.4)

acks_front : (size got : ℕ) (rs ss : List ℕ) (low : ℕ) → AcksFine size got (rs ++ ss) low → AcksFine size got rs low
acks_front size got [] ss low p = acks_low size got ss low p
acks_front size got (r ∷ rs) ss low p = (p.0, p.1, p.2, acks_front size got rs ss p.0 p.3)

-- and at the front
texts_back : {A : Type 0} (given : List A) (size window sent : ℕ) (ts us : List (ℕ × A)) (reach : ℕ) → TextsFine given size window sent (ts ++ us) reach → TextsFine given size window sent us reach
texts_back given size window sent [] us reach p = p
texts_back given size window sent (t ∷ ts) us reach p = texts_back given size window sent ts us reach (texts_under given size window sent (ts ++ us) (max reach (suc p.0)) reach (omega arith) p.4)

acks_back : (size got : ℕ) (rs ss : List ℕ) (low : ℕ) → AcksFine size got (rs ++ ss) low → AcksFine size got ss low
acks_back size got [] ss low p = p
acks_back size got (r ∷ rs) ss low p = acks_back size got rs ss low (acks_under size got (rs ++ ss) p.0 low p.2 p.3)

pub both_front : (me other : Core) (to_me xs ys : List Frame) → Both me other to_me (xs ++ ys) → Both me other to_me xs
both_front me other to_me xs ys b = record {
  out = way_texts me other (xs ++ ys) to_me xs b.out (texts_front me.given me.rules.size me.rules.window me.sent (texts_of xs) (texts_of ys) (reach other) (subst (λ k. TextsFine me.given me.rules.size me.rules.window me.sent k (reach other)) (texts_append xs ys) b.out.texts));
  back = way_acks other me to_me (xs ++ ys) xs b.back (acks_front other.rules.size (length me.received) (acks_of xs) (acks_of ys) other.acked (subst (λ k. AcksFine other.rules.size (length me.received) k other.acked) (acks_append xs ys) b.back.acks));
}

pub both_back : (me other : Core) (to_me xs ys : List Frame) → Both me other to_me (xs ++ ys) → Both me other to_me ys
both_back me other to_me xs ys b = record {
  out = way_texts me other (xs ++ ys) to_me ys b.out (texts_back me.given me.rules.size me.rules.window me.sent (texts_of xs) (texts_of ys) (reach other) (subst (λ k. TextsFine me.given me.rules.size me.rules.window me.sent k (reach other)) (texts_append xs ys) b.out.texts));
  back = way_acks other me to_me (xs ++ ys) ys b.back (acks_back other.rules.size (length me.received) (acks_of xs) (acks_of ys) other.acked (subst (λ k. AcksFine other.rules.size (length me.received) k other.acked) (acks_append xs ys) b.back.acks));
}

pub both_swap : (a b : Core) (x y : List Frame) → Both a b x y → Both b a y x
both_swap a b x y w = record { out = w.back; back = w.out }

-- without a UA with F nothing is of account
after_none_by : (c : Bool) (fs : List Frame) → (if c then suc (opens_count fs) else opens_count fs) ≡ 0 → (opens_count fs ≡ 0 → after_ua fs ≡ []) → (if c then fs else after_ua fs) ≡ []
after_none_by true fs e ih = absurd (omega (arith, e))
after_none_by false fs e ih = ih e

after_none : (fs : List Frame) → opens_count fs ≡ 0 → after_ua fs ≡ []
after_none [] e = refl
after_none (f ∷ fs) e = after_none_by (opens f.kind) fs e (λ h. after_none fs h)

-- more frames without a UA: they are of account where a UA with F is before them
both_more_by : (c : Bool) (me other : Core) (to_me fs outs : List Frame) → (Both me other to_me (after_ua fs ++ outs) → Both me other to_me (after_ua (fs ++ outs))) → Both me other to_me ((if c then fs else after_ua fs) ++ outs) → Both me other to_me (if c then fs ++ outs else after_ua (fs ++ outs))
both_more_by true me other to_me fs outs ih b = b
both_more_by false me other to_me fs outs ih b = ih b

pub both_more : (me other : Core) (to_me fs outs : List Frame) → opens_count outs ≡ 0 → Both me other to_me (after_ua fs ++ outs) → Both me other to_me (after_ua (fs ++ outs))
both_more me other to_me [] outs e b = subst (Both me other to_me) (sym (after_none outs e)) (both_front me other to_me [] outs b)
both_more me other to_me (f ∷ fs) outs e b = both_more_by (opens f.kind) me other to_me fs outs (λ k. both_more me other to_me fs outs e k) b

both_counted : (ph : LinkPhase) (me other : Core) (to_me fs outs : List Frame) → opens_count outs ≡ 0 → Both me other to_me (counted ph fs ++ outs) → Both me other to_me (counted ph (fs ++ outs))
both_counted Down me other to_me fs outs e b = b
both_counted SettingUp me other to_me fs outs e b = both_more me other to_me fs outs e b
both_counted Up me other to_me fs outs e b = b
both_counted Releasing me other to_me fs outs e b = b

count_more_by : (c : Bool) (a b n : ℕ) → a ≡ b + n → (if c then suc a else a) ≡ (if c then suc b else b) + n
count_more_by true a b n e = omega (arith, e)
count_more_by false a b n e = e

count_more : (fs outs : List Frame) → opens_count (fs ++ outs) ≡ opens_count fs + opens_count outs
count_more [] outs = omega arith
count_more (f ∷ fs) outs = count_more_by (opens f.kind) (opens_count (fs ++ outs)) (opens_count fs) (opens_count outs) (count_more fs outs)

setting_more : (ph : LinkPhase) (s : State) (fs outs : List Frame) → opens_count outs ≡ 0 → SettingFine ph s fs → SettingFine ph s (fs ++ outs)
setting_more Down s fs outs e p = tt
setting_more SettingUp s fs outs e p = (p.0, p.1, p.2, omega (arith, count_more fs outs, e, p.3))
setting_more Up s fs outs e p = tt
setting_more Releasing s fs outs e p = tt

joined_up : (ph ph2 : LinkPhase) → Joined Up ph → ph2 ≡ Up → Joined ph2 ph
joined_up ph ph2 j e = subst (λ k. Joined k ph) (sym e) j

setting_up : (ph : LinkPhase) (s : State) (fs : List Frame) → ph ≡ Up → SettingFine ph s fs
setting_up ph s fs e = subst (λ k. SettingFine k s fs) (sym e) tt

up_counted : (ph : LinkPhase) (fs : List Frame) → ph ≡ Up → counted ph fs ≡ fs
up_counted ph fs e = ap (λ k. counted k fs) e

-- the left end was Up and is Up: from what the step gives
pub pair_up : (l r : State) (g : Effect) (tl tl2 tr : List Frame) → l.phase ≡ Up → g.link.phase ≡ Up → opens_count g.outs ≡ 0 →
    PairSound l r tl tr → (Both (core l) (core r) tl (counted r.phase tr) → Fine g (core r) tl2 (counted r.phase tr)) → PairSound g.link r tl2 (tr ++ g.outs)
pair_up l r g tl tl2 tr u v q p step =
    let before : Both (core l) (core r) tl (counted r.phase tr) = subst (λ k. Both (core l) (core r) k (counted r.phase tr)) (up_counted l.phase tl u) (record { out = p.rightward; back = p.leftward }) in
    let after : Both (core g.link) (core r) tl2 (counted r.phase (tr ++ g.outs)) = both_counted r.phase (core g.link) (core r) tl2 tr g.outs q (step before) in
    let done : Both (core g.link) (core r) (counted g.link.phase tl2) (counted r.phase (tr ++ g.outs)) = subst (λ k. Both (core g.link) (core r) k (counted r.phase (tr ++ g.outs))) (sym (up_counted g.link.phase tl2 v)) after in
    record {
      joined = joined_up r.phase g.link.phase (subst (λ k. Joined k r.phase) u p.joined) v;
      left_new = setting_up g.link.phase g.link tl2 v;
      right_new = setting_more r.phase r tr g.outs q p.right_new;
      rightward = done.out;
      leftward = done.back;
    }

-- neither set_up, which does nothing in Up, nor an arrival
abbrev pub IsCall : Input → Type 0
IsCall Set_up = ⊥
IsCall (Arrive f) = ⊥
IsCall _ = Unit {0}

-- a call or a tick of an end that is Up and stays Up
pub pair_call : (now : ℕ) (l r : State) (i : Input) (tl tr : List Frame) → l.phase ≡ Up → (step_at now l i).link.phase ≡ Up → opens_count (step_at now l i).outs ≡ 0 → IsCall i → PairSound l r tl tr → PairSound (step_at now l i).link r tl (tr ++ (step_at now l i).outs)
pair_call now l r (Send x) tl tr u v q c p = pair_up l r (step_at now l (Send x)) tl tl tr u v q p (λ b. fine_send now x l (core r) tl (counted r.phase tr) b)
pair_call now l r Close tl tr u v q c p = pair_up l r (step_at now l Close) tl tl tr u v q p (λ b. fine_close now l (core r) tl (counted r.phase tr) b)
pair_call now l r Take tl tr u v q c p = pair_up l r (step_at now l Take) tl tl tr u v q p (λ b. fine_take now l (core r) tl (counted r.phase tr) b)
pair_call now l r Tick tl tr u v q c p = pair_up l r (step_at now l Tick) tl tl tr u v q p (λ b. fine_tick now (begin l) (core r) tl (counted r.phase tr) (fine_begin l (core r) tl (counted r.phase tr) b))
pair_call now l r Set_up tl tr u v q c p = absurd c
pair_call now l r (Arrive f) tl tr u v q c p = absurd c

-- the oldest frame arrives at an end that is Up and stays Up
pub pair_arrive : (now : ℕ) (l r : State) (f : Frame) (tl tr : List Frame) → l.phase ≡ Up → (step_at now l (Arrive f)).link.phase ≡ Up → opens_count (step_at now l (Arrive f)).outs ≡ 0 → NoRestart f.kind → PairSound l r (f ∷ tl) tr → PairSound (step_at now l (Arrive f)).link r tl (tr ++ (step_at now l (Arrive f)).outs)
pair_arrive now l r f tl tr u v q c p = pair_up l r (step_at now l (Arrive f)) (f ∷ tl) tl tr u v q p
    (λ b. subst (λ ph. Fine (arrive_in ph now f (begin (record l { last_arrival = now }))) (core r) tl (counted r.phase tr)) (sym u)
    (fine_up now f.command f.kind f.payload (begin (record l { last_arrival = now })) (core r) tl (counted r.phase tr) c (fine_begin l (core r) (f ∷ tl) (counted r.phase tr) b)))

pub both_lost_first : (me other : Core) (f : Frame) (to_me to_other : List Frame) → Both me other (f ∷ to_me) to_other → Both me other to_me to_other
both_lost_first me other f to_me to_other b = both_swap other me to_other to_me (both_back other me to_other (f ∷ []) to_me (both_swap me other (f ∷ to_me) to_other b))

-- what is behind a UA is an end of the list
after_ua_by : (c : Bool) (f : Frame) (fs : List Frame) → (pre : List Frame) × (pre ++ after_ua fs ≡ fs) → (pre : List Frame) × (pre ++ (if c then fs else after_ua fs) ≡ f ∷ fs)
after_ua_by true f fs ih = (f ∷ [], refl)
after_ua_by false f fs ih = (f ∷ ih.0, ap (λ k. f ∷ k) ih.1)

after_ua_end : (fs : List Frame) → (pre : List Frame) × (pre ++ after_ua fs ≡ fs)
after_ua_end [] = ([], refl)
after_ua_end (f ∷ fs) = after_ua_by (opens f.kind) f fs (after_ua_end fs)

lost_by : (c : Bool) (me other : Core) (to_me to_other : List Frame) → Both me other (if c then to_me else after_ua to_me) to_other → Both me other (after_ua to_me) to_other
lost_by true me other to_me to_other b =
    let e = after_ua_end to_me in
    both_swap other me to_other (after_ua to_me) (both_back other me to_other e.0 (after_ua to_me) (both_swap me other (e.0 ++ after_ua to_me) to_other (subst (λ k. Both me other k to_other) (sym e.1) b)))
lost_by false me other to_me to_other b = b

-- the oldest frame is lost
lost_counted : (ph : LinkPhase) (me other : Core) (f : Frame) (to_me to_other : List Frame) → Both me other (counted ph (f ∷ to_me)) to_other → Both me other (counted ph to_me) to_other
lost_counted Down me other f to_me to_other b = both_lost_first me other f to_me to_other b
lost_counted SettingUp me other f to_me to_other b = lost_by (opens f.kind) me other to_me to_other b
lost_counted Up me other f to_me to_other b = both_lost_first me other f to_me to_other b
lost_counted Releasing me other f to_me to_other b = both_lost_first me other f to_me to_other b

setting_less_by : (c : Bool) (n : ℕ) → (if c then suc n else n) ≤ 1 → n ≤ 1
setting_less_by true n l = omega (arith, l)
setting_less_by false n l = l

setting_less : (ph : LinkPhase) (s : State) (f : Frame) (fs : List Frame) → SettingFine ph s (f ∷ fs) → SettingFine ph s fs
setting_less Down s f fs p = tt
setting_less SettingUp s f fs p = (p.0, p.1, p.2, setting_less_by (opens f.kind) (opens_count fs) p.3)
setting_less Up s f fs p = tt
setting_less Releasing s f fs p = tt

pub pair_lost : (l r : State) (f : Frame) (tl tr : List Frame) → PairSound l r (f ∷ tl) tr → PairSound l r tl tr
pair_lost l r f tl tr p =
    let b = lost_counted l.phase (core l) (core r) f tl (counted r.phase tr) (record { out = p.rightward; back = p.leftward }) in
    record { joined = p.joined; left_new = setting_less l.phase l f tl p.left_new; right_new = p.right_new; rightward = b.out; leftward = b.back }

joined_swap : (a b : LinkPhase) → Joined a b → Joined b a
joined_swap Up Up j = tt
joined_swap Up SettingUp j = tt
joined_swap SettingUp Up j = tt
joined_swap Down b j = absurd j
joined_swap Releasing b j = absurd j
joined_swap SettingUp Down j = absurd j
joined_swap SettingUp SettingUp j = absurd j
joined_swap SettingUp Releasing j = absurd j
joined_swap Up Down j = absurd j
joined_swap Up Releasing j = absurd j

pub pair_swap : (l r : State) (tl tr : List Frame) → PairSound l r tl tr → PairSound r l tr tl
pair_swap l r tl tr p = record { joined = joined_swap l.phase r.phase p.joined; left_new = p.right_new; right_new = p.left_new; rightward = p.leftward; leftward = p.rightward }

prefix_none : (xs ys : List Payload) → length xs ≡ 0 → IsPrefix xs ys
prefix_none [] ys e = (ys, refl)
prefix_none (x ∷ xs) ys e = absurd (omega (arith, e))

new_prefix : (s : State) (xs : List Payload) → high s ≡ 0 → IsPrefix s.received xs
new_prefix s xs e = prefix_none s.received xs (omega (arith, e))

new_early : (given : List Payload) (base : ℕ) (e : List (Option Payload)) → top e ≡ 0 → EarlyFine given base e
new_early given base [] z = tt
new_early given base (None ∷ e) z = new_early given (suc base) e (grind (arith, nat_tests, z))
new_early given base (Some p ∷ e) z = absurd (omega (arith, z))

-- payloads from one new end to another, with no frame of account
pub new_way : (a b : State) (forth back : List Frame) → Fits (core a) (core b) → IsNew a → IsNew b → texts_of forth ≡ [] → acks_of back ≡ [] → Way (core a) (core b) forth back
new_way a b forth back f m n t k = record {
  fits = f;
  begun = new_prefix b a.given n.high;
  early = new_early a.given (length b.received) b.early (omega (arith, n.high));
  texts = subst (λ ts. TextsFine a.given a.rules.size a.rules.window a.sent ts (high b)) (sym t) (omega (arith, n.high));
  acks = subst (λ rs. AcksFine a.rules.size (length b.received) rs a.acked) (sym k) (omega (arith, m.acked));
  window = omega (arith, m.sent);
  room = omega (arith, m.sent);
}

-- pair_start: left has just become Up or was Reset, right is SettingUp; no frame of account is on the way to either
pub pair_start : (l r : State) (tl tr : List Frame) → l.phase ≡ Up → r.phase ≡ SettingUp → Fits (core l) (core r) → Fits (core r) (core l) → IsNew l → IsNew r → opens_count tr ≤ 1 →
    texts_of (after_ua tr) ≡ [] → acks_of (after_ua tr) ≡ [] → texts_of tl ≡ [] → acks_of tl ≡ [] → PairSound l r tl tr
pair_start l r tl tr u v f g m n o t1 a1 t2 a2 =
    let w : Way (core l) (core r) (after_ua tr) tl = new_way l r (after_ua tr) tl f m n t1 a2 in
    let x : Way (core r) (core l) tl (after_ua tr) = new_way r l tl (after_ua tr) g n m t2 a1 in
    record {
      joined = subst (λ k. Joined k r.phase) (sym u) (subst (λ k. Joined Up k) (sym v) tt);
      left_new = setting_up l.phase l tl u;
      right_new = subst (λ k. SettingFine k r tr) (sym v) (n.acked, n.sent, n.high, o);
      rightward = subst (λ k. Way (core l) (core r) (counted r.phase tr) (counted k tl)) (sym u) (subst (λ k. Way (core l) (core r) (counted k tr) tl) (sym v) w);
      leftward = subst (λ k. Way (core r) (core l) (counted k tl) (counted r.phase tr)) (sym u) (subst (λ k. Way (core r) (core l) tl (counted k tr)) (sym v) x);
    }

-- what a sound pair gives
pub pair_safe : (l r : State) (tl tr : List Frame) → PairSound l r tl tr → IsPrefix r.received l.given × IsPrefix l.received r.given × (l.acked ≤ length r.received) × (r.acked ≤ length l.received)
pair_safe l r tl tr p =
    (p.rightward.begun, p.leftward.begun, (way_order (core l) (core r) (counted r.phase tr) (counted l.phase tl) p.rightward).0, (way_order (core r) (core l) (counted l.phase tl) (counted r.phase tr) p.leftward).0)
