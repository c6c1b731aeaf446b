-- A step of an end that takes part in a link, and of one that is left alone or has given up.
use Rattle.std.proofs.Common.{◌≡◌, ℕ, suc, ◌+◌, ◌≤◌, Bool, true, false, ◌&&◌, if◌then◌else◌, List, [], ◌∷◌, ◌++◌, length, refl, ap, sym, ◌∙◌, subst, arith, inl, inr, ◌⊎◌, append-nil, nat_le, nat_eq}
use Rattle.radio_base.specs.declared.payload.Payload.{Payload}
use Rattle.ax_link.specs.declared.kind.Kind.{Kind}
use Rattle.ax_link.specs.declared.kind.Kind.TheVariants.{I, Rr, Rnr, Rej, Srej, Disc, Dm, Ua, Frmr, SetUp, OtherSetUp, Xid, Other}
use Rattle.ax_link.specs.declared.notice.LinkNotice.TheVariants.{Failed}
use Rattle.ax_link.specs.declared.phase.LinkPhase.{LinkPhase}
use Rattle.ax_link.specs.declared.phase.LinkPhase.TheVariants.{Down, SettingUp, Up, Releasing}
use Rattle.ax_link.specs.Moves.{note, to_phase, emit_timed, fill, supply, release}
use Rattle.ax_link.specs.State.{State, Frame, Effect, begin, is_up}
use Rattle.ax_link.specs.Table.{refuse_if, Input, Set_up, Send, Arrive, Tick, Close, Take, step_at, arrive_in, arrive_down, arrive_setting_up, come_up, takes}
use Rattle.ax_link.specs.Pair.{Both, Joined, NoRestartIn, Core, core, Queue, InScope, NoSetUp, NoSetUps, NoSetUpIn, after_ua, texts_of, acks_of}
use Rattle.ax_link.specs.Runs.{set_ups_in, told_opened}
use Rattle.ax_link.proofs.Steps.{texts_append, acks_append}
use Rattle.ax_link.proofs.Pairs.{both_front, both_swap}
use Rattle.ax_link.proofs.PairSteps.{pair_step_left, setting_pair, keeps_of, joined_down, joined_releasing}
use Rattle.ax_link.proofs.Leaving.{both_step, both_same}
use Rattle.ax_link.proofs.RunStates.{Joint, Lonely, Holds, Kept, none_more, none_of}

-- ---- a step of an end that takes part ----
-- an end that is SettingUp gives up
pub record GivesUp (s : Core) (g : Effect) : Type 0 where
  pub phase : g.link.phase ≡ Down
  pub same : core g.link ≡ s
  pub outs : g.outs ≡ []

abbrev pub Turns : Core → Effect → Type 0
Turns s g = (g.link.phase ≡ SettingUp) ⊎ ((g.link.phase ≡ Up) ⊎ GivesUp s g)

pub told_by : (c : Bool) (g h : Effect) → told_opened g.notes ≡ true → told_opened h.notes ≡ true → told_opened (if c then g else h).notes ≡ true
told_by true g h x y = x
told_by false g h x y = y

pub told_supply : (now : ℕ) (g : Effect) → told_opened g.notes ≡ true → told_opened (supply now g).notes ≡ true
told_supply now g e = told_by (is_up (fill now g).link.phase && (fill now g).link.closing && nat_eq (fill now g).link.acked (length (fill now g).link.given)) (release now (fill now g)) (fill now g) e e

pub turns_arrive : (now : ℕ) (c : Kind) (l : State) → (told_opened (arrive_setting_up now c (begin (record l { phase = SettingUp }))).notes ≡ true → (arrive_setting_up now c (begin (record l { phase = SettingUp }))).link.phase ≡ Up) →
    Turns (core l) (arrive_setting_up now c (begin (record l { phase = SettingUp })))
turns_arrive now (Ua true) l t = inr (inl (t (told_supply now (come_up now (begin (record l { phase = SettingUp }))) refl)))
turns_arrive now (Ua false) l t = inl refl
turns_arrive now (Dm true) l t = inr (inr (record { phase = refl; same = refl; outs = refl }))
turns_arrive now (Dm false) l t = inl refl
turns_arrive now (SetUp pf) l t = inl refl
turns_arrive now (Disc pf) l t = inl refl
turns_arrive now (I ns nr pf) l t = inl refl
turns_arrive now (Rr nr pf) l t = inl refl
turns_arrive now (Rnr nr pf) l t = inl refl
turns_arrive now (Rej nr pf) l t = inl refl
turns_arrive now (Srej nr pf) l t = inl refl
turns_arrive now (OtherSetUp pf) l t = inl refl
turns_arrive now (Frmr pf) l t = inl refl
turns_arrive now (Xid pf) l t = inl refl
turns_arrive now Other l t = inl refl

pub turns_tick : (c d : Bool) (now : ℕ) (l : State) →
    Turns (core l) (if c then (if d then note Failed (to_phase now Down (begin (record l { phase = SettingUp }))) else emit_timed now true (SetUp true) (begin (record l { phase = SettingUp; tries = suc l.tries }))) else begin (record l { phase = SettingUp }))
turns_tick true true now l = inr (inr (record { phase = refl; same = refl; outs = refl }))
turns_tick true false now l = inl refl
turns_tick false d now l = inl refl

pub turns_send : (c : Bool) (now : ℕ) (x : Payload) (l : State) →
    (if c then fill now (begin (record l { phase = SettingUp; given = l.given ++ x ∷ [] })) else begin (record l { phase = SettingUp })).link.phase ≡ SettingUp
turns_send true now x l = refl
turns_send false now x l = refl

pub turns : (now : ℕ) (i : Input) (l : State) → (told_opened (step_at now (record l { phase = SettingUp }) i).notes ≡ true → (step_at now (record l { phase = SettingUp }) i).link.phase ≡ Up) →
    Turns (core l) (step_at now (record l { phase = SettingUp }) i)
turns now (Arrive f) l t = turns_arrive now f.kind (record l { last_arrival = now }) t
turns now Set_up l t = inl refl
turns now (Send x) l t = inl (turns_send (takes (record l { phase = SettingUp })) now x l)
turns now Tick l t = turns_tick (nat_le l.t1_at now) (nat_eq l.tries l.rules.retries) now l
turns now Close l t = inl refl
turns now Take l t = inl refl

pub turns_in : (now : ℕ) (i : Input) (l : State) → l.phase ≡ SettingUp → (told_opened (step_at now l i).notes ≡ true → (step_at now l i).link.phase ≡ Up) → Turns (core l) (step_at now l i)
turns_in now i l u = subst (λ ph. (told_opened (step_at now (record l { phase = ph }) i).notes ≡ true → (step_at now (record l { phase = ph }) i).link.phase ≡ Up) → Turns (core l) (step_at now (record l { phase = ph }) i)) (sym u) (turns now i l)

-- what comes is no set-up command where none is under way
pub comes_none : (i : Input) (tl tl2 : List Frame) → Queue i tl tl2 → NoSetUps tl → NoSetUpIn i × NoSetUps tl2
comes_none (Arrive f) tl tl2 e n = let h : NoSetUps (f ∷ tl2) = subst NoSetUps e n in (h.0, h.1)
comes_none Set_up tl tl2 e n = (tt, subst NoSetUps e n)
comes_none (Send x) tl tl2 e n = (tt, subst NoSetUps e n)
comes_none Tick tl tl2 e n = (tt, subst NoSetUps e n)
comes_none Close tl tl2 e n = (tt, subst NoSetUps e n)
comes_none Take tl tl2 e n = (tt, subst NoSetUps e n)

pub none_put : (fs : List Frame) (a b : ℕ) → 1 ≤ a + b → (a + set_ups_in fs) + b ≤ 1 → NoSetUps fs
none_put fs a b t c = none_of fs (omega (arith, t, c))

pub joint_scope : (now : ℕ) (i : Input) (l : State) (tl tl2 : List Frame) → Queue i tl tl2 → NoSetUps tl → NoSetUps (step_at now l i).outs → Kept l (step_at now l i) →
    (l.phase ≡ SettingUp → ((step_at now l i).link.phase ≡ SettingUp) ⊎ ((step_at now l i).link.phase ≡ Up)) → InScope l i (step_at now l i)
joint_scope now i l tl tl2 e n o k s = record { put_out = o; comes = (comes_none i tl tl2 e n).0; up = k.up; setting = s }

pub joint_stays : (now : ℕ) (i : Input) (l r : State) (tl tl2 tr : List Frame) (a b : ℕ) → Queue i tl tl2 → (a + set_ups_in (step_at now l i).outs) + b ≤ 1 → Kept l (step_at now l i) →
    (l.phase ≡ SettingUp → ((step_at now l i).link.phase ≡ SettingUp) ⊎ ((step_at now l i).link.phase ≡ Up)) → Joint l r tl tr a b →
    Joint (step_at now l i).link r tl2 (tr ++ (step_at now l i).outs) (a + set_ups_in (step_at now l i).outs) b
joint_stays now i l r tl tl2 tr a b e c k s w =
    let o : NoSetUps (step_at now l i).outs = none_put (step_at now l i).outs a b w.set_ups c in
    record {
      sound = pair_step_left now l r i tl tl2 tr e (joint_scope now i l tl tl2 e w.left_coming o k s) w.sound;
      left_coming = (comes_none i tl tl2 e w.left_coming).1;
      right_coming = none_more tr (step_at now l i).outs w.right_coming o;
      set_ups = omega (arith, w.set_ups);
    }

-- the end that is SettingUp gives up: the other is left alone
pub joint_ends : (g : Effect) (l r : State) (tl tl2 tr : List Frame) (a a2 b : ℕ) → l.phase ≡ SettingUp → GivesUp (core l) g → NoSetUps tl2 → 1 ≤ a2 + b → Joint l r tl tr a b →
    Lonely r g.link (tr ++ g.outs) tl2 b a2
joint_ends g l r tl tl2 tr a a2 b u v n t w =
    let p = setting_pair l r tl tr u w.sound in
    let q : tr ++ g.outs ≡ tr = ap (λ k. tr ++ k) v.outs ∙ append-nil tr in
    let h : Both (core r) (core l) tr [] = both_front (core r) (core l) tr [] (after_ua tl) (both_swap (core l) (core r) (after_ua tl) tr p.3) in
    record {
      up = p.0;
      down = v.phase;
      sound = subst (λ k. Both (core r) k (tr ++ g.outs) []) (sym v.same) (subst (λ k. Both (core r) (core l) k []) (sym q) h);
      left_coming = subst NoSetUps (sym q) w.right_coming;
      right_coming = n;
      set_ups = omega (arith, t);
    }

pub joint_turns : (now : ℕ) (i : Input) (l r : State) (tl tl2 tr : List Frame) (a b : ℕ) → l.phase ≡ SettingUp → Queue i tl tl2 → (a + set_ups_in (step_at now l i).outs) + b ≤ 1 → Kept l (step_at now l i) → Joint l r tl tr a b → Turns (core l) (step_at now l i) →
    Holds (step_at now l i).link r tl2 (tr ++ (step_at now l i).outs) (a + set_ups_in (step_at now l i).outs) b
joint_turns now i l r tl tl2 tr a b u e c k w (inl v) = inr (inl (joint_stays now i l r tl tl2 tr a b e c k (λ x. inl v) w))
joint_turns now i l r tl tl2 tr a b u e c k w (inr (inl v)) = inr (inl (joint_stays now i l r tl tl2 tr a b e c k (λ x. inr v) w))
joint_turns now i l r tl tl2 tr a b u e c k w (inr (inr v)) =
    inr (inr (inr (joint_ends (step_at now l i) l r tl tl2 tr a (a + set_ups_in (step_at now l i).outs) b u v (comes_none i tl tl2 e w.left_coming).1 (omega (arith, w.set_ups)) w)))

pub up_not_setting : Up ≡ SettingUp → ⊥
up_not_setting e = absurd (cc e)

pub joint_in : (ph : LinkPhase) (now : ℕ) (i : Input) (l r : State) (tl tl2 tr : List Frame) (a b : ℕ) → l.phase ≡ ph → Queue i tl tl2 → (a + set_ups_in (step_at now l i).outs) + b ≤ 1 → Kept l (step_at now l i) → Joint l r tl tr a b →
    Holds (step_at now l i).link r tl2 (tr ++ (step_at now l i).outs) (a + set_ups_in (step_at now l i).outs) b
joint_in Up now i l r tl tl2 tr a b u e c k w = inr (inl (joint_stays now i l r tl tl2 tr a b e c k (λ x. absurd (up_not_setting (sym u ∙ x))) w))
joint_in SettingUp now i l r tl tl2 tr a b u e c k w = joint_turns now i l r tl tl2 tr a b u e c k w (turns_in now i l u k.told)
joint_in Down now i l r tl tl2 tr a b u e c k w = absurd (joined_down r.phase (subst (λ k. Joined k r.phase) u w.sound.joined))
joint_in Releasing now i l r tl tl2 tr a b u e c k w = absurd (joined_releasing r.phase (subst (λ k. Joined k r.phase) u w.sound.joined))

-- ---- an end that is left alone ----
pub restart_none : (now : ℕ) (l : State) (i : Input) → l.phase ≡ Up → (step_at now l i).link.phase ≡ Up → NoSetUpIn i → NoRestartIn i
restart_none now l (Arrive f) u v n = keeps_of now f.command f.kind f.payload (begin (record l { last_arrival = now })) n (subst (λ ph. (arrive_in ph now f (begin (record l { last_arrival = now }))).link.phase ≡ Up) u v)
restart_none now l Set_up u v n = tt
restart_none now l (Send x) u v n = tt
restart_none now l Tick u v n = tt
restart_none now l Close u v n = tt
restart_none now l Take u v n = tt

pub lonely_up : (now : ℕ) (i : Input) (l r : State) (tl tl2 tr : List Frame) (a b : ℕ) → Queue i tl tl2 → (a + set_ups_in (step_at now l i).outs) + b ≤ 1 → Kept l (step_at now l i) → Lonely l r tl tr a b →
    Lonely (step_at now l i).link r tl2 (tr ++ (step_at now l i).outs) (a + set_ups_in (step_at now l i).outs) b
lonely_up now i l r tl tl2 tr a b e c k w =
    let v : (step_at now l i).link.phase ≡ Up = k.up w.up in
    let n = comes_none i tl tl2 e w.left_coming in
    let h : Both (core (step_at now l i).link) (core r) tl2 (step_at now l i).outs = both_step now l i (core r) tl tl2 [] w.up e (restart_none now l i w.up v n.0) w.sound in
    record {
      up = v;
      down = w.down;
      sound = both_front (core (step_at now l i).link) (core r) tl2 [] (step_at now l i).outs h;
      left_coming = n.1;
      right_coming = none_more tr (step_at now l i).outs w.right_coming (none_put (step_at now l i).outs a b w.set_ups c);
      set_ups = omega (arith, w.set_ups);
    }

-- an end that is Down and isn't set up stays so; at most it refuses
pub record Rests (s : Core) (g : Effect) : Type 0 where
  pub phase : g.link.phase ≡ Down
  pub same : core g.link ≡ s
  pub texts : texts_of g.outs ≡ []
  pub acks : acks_of g.outs ≡ []

pub rests_refused : (b pf : Bool) (l : State) → Rests (core l) (refuse_if b pf (begin (record l { phase = Down })))
rests_refused true pf l = record { phase = refl; same = refl; texts = refl; acks = refl }
rests_refused false pf l = record { phase = refl; same = refl; texts = refl; acks = refl }

pub rests_arrive : (now : ℕ) (command : Bool) (c : Kind) (l : State) → NoSetUp c → Rests (core l) (arrive_down now command c (begin (record l { phase = Down })))
rests_arrive now command (SetUp pf) l n = absurd n
rests_arrive now command (Disc pf) l n = rests_refused command pf l
rests_arrive now command (Xid pf) l n = rests_refused command pf l
rests_arrive now command (I ns nr pf) l n = rests_refused (command && pf) true l
rests_arrive now command (Rr nr pf) l n = rests_refused (command && pf) true l
rests_arrive now command (Rnr nr pf) l n = rests_refused (command && pf) true l
rests_arrive now command (Rej nr pf) l n = rests_refused (command && pf) true l
rests_arrive now command (Srej nr pf) l n = rests_refused (command && pf) true l
rests_arrive now command (OtherSetUp pf) l n = record { phase = refl; same = refl; texts = refl; acks = refl }
rests_arrive now command (Dm pf) l n = record { phase = refl; same = refl; texts = refl; acks = refl }
rests_arrive now command (Ua pf) l n = record { phase = refl; same = refl; texts = refl; acks = refl }
rests_arrive now command (Frmr pf) l n = record { phase = refl; same = refl; texts = refl; acks = refl }
rests_arrive now command Other l n = record { phase = refl; same = refl; texts = refl; acks = refl }

pub rests : (now : ℕ) (i : Input) (l : State) → NoSetUpIn i → NoSetUps (step_at now (record l { phase = Down }) i).outs → Rests (core l) (step_at now (record l { phase = Down }) i)
rests now (Arrive f) l n o = rests_arrive now f.command f.kind (record l { last_arrival = now }) n
rests now Set_up l n o = absurd o.0
rests now (Send x) l n o = record { phase = refl; same = refl; texts = refl; acks = refl }
rests now Tick l n o = record { phase = refl; same = refl; texts = refl; acks = refl }
rests now Close l n o = record { phase = refl; same = refl; texts = refl; acks = refl }
rests now Take l n o = record { phase = refl; same = refl; texts = refl; acks = refl }

pub rests_in : (now : ℕ) (i : Input) (l : State) → l.phase ≡ Down → NoSetUpIn i → NoSetUps (step_at now l i).outs → Rests (core l) (step_at now l i)
rests_in now i l u n = subst (λ ph. NoSetUps (step_at now (record l { phase = ph }) i).outs → Rests (core l) (step_at now (record l { phase = ph }) i)) (sym u) (rests now i l n)

pub quiet_texts : (xs ys : List Frame) → texts_of ys ≡ [] → texts_of xs ≡ texts_of (xs ++ ys)
quiet_texts xs ys e = sym (texts_append xs ys ∙ (ap (λ k. texts_of xs ++ k) e ∙ append-nil (texts_of xs)))

pub quiet_acks : (xs ys : List Frame) → acks_of ys ≡ [] → acks_of xs ≡ acks_of (xs ++ ys)
quiet_acks xs ys e = sym (acks_append xs ys ∙ (ap (λ k. acks_of xs ++ k) e ∙ append-nil (acks_of xs)))

pub lonely_down : (now : ℕ) (i : Input) (l r : State) (tl tl2 tr : List Frame) (a b : ℕ) → Queue i tl tl2 → (a + set_ups_in (step_at now l i).outs) + b ≤ 1 → Lonely r l tr tl b a →
    Lonely r (step_at now l i).link (tr ++ (step_at now l i).outs) tl2 b (a + set_ups_in (step_at now l i).outs)
lonely_down now i l r tl tl2 tr a b e c w =
    let o : NoSetUps (step_at now l i).outs = none_put (step_at now l i).outs a b (omega (arith, w.set_ups)) c in
    let n = comes_none i tl tl2 e w.right_coming in
    let h : Rests (core l) (step_at now l i) = rests_in now i l w.down n.0 o in
    record {
      up = w.up;
      down = h.phase;
      sound = subst (λ k. Both (core r) k (tr ++ (step_at now l i).outs) []) (sym h.same)
          (both_same (core r) (core l) tr (tr ++ (step_at now l i).outs) [] [] (quiet_texts tr (step_at now l i).outs h.texts) (quiet_acks tr (step_at now l i).outs h.acks) refl refl w.sound);
      left_coming = none_more tr (step_at now l i).outs w.left_coming o;
      right_coming = n.1;
      set_ups = omega (arith, w.set_ups);
    }
