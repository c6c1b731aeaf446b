-- In each life, at each moment, each epoch is safe with its partner.
use Rattle.std.proofs.Common.{◌≡◌, inl, inr, ◌≤◌, ◌+◌, min, ℕ, Bool, true, false, not, ◌&&◌, ◌||◌, if◌then◌else◌, List, [], ◌∷◌, length, Option, Some, None, slice_get, refl, ap, sym, subst, arith}
use Rattle.std.specs.List.{AllByRecursion}
use Rattle.radio_base.specs.declared.payload.Payload.{Payload}
use Rattle.ax_link.specs.declared.phase.LinkPhase.{LinkPhase}
use Rattle.ax_link.specs.declared.phase.LinkPhase.TheVariants.{Down, SettingUp, Up, Releasing}
use Rattle.std.specs.Prelude.{is_some}
use Rattle.ax_link.specs.Carrying.{is_on}
use Rattle.ax_link.specs.Opening.{opening, rules_new}
use Rattle.ax_link.specs.Pair.{IsNew, core}
use Rattle.ax_link.specs.State.{Rules, is_up}
use Rattle.ax_link.specs.Table as table
use Rattle.ax_link.specs.Table.{Input, step}
use Rattle.ax_link.proofs.PairSteps.{NoArrival}
use Rattle.link_life.specs.declared.act.Side.{Side}
use Rattle.link_life.specs.declared.act.Side.TheVariants.{A, B}
use Rattle.link_life.specs.declared.act.EndAct.{EndAct}
use Rattle.link_life.specs.declared.act.EndAct.TheVariants as acts
use Rattle.link_life.specs.declared.act.LifeAct.{LifeAct}
use Rattle.link_life.specs.declared.act.LifeAct.TheVariants.{At, Tick}
use Rattle.link_life.specs.declared.life_refusals.LifeRefusal.{LifeRefusal}
use Rattle.link_life.specs.declared.life_refusals.LifeRefusal.TheVariants as why
use Rattle.link_life.specs.Ends.{End, Ends, Flight, heard_more, is_down, is_of_account, step_near}
use Rattle.link_life.specs.Laws.{AllInTime, LivesAreSafe}
use Rattle.link_life.specs.Lives.{Done, Life, Outcome, Refused, Turn, act_near, act_on, after_act, arrive_first, clock_end, ends_at, is_early, is_late, lifted, lose_first, moved, new_end, new_life, run, send_refusal, set_up_refusal, settings, take_first, tick_at, tick_both, tick_to, turn_at, unless}
use Rattle.link_life.proofs.Beginning.{loses}
use Rattle.link_life.proofs.Cases.{MayCome, goes_out}
use Rattle.link_life.proofs.Dates.{Asking, Dated, opens_answers}
use Rattle.link_life.proofs.Dating.{answer_came, dated_later, lost_coming, lost_going}
use Rattle.link_life.proofs.Hearing.{NotAccount, step_sound}
use Rattle.link_life.proofs.Known.{Known}
use Rattle.link_life.proofs.Partners.{talk_safe}
use Rattle.link_life.proofs.Sounding.{both_new}
use Rattle.link_life.proofs.Talks.{Part, Side as TalkSide, Talk, swapped}
use Rattle.link_life.proofs.Timing.{none_late}
use Rattle.link_life.proofs.Turning.{EndFine, Lasts, Settled, Sound, asking_of, none_opens}

-- ---- acts at one end

abbrev OutcomeSound : Rules → ℕ → ℕ → Outcome Ends → Type 0
OutcomeSound set now delay (Refused refusal) = Unit {0}
OutcomeSound set now delay (Done told p) = Sound set now delay p

unless_sound : (set : Rules) (now delay : ℕ) (o : Option LifeRefusal) (done : Outcome Ends) → (o ≡ None → OutcomeSound set now delay done) → OutcomeSound set now delay (unless o done)
unless_sound set now delay None done s = s refl
unless_sound set now delay (Some refusal) done s = tt

not_account : (i : Input) → NoArrival i → NotAccount i
not_account table.Set_up n = tt
not_account (table.Send p) n = tt
not_account (table.Arrive f) n = absurd n
not_account table.Tick n = tt
not_account table.Close n = tt
not_account table.Take n = tt

-- an end after a frame was heard, or not
abbrev heard_if : Bool → Flight → End → End
heard_if b f e = if b then record e { heard = heard_more f.epoch e.heard } else e

module _ (known : Known) (delay : ℕ) (t : Turn) (settled : Settled t.rules delay) where
  called : (i : Input) (taken : List ℕ) (p : Ends) → NoArrival i → MayCome i → (i ≡ table.Set_up → is_early p.near.down_since t.now ≡ false) → Sound t.rules t.now delay p →
      OutcomeSound t.rules t.now delay (moved t i taken p)
  called i taken p n m e s =
      step_sound known t.rules t.now delay p.near p.far i p.near.coming p.near.heard settled s
      (record { taken = inl (n, refl); may = m; early = e; hears = inl (λ u. not_account i n, refl) })

  set_up_sound : (p : Ends) → Sound t.rules t.now delay p → OutcomeSound t.rules t.now delay (act_near t acts.SetUp p)
  set_up_sound p s =
      unless_sound t.rules t.now delay (set_up_refusal p.near t.now) (moved t table.Set_up [] p)
      (λ e. called table.Set_up [] p tt tt (λ q. early (not (is_down p.near.link.phase)) (is_early p.near.down_since t.now) e) s)
    where
      early : (b c : Bool) → (if b then Some why.Phase else if c then Some why.Early else None) ≡ None → c ≡ false
      early true c e = absurd (cc e)
      early false true e = absurd (cc e)
      early false false e = refl

  take_sound : (o : Option Payload) (p : Ends) → Sound t.rules t.now delay p → OutcomeSound t.rules t.now delay (take_first t o p)
  take_sound None p s = tt
  take_sound (Some payload) p s = called table.Take (length payload.info.items ∷ []) p tt tt (λ e. absurd (cc e)) s

  arrive_sound : (fs : List Flight) (p : Ends) → p.near.coming ≡ fs → Sound t.rules t.now delay p → OutcomeSound t.rules t.now delay (arrive_first t fs p)
  arrive_sound [] p c s = tt
  arrive_sound (f ∷ fs) p c s = by (is_up p.near.link.phase && is_of_account f.frame.kind) refl
    where
      may : goes_out f.frame.kind ≡ true
      may = (subst (AllByRecursion (λ (g : Flight). goes_out g.frame.kind ≡ true)) c s.near.kinds).0

      up_if : (ph : LinkPhase) (b : Bool) → (is_up ph && b) ≡ true → (ph ≡ Up) × (b ≡ true)
      up_if Up b e = (refl, e)
      up_if Down b e = absurd (cc e)
      up_if SettingUp b e = absurd (cc e)
      up_if Releasing b e = absurd (cc e)

      else_not : (ph : LinkPhase) (b : Bool) → (is_up ph && b) ≡ false → ph ≡ Up → b ≡ false
      else_not Up b e u = e
      else_not Down b e u = absurd (cc u)
      else_not SettingUp b e u = absurd (cc u)
      else_not Releasing b e u = absurd (cc u)

      by : (b : Bool) → (is_up p.near.link.phase && is_of_account f.frame.kind) ≡ b →
          Sound t.rules t.now delay
          (step_near t.rules t.now (step (heard_if b f (record p.near { coming = fs })).link (table.Arrive f.frame) t.now) (record { near = heard_if b f (record p.near { coming = fs }); far = p.far }))
      by true e =
          let u = up_if p.near.link.phase (is_of_account f.frame.kind) e in
          step_sound known t.rules t.now delay p.near p.far (table.Arrive f.frame) fs (heard_more f.epoch p.near.heard) settled s
          (record { taken = inr (f, refl, c); may = may; early = λ q. absurd (cc q); hears = inr (f, c, u.0, u.1, refl) })
      by false e =
          step_sound known t.rules t.now delay p.near p.far (table.Arrive f.frame) fs p.near.heard settled s
          (record { taken = inr (f, refl, c); may = may; early = λ q. absurd (cc q); hears = inl (else_not p.near.link.phase (is_of_account f.frame.kind) e, refl) })

  lose_sound : (fs : List Flight) (p : Ends) → p.near.coming ≡ fs → Sound t.rules t.now delay p → OutcomeSound t.rules t.now delay (lose_first fs p)
  lose_sound [] p c s = tt
  lose_sound (f ∷ fs) p c s =
      record {
        near = record { rules = s.near.rules; bounded = s.near.bounded; lasts = s.near.lasts; new = s.near.new; kinds = (subst (AllByRecursion (λ (g : Flight). goes_out g.frame.kind ≡ true)) c s.near.kinds).1 };
        far = s.far;
        near_time = (subst (AllInTime t.now delay) c s.near_time).1;
        far_time = s.far_time;
        near_dates = lost_coming p.near.link.phase p.near.link.t1_at t.now delay p.near.down_since f fs p.far.coming
            (subst (λ q. Dated p.near.link.phase p.near.link.t1_at p.near.down_since t.now delay q p.far.coming) c s.near_dates);
        far_dates = lost_going p.far.link.phase p.far.link.t1_at t.now delay p.far.down_since f p.far.coming fs
            (subst (λ q. Dated p.far.link.phase p.far.link.t1_at p.far.down_since t.now delay p.far.coming q) c s.far_dates);
        talk = loses known p.near p.far f fs s.talk c
            (λ u o. let a = asking_of t.now delay p.near p.far.coming u s.near_dates in
            none_opens fs (answer_came p.near.link.t1_at t.now delay f fs p.far.coming (opens_answers f.frame.kind o) (subst (λ q. Asking p.near.link.t1_at t.now delay q p.far.coming) c a)).1);
      }

  near_sound : (act : EndAct) (p : Ends) → Sound t.rules t.now delay p → OutcomeSound t.rules t.now delay (act_near t act p)
  near_sound acts.SetUp p s = set_up_sound p s
  near_sound (acts.Send payload) p s =
      unless_sound t.rules t.now delay (send_refusal p.near.link) (moved t (table.Send payload) [] p) (λ e. called (table.Send payload) [] p tt tt (λ q. absurd (cc q)) s)
  near_sound acts.Close p s = called table.Close [] p tt tt (λ q. absurd (cc q)) s
  near_sound acts.Take p s = take_sound (slice_get p.near.link.inbox 0) p s
  near_sound acts.Arrive p s = arrive_sound p.near.coming p refl s
  near_sound acts.Lose p s = lose_sound p.near.coming p refl s

-- ---- acts of a life

-- what is known of a life: its settings stay, and its clock hasn't passed its end
record LifeSound (set : Rules) (delay : ℕ) (w : Life) : Type 0 where
  rules : w.rules ≡ set
  late : w.delay ≡ delay
  clock : w.now ≤ clock_end
  ends : Sound set w.now delay (record { near = w.a; far = w.b })

abbrev LifeOutcome : Rules → ℕ → Outcome Life → Type 0
LifeOutcome set delay (Refused refusal) = Unit {0}
LifeOutcome set delay (Done told w) = LifeSound set delay w

sound_swapped : (set : Rules) (now delay : ℕ) (x y : End) → Sound set now delay (record { near = x; far = y }) → Sound set now delay (record { near = y; far = x })
sound_swapped set now delay x y s =
    record { near = s.far; far = s.near; near_time = s.far_time; far_time = s.near_time; near_dates = s.far_dates; far_dates = s.near_dates; talk = swapped x y s.talk }

sound_at : (set : Rules) (now delay : ℕ) (side : Side) (w : Life) → Sound set now delay (record { near = w.a; far = w.b }) → Sound set now delay (ends_at side w)
sound_at set now delay A w s = s
sound_at set now delay B w s = sound_swapped set now delay w.a w.b s

lifted_sound : (set : Rules) (delay : ℕ) (side : Side) (w : Life) (o : Outcome Ends) → w.rules ≡ set → w.delay ≡ delay → w.now ≤ clock_end → OutcomeSound set w.now delay o → LifeOutcome set delay (lifted side w o)
lifted_sound set delay A w (Refused refusal) r l c s = tt
lifted_sound set delay A w (Done told p) r l c s = record { rules = r; late = l; clock = c; ends = s }
lifted_sound set delay B w (Refused refusal) r l c s = tt
lifted_sound set delay B w (Done told p) r l c s = record { rules = r; late = l; clock = c; ends = sound_swapped set w.now delay p.near p.far s }

module _ (known : Known) (set : Rules) (delay : ℕ) (settled : Settled set delay) where
  turn_settled : (side : Side) (w : Life) → w.rules ≡ set → Settled (turn_at side w).rules delay
  turn_settled side w r = subst (λ k. Settled k delay) (sym r) settled

  -- what is done at an end at some time
  done_at : (side : Side) (w : Life) (does : Turn → Ends → Outcome Ends) →
      ((t : Turn) (p : Ends) → Settled t.rules delay → Sound t.rules t.now delay p → OutcomeSound t.rules t.now delay (does t p)) → LifeSound set delay w → LifeOutcome set delay (lifted side w (does (turn_at side w) (ends_at side w)))
  done_at side w does h k =
      lifted_sound set delay side w (does (turn_at side w) (ends_at side w)) k.rules k.late k.clock
      (subst (λ r. OutcomeSound r w.now delay (does (turn_at side w) (ends_at side w))) k.rules
      (h (turn_at side w) (ends_at side w) (turn_settled side w k.rules)
      (subst (λ r. Sound r w.now delay (ends_at side w)) (sym k.rules) (sound_at set w.now delay side w k.ends))))

  ticks : (side : Side) (w : Life) → LifeSound set delay w → LifeOutcome set delay (tick_at side w)
  ticks side w k = done_at side w (λ t p. moved t table.Tick [] p) (λ t p f s. called known delay t f table.Tick [] p tt tt (λ q. absurd (cc q)) s) k

  both_ticks : (w : Life) → LifeSound set delay w → LifeOutcome set delay (tick_both w)
  both_ticks w k = ticks B (after_act (tick_at A w) w) (ticks A w k)

  later : (w : Life) (to : ℕ) → w.now ≤ to → to ≤ clock_end → LifeSound set delay w → LifeOutcome set delay (tick_to to w)
  later w to l m k = by (is_late w.delay to w.a.coming) (is_late w.delay to w.b.coming) refl refl
    where
      by : (b c : Bool) → is_late w.delay to w.a.coming ≡ b → is_late w.delay to w.b.coming ≡ c →
          LifeOutcome set delay (unless (if b || c then Some why.Delay else None) (tick_both (record w { now = to })))
      by true c q r = tt
      by false true q r = tt
      by false false q r =
          let e = k.ends in
          both_ticks (record w { now = to }) (record {
            rules = k.rules;
            late = k.late;
            clock = m;
            ends = record {
              near = e.near;
              far = e.far;
              near_time = none_late delay w.now to w.a.coming l e.near_time (subst (λ d. is_late d to w.a.coming ≡ false) k.late q);
              far_time = none_late delay w.now to w.b.coming l e.far_time (subst (λ d. is_late d to w.b.coming ≡ false) k.late r);
              near_dates = dated_later w.a.link.phase w.a.link.t1_at w.now to delay w.a.down_since w.a.coming w.b.coming l e.near_dates;
              far_dates = dated_later w.b.link.phase w.b.link.t1_at w.now to delay w.b.down_since w.b.coming w.a.coming l e.far_dates;
              talk = e.talk;
            };
          })

  acts_sound : (act : LifeAct) (w : Life) → LifeSound set delay w → LifeOutcome set delay (act_on act w)
  acts_sound (At side act) w k = done_at side w (λ t p. act_near t act p) (λ t p f s. near_sound known delay t f act p s) k
  acts_sound (Tick passed) w k = let c = k.clock in later w (min (w.now + passed) clock_end) (omega (arith, c)) (omega arith) k

  after_sound : (o : Outcome Life) (w : Life) → LifeSound set delay w → LifeOutcome set delay o → LifeSound set delay (after_act o w)
  after_sound (Refused refusal) w k l = k
  after_sound (Done told v) w k l = l

  run_sound : (w : Life) (acts : List LifeAct) → LifeSound set delay w → LifeSound set delay (run w acts)
  run_sound w [] k = k
  run_sound w (act ∷ more) k = run_sound (after_act (act_on act w) w) more (after_sound (act_on act w) w k (acts_sound act w k))

-- ---- the beginning

new_talk : Known → (set : Rules) (delay : ℕ) → Settled set delay → IsNew (opening set) → Talk (new_end set) (new_end set)
new_talk known set delay settled n =
    let part : Part = record { number = 0; core = core (opening set); heard = []; hears = [] } in
    let side : TalkSide (new_end set) (new_end set) part part = record {
      stand = inr (inr (inr (record { apart = record { up = λ e. absurd (cc e); setting = λ e. tt }; number = refl; heard = refl; hears = refl; unheard = refl })));
      heard = tt;
      hears = tt;
      alone = λ e. record { acked = n.acked; reach = n.high };
      rest = λ i e g m. absurd (cc g);
    } in
    record { near = part; far = part; one = side; two = side; sound = both_new known set (opening set) (opening set) [] [] settled.fits refl refl n n tt tt }

lasts_on : (ph : LinkPhase) (heard : Option (List ℕ)) → Lasts ph heard → is_some heard ≡ is_on ph
lasts_on Down heard l = ap is_some l
lasts_on SettingUp heard l = ap is_some l
lasts_on Up heard l = ap is_some l.1
lasts_on Releasing heard l = ap is_some l.1

pub lives_are_safe : Known → LivesAreSafe
lives_are_safe known size delay srej acts m short =
    let starts = known.begin size (settings srej) (settings srej) m refl in
    let bounded = known.bounded size (settings srej) (settings srej) m refl in
    let set : Rules = rules_new size (settings srej) in
    let settled : Settled set delay = record { fits = starts.rightward; bounded = bounded.left; t1 = refl; short = short } in
    let fine : EndFine set (new_end set) = record { rules = refl; bounded = bounded.left; lasts = refl; new = λ e. absurd (cc e); kinds = tt } in
    let k : LifeSound set delay (run (new_life size srej delay) acts) = run_sound known set delay settled (new_life size srej delay) acts (record {
      rules = refl;
      late = refl;
      clock = omega arith;
      ends = record { near = fine; far = fine; near_time = tt; far_time = tt; near_dates = (tt, (tt, tt)); far_dates = (tt, (tt, tt)); talk = new_talk known set delay settled starts.left_new };
    }) in
    let safe = talk_safe (run (new_life size srej delay) acts).a (run (new_life size srej delay) acts).b k.ends.talk in
    record { a = safe.0; b = safe.1; a_lasts = lasts_on _ _ k.ends.near.lasts; b_lasts = lasts_on _ _ k.ends.far.lasts }
