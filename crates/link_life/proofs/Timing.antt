-- Frames under way are in time.
use Rattle.std.proofs.Common.{◌≡◌, ◌≤◌, ◌+◌, ◌-◌, min, ℕ, Bool, true, false, not, ◌&&◌, ◌||◌, if◌then◌else◌, List, [], ◌∷◌, length, Option, Some, None, slice_get, nat_lt, refl, sym, ◌∙◌, subst, arith}
use Rattle.std.proofs.lemmas.Bool.Decides.{nat_tests}
use Rattle.radio_base.specs.declared.payload.Payload.{Payload}
use Rattle.radio_base.proofs.Each.{each_append}
use Rattle.ax_link.specs.State.{Effect, Frame, Rules, is_up}
use Rattle.ax_link.specs.Table as table
use Rattle.ax_link.specs.Table.{Input, step}
use Rattle.link_life.specs.declared.act.Side.{Side}
use Rattle.link_life.specs.declared.act.Side.TheVariants.{A, B}
use Rattle.link_life.specs.declared.act.EndAct.{EndAct}
use Rattle.link_life.specs.declared.act.EndAct.TheVariants as acts
use Rattle.link_life.specs.declared.act.LifeAct.{LifeAct}
use Rattle.link_life.specs.declared.act.LifeAct.TheVariants.{At, Tick}
use Rattle.link_life.specs.declared.life_refusals.LifeRefusal.{LifeRefusal}
use Rattle.link_life.specs.declared.life_refusals.LifeRefusal.TheVariants as why
use Rattle.link_life.specs.Ends.{End, Ends, Flight, after_step, any_begins, epochs, flights, go_down, heard_more, hear, is_down, is_of_account, number, step_near}
use Rattle.link_life.specs.Laws.{AllInTime, FramesInTime, InTime, IsInTime}
use Rattle.link_life.specs.Lives.{Done, Life, Outcome, Refused, Turn, act_at, act_near, act_on, after_act, arrive_first, clock_end, ends_at, is_late, lifted, lose_first, moved, new_life, run, send_refusal, set_up_refusal, take_first, tick_at, tick_both, tick_to, turn_at, unless}

-- ---- what a step leaves of the frames under way

if_coming : (b : Bool) (x y : End) → x.coming ≡ y.coming → (if b then x else y).coming ≡ y.coming
if_coming true x y e = e
if_coming false x y e = refl

near_coming : (rules : Rules) (now : ℕ) (g : Effect) (p : Ends) → (step_near rules now g p).near.coming ≡ p.near.coming
near_coming rules now g p =
    if_coming (not (is_down p.near.link.phase) && is_down (after_step g p.near).link.phase) (go_down rules now (after_step g p.near)) (after_step g p.near) refl
    ∙ if_coming (any_begins g.notes) (record p.near { over = epochs p.near; heard = Some [] }) p.near refl

hear_coming : (f : Flight) (e : End) → (hear f e).coming ≡ e.coming
hear_coming f e = if_coming (is_up e.link.phase && is_of_account f.frame.kind) (record e { heard = heard_more f.epoch e.heard }) e refl

pub set_out : (now delay epoch : ℕ) (fs : List Frame) → AllInTime now delay (flights now epoch fs)
set_out now delay epoch [] = tt
set_out now delay epoch (f ∷ fs) = (record { sent = omega arith; kept = omega arith }, set_out now delay epoch fs)

-- ---- acts at one end

pub record EndsInTime (now delay : ℕ) (p : Ends) : Type 0 where
  pub near : AllInTime now delay p.near.coming
  pub far : AllInTime now delay p.far.coming

abbrev OutcomeInTime : ℕ → ℕ → Outcome Ends → Type 0
OutcomeInTime now delay (Refused refusal) = Unit {0}
OutcomeInTime now delay (Done told p) = EndsInTime now delay p

moved_in_time : (delay : ℕ) (t : Turn) (i : Input) (taken : List ℕ) (p : Ends) → EndsInTime t.now delay p → OutcomeInTime t.now delay (moved t i taken p)
moved_in_time delay t i taken p s =
    let g : Effect = step p.near.link i t.now in
    record {
      near = subst (λ (fs : List Flight). AllInTime t.now delay fs) (sym (near_coming t.rules t.now g p)) s.near;
      far = each_append (IsInTime t.now delay) p.far.coming (flights t.now (number (after_step g p.near)) g.outs) s.far (set_out t.now delay (number (after_step g p.near)) g.outs);
    }

unless_in_time : (now delay : ℕ) (o : Option LifeRefusal) (done : Outcome Ends) → OutcomeInTime now delay done → OutcomeInTime now delay (unless o done)
unless_in_time now delay None done s = s
unless_in_time now delay (Some refusal) done s = tt

take_in_time : (delay : ℕ) (t : Turn) (o : Option Payload) (p : Ends) → EndsInTime t.now delay p → OutcomeInTime t.now delay (take_first t o p)
take_in_time delay t None p s = tt
take_in_time delay t (Some payload) p s = moved_in_time delay t table.Take (length payload.info.items ∷ []) p s

arrive_in_time : (delay : ℕ) (t : Turn) (fs : List Flight) (p : Ends) → AllInTime t.now delay fs → AllInTime t.now delay p.far.coming → OutcomeInTime t.now delay (arrive_first t fs p)
arrive_in_time delay t [] p a b = tt
arrive_in_time delay t (f ∷ fs) p a b =
    moved_in_time delay t (table.Arrive f.frame) [] (record p { near = hear f (record p.near { coming = fs }) })
    (record { near = subst (λ (xs : List Flight). AllInTime t.now delay xs) (sym (hear_coming f (record p.near { coming = fs }))) a.1; far = b })

lose_in_time : (now delay : ℕ) (fs : List Flight) (p : Ends) → AllInTime now delay fs → AllInTime now delay p.far.coming → OutcomeInTime now delay (lose_first fs p)
lose_in_time now delay [] p a b = tt
lose_in_time now delay (f ∷ fs) p a b = record { near = a.1; far = b }

near_in_time : (delay : ℕ) (t : Turn) (act : EndAct) (p : Ends) → EndsInTime t.now delay p → OutcomeInTime t.now delay (act_near t act p)
near_in_time delay t acts.SetUp p s = unless_in_time t.now delay (set_up_refusal p.near t.now) (moved t table.Set_up [] p) (moved_in_time delay t table.Set_up [] p s)
near_in_time delay t (acts.Send payload) p s = unless_in_time t.now delay (send_refusal p.near.link) (moved t (table.Send payload) [] p) (moved_in_time delay t (table.Send payload) [] p s)
near_in_time delay t acts.Close p s = moved_in_time delay t table.Close [] p s
near_in_time delay t acts.Take p s = take_in_time delay t (slice_get p.near.link.inbox 0) p s
near_in_time delay t acts.Arrive p s = arrive_in_time delay t p.near.coming p s.near s.far
near_in_time delay t acts.Lose p s = lose_in_time t.now delay p.near.coming p s.near s.far

-- ---- acts of a life

-- and the clock hasn't passed its end
record Fine (w : Life) : Type 0 where
  now : w.now ≤ clock_end
  time : InTime w

abbrev LifeOutcome : Outcome Life → Type 0
LifeOutcome (Refused refusal) = Unit {0}
LifeOutcome (Done told w) = Fine w

lifted_in_time : (side : Side) (w : Life) (o : Outcome Ends) → w.now ≤ clock_end → OutcomeInTime w.now w.delay o → LifeOutcome (lifted side w o)
lifted_in_time A w (Refused refusal) c s = tt
lifted_in_time A w (Done told p) c s = record { now = c; time = record { a = s.near; b = s.far } }
lifted_in_time B w (Refused refusal) c s = tt
lifted_in_time B w (Done told p) c s = record { now = c; time = record { a = s.far; b = s.near } }

ends_in_time : (side : Side) (w : Life) → InTime w → EndsInTime w.now w.delay (ends_at side w)
ends_in_time A w s = record { near = s.a; far = s.b }
ends_in_time B w s = record { near = s.b; far = s.a }

at_in_time : (side : Side) (act : EndAct) (w : Life) → Fine w → LifeOutcome (act_at side act w)
at_in_time side act w s = lifted_in_time side w (act_near (turn_at side w) act (ends_at side w)) s.now (near_in_time w.delay (turn_at side w) act (ends_at side w) (ends_in_time side w s.time))

tick_in_time : (side : Side) (w : Life) → Fine w → LifeOutcome (tick_at side w)
tick_in_time side w s = lifted_in_time side w (moved (turn_at side w) table.Tick [] (ends_at side w)) s.now (moved_in_time w.delay (turn_at side w) table.Tick [] (ends_at side w) (ends_in_time side w s.time))

both_in_time : (w : Life) → Fine w → LifeOutcome (tick_both w)
both_in_time w s = tick_in_time B (after_act (tick_at A w) w) (tick_in_time A w s)

-- none of them is late
pub none_late : (delay now later : ℕ) (fs : List Flight) → now ≤ later → AllInTime now delay fs → is_late delay later fs ≡ false → AllInTime later delay fs
none_late delay now later [] l s e = tt
none_late delay now later (f ∷ fs) l s e =
    let now_not : nat_lt delay (later - f.sent) ≡ false = or_left (nat_lt delay (later - f.sent)) (is_late delay later fs) e in
    let few : later - f.sent ≤ delay = grind (arith, nat_tests) in
    (record { sent = omega (arith, s.0.sent, l); kept = omega (arith, few) }, none_late delay now later fs l s.1 (or_right (nat_lt delay (later - f.sent)) (is_late delay later fs) e))
  where
    or_left : (b c : Bool) → (b || c) ≡ false → b ≡ false
    or_left true c q = absurd (cc q)
    or_left false c q = refl

    or_right : (b c : Bool) → (b || c) ≡ false → c ≡ false
    or_right true c q = absurd (cc q)
    or_right false c q = q

to_in_time : (w : Life) (later : ℕ) → w.now ≤ later → later ≤ clock_end → InTime w → LifeOutcome (tick_to later w)
to_in_time w later l m s = by (is_late w.delay later w.a.coming) (is_late w.delay later w.b.coming) refl refl
  where
    by : (b c : Bool) → is_late w.delay later w.a.coming ≡ b → is_late w.delay later w.b.coming ≡ c →
        LifeOutcome (unless (if b || c then Some why.Delay else None) (tick_both (record w { now = later })))
    by true c q r = tt
    by false true q r = tt
    by false false q r =
        both_in_time (record w { now = later })
        (record { now = m; time = record { a = none_late w.delay w.now later w.a.coming l s.a q; b = none_late w.delay w.now later w.b.coming l s.b r } })

acts_in_time : (act : LifeAct) (w : Life) → Fine w → LifeOutcome (act_on act w)
acts_in_time (At side act) w s = at_in_time side act w s
acts_in_time (Tick passed) w s =
    let now : w.now ≤ clock_end = s.now in
    to_in_time w (min (w.now + passed) clock_end) (omega (arith, now)) (omega arith) s.time

after_in_time : (o : Outcome Life) (w : Life) → Fine w → LifeOutcome o → Fine (after_act o w)
after_in_time (Refused refusal) w s t = s
after_in_time (Done told v) w s t = t

run_in_time : (w : Life) (acts : List LifeAct) → Fine w → Fine (run w acts)
run_in_time w [] s = s
run_in_time w (act ∷ more) s = run_in_time (after_act (act_on act w) w) more (after_in_time (act_on act w) w s (acts_in_time act w s))

pub frames_in_time : FramesInTime
frames_in_time size delay srej acts = (run_in_time (new_life size srej delay) acts (record { now = omega arith; time = record { a = tt; b = tt } })).time
