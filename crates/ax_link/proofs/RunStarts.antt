-- While no end is Up, until one opens.
use Rattle.std.proofs.Common.{◌≡◌, ℕ, suc, ◌+◌, ◌≤◌, Bool, true, false, if◌then◌else◌, List, [], ◌∷◌, ◌++◌, length, drop, Option, None, refl, ap, sym, ◌∙◌, subst, arith, inl, inr, nat_le, nat_eq, length-append}
use Rattle.radio_base.specs.declared.payload.Payload.{Payload}
use Rattle.ax_link.specs.declared.kind.Kind.{Kind}
use Rattle.ax_link.specs.declared.kind.Kind.TheVariants.{I, Rr, Rnr, Rej, Srej, Disc, Dm, Ua, Frmr, SetUp, OtherSetUp, Xid, Other}
use Rattle.ax_link.specs.declared.notice.LinkNotice.TheVariants.{Failed}
use Rattle.ax_link.specs.declared.phase.LinkPhase.{LinkPhase}
use Rattle.ax_link.specs.declared.phase.LinkPhase.TheVariants.{Down, SettingUp, Up, Releasing}
use Rattle.ax_link.specs.Moves.{note, to_phase, emit_timed, fill}
use Rattle.ax_link.specs.State.{State, Frame, Effect, begin, high, places, top}
use Rattle.ax_link.specs.Table.{Input, Set_up, Send, Arrive, Tick, Close, Take, step_at, arrive_in, arrive_down, takes}
use Rattle.ax_link.specs.Pair.{Core, core, Fits, IsNew, NoSetUps, after_ua, texts_of, acks_of}
use Rattle.ax_link.specs.Runs.{set_ups_in}
use Rattle.ax_link.proofs.Pairs.{pair_start, new_way}
use Rattle.ax_link.proofs.PairSteps.{NoArrival}
use Rattle.ax_link.proofs.RunStates.{NotUp, setting, IsSetUp, SetUpsOnly, Starting, Holds, only_count, only_more, empty, top_none, fits_left, fits_right}

-- ---- a call before any end is Up ----
pub record Early (l : State) (g : Effect) : Type 0 where
  pub phase : NotUp g.link.phase
  pub new : IsNew g.link
  pub rules : g.link.rules ≡ l.rules
  pub only : SetUpsOnly g.outs
  pub count : setting g.link.phase ≤ setting l.phase + length g.outs

pub early_new : (l : State) (g : Effect) → IsNew l → g.link.acked ≡ l.acked → g.link.sent ≡ l.sent → high g.link ≡ high l → IsNew g.link
early_new l g n a s h = record { acked = a ∙ n.acked; sent = s ∙ n.sent; high = h ∙ n.high }

-- nothing but what the law doesn't read changes
pub early_same : (l : State) (g : Effect) → NotUp l.phase → IsNew l → core g.link ≡ core l → g.link.phase ≡ l.phase → g.outs ≡ [] → Early l g
early_same l g u n e p o = record {
  phase = subst NotUp (sym p) u;
  new = early_new l g n (ap (λ (k : Core). k.acked) e) (ap (λ (k : Core). k.sent) e) (ap (λ (k : Core). length k.received + top k.early) e);
  rules = ap (λ (k : Core). k.rules) e;
  only = subst SetUpsOnly (sym o) tt;
  count = subst (λ k. setting k ≤ setting l.phase + length g.outs) (sym p) (omega arith);
}

pub early_down : (now : ℕ) (i : Input) (l : State) → IsNew l → NoArrival i → Early (record l { phase = Down }) (step_at now (record l { phase = Down }) i)
early_down now Set_up l n k = record { phase = tt; new = record { acked = refl; sent = refl; high = omega (arith, top_none (places l.rules)) }; rules = refl; only = (tt, tt); count = omega arith }
early_down now (Send x) l n k = early_same (record l { phase = Down }) (begin (record l { phase = Down })) tt (record { acked = n.acked; sent = n.sent; high = n.high }) refl refl refl
early_down now (Arrive f) l n k = absurd k
early_down now Tick l n k = early_same (record l { phase = Down }) (begin (record l { phase = Down })) tt (record { acked = n.acked; sent = n.sent; high = n.high }) refl refl refl
early_down now Close l n k = early_same (record l { phase = Down }) (begin (record l { phase = Down })) tt (record { acked = n.acked; sent = n.sent; high = n.high }) refl refl refl
early_down now Take l n k = early_same (record l { phase = Down }) (begin (record l { phase = Down; inbox = drop 1 l.inbox })) tt (record { acked = n.acked; sent = n.sent; high = n.high }) refl refl refl

pub early_tick : (c d : Bool) (now : ℕ) (l : State) → IsNew l →
    Early (record l { phase = SettingUp }) (if c then (if d then note Failed (to_phase now Down (begin (record l { phase = SettingUp }))) else emit_timed now true (SetUp true) (begin (record l { phase = SettingUp; tries = suc l.tries }))) else begin (record l { phase = SettingUp }))
early_tick true true now l n = record { phase = tt; new = record { acked = n.acked; sent = n.sent; high = n.high }; rules = refl; only = tt; count = omega arith }
early_tick true false now l n = record { phase = tt; new = record { acked = n.acked; sent = n.sent; high = n.high }; rules = refl; only = (tt, tt); count = omega arith }
early_tick false d now l n = record { phase = tt; new = record { acked = n.acked; sent = n.sent; high = n.high }; rules = refl; only = tt; count = omega arith }

pub early_send : (c : Bool) (now : ℕ) (x : Payload) (l : State) → IsNew l →
    Early (record l { phase = SettingUp }) (if c then fill now (begin (record l { phase = SettingUp; given = l.given ++ x ∷ [] })) else begin (record l { phase = SettingUp }))
early_send true now x l n = record { phase = tt; new = record { acked = n.acked; sent = omega (arith, n.sent); high = n.high }; rules = refl; only = tt; count = omega arith }
early_send false now x l n = record { phase = tt; new = record { acked = n.acked; sent = n.sent; high = n.high }; rules = refl; only = tt; count = omega arith }

pub early_setting : (now : ℕ) (i : Input) (l : State) → IsNew l → NoArrival i → Early (record l { phase = SettingUp }) (step_at now (record l { phase = SettingUp }) i)
early_setting now Set_up l n k = early_same (record l { phase = SettingUp }) (begin (record l { phase = SettingUp })) tt (record { acked = n.acked; sent = n.sent; high = n.high }) refl refl refl
early_setting now (Send x) l n k = early_send (takes (record l { phase = SettingUp })) now x l n
early_setting now (Arrive f) l n k = absurd k
early_setting now Tick l n k = early_tick (nat_le l.t1_at now) (nat_eq l.tries l.rules.retries) now l n
early_setting now Close l n k = early_same (record l { phase = SettingUp }) (begin (record l { phase = SettingUp; closing = true })) tt (record { acked = n.acked; sent = n.sent; high = n.high }) refl refl refl
early_setting now Take l n k = early_same (record l { phase = SettingUp }) (begin (record l { phase = SettingUp; inbox = drop 1 l.inbox })) tt (record { acked = n.acked; sent = n.sent; high = n.high }) refl refl refl

pub early_in : (ph : LinkPhase) (now : ℕ) (i : Input) (l : State) → NotUp ph → IsNew l → NoArrival i → Early (record l { phase = ph }) (step_at now (record l { phase = ph }) i)
early_in Down now i l u n k = early_down now i l n k
early_in SettingUp now i l u n k = early_setting now i l n k
early_in Up now i l u n k = absurd u
early_in Releasing now i l u n k = absurd u

pub starting_call : (now : ℕ) (i : Input) (l r : State) (tl tr : List Frame) (a b : ℕ) → NoArrival i → Starting l r tl tr a b →
    Starting (step_at now l i).link r tl (tr ++ (step_at now l i).outs) (a + set_ups_in (step_at now l i).outs) b
starting_call now i l r tl tr a b k s =
    let e : Early l (step_at now l i) = early_in l.phase now i l s.left_phase s.left_new k in
    let n : set_ups_in (step_at now l i).outs ≡ length (step_at now l i).outs = only_count (step_at now l i).outs e.only in
    record {
      left_phase = e.phase;
      right_phase = s.right_phase;
      left_new = e.new;
      right_new = s.right_new;
      rightward = fits_left (core l) (core (step_at now l i).link) (core r) e.rules s.rightward;
      leftward = fits_right (core r) (core l) (core (step_at now l i).link) e.rules s.leftward;
      left_only = s.left_only;
      right_only = only_more tr (step_at now l i).outs s.right_only e.only;
      left_setting = omega (arith, e.count, n, s.left_setting);
      right_setting = s.right_setting;
      left_coming = s.left_coming;
      right_coming = omega (arith, n, s.right_coming, length-append tr (step_at now l i).outs);
    }

-- ---- the set-up command arrives ----
pub one_opens : (pf : Bool) → ◌≤◌ (if pf then suc 0 else 0) 1
one_opens true = omega arith
one_opens false = omega arith

pub behind_opens : (pf : Bool) → after_ua (record { command = false; kind = Ua pf; payload = None } ∷ []) ≡ []
behind_opens true = refl
behind_opens false = refl

-- an end has just opened; nothing but its answer is under way
pub open_in : (ph : LinkPhase) (g : Effect) (pf : Bool) (r : State) (a b : ℕ) → r.phase ≡ ph → NotUp ph → g.link.phase ≡ Up → IsNew g.link → IsNew r →
    Fits (core g.link) (core r) → Fits (core r) (core g.link) → g.outs ≡ record { command = false; kind = Ua pf; payload = None } ∷ [] → 1 ≤ a + b → Holds g.link r [] g.outs a b
open_in Down g pf r a b e u v n m f h o t = inr (inr (inl (record {
  up = v;
  down = e;
  sound = record { out = new_way g.link r [] [] f n m refl refl; back = new_way r g.link [] [] h m n refl refl };
  left_coming = tt;
  right_coming = subst NoSetUps (sym o) (tt, tt);
  set_ups = t;
})))
open_in SettingUp g pf r a b e u v n m f h o t =
    subst (λ q. Holds g.link r [] q a b) (sym o) (inr (inl (record {
      sound = pair_start g.link r [] (record { command = false; kind = Ua pf; payload = None } ∷ []) v e f h n m (one_opens pf) (ap texts_of (behind_opens pf)) (ap acks_of (behind_opens pf)) refl refl;
      left_coming = tt;
      right_coming = (tt, tt);
      set_ups = t;
    })))
open_in Up g pf r a b e u v n m f h o t = absurd u
open_in Releasing g pf r a b e u v n m f h o t = absurd u

pub opening : (now : ℕ) (command pf : Bool) (l r : State) (a b : ℕ) → NotUp r.phase → IsNew r → Fits (core l) (core r) → Fits (core r) (core l) → 1 ≤ a + b →
    Holds (arrive_down now command (SetUp pf) (begin l)).link r [] (arrive_down now command (SetUp pf) (begin l)).outs a b
opening now command pf l r a b u m f h t =
    open_in r.phase (arrive_down now command (SetUp pf) (begin l)) pf r a b refl u refl (record { acked = refl; sent = refl; high = omega (arith, top_none (places l.rules)) }) m
    (fits_left (core l) (core (arrive_down now command (SetUp pf) (begin l)).link) (core r) refl f)
    (fits_right (core r) (core l) (core (arrive_down now command (SetUp pf) (begin l)).link) refl h) refl t

pub arrival_in : (ph : LinkPhase) (c : Kind) (command : Bool) (p : Option Payload) (now : ℕ) (l r : State) (a b : ℕ) → IsSetUp c → NotUp ph → setting ph ≤ 0 → NotUp r.phase → IsNew r → Fits (core l) (core r) → Fits (core r) (core l) → 1 ≤ a + b →
    Holds (arrive_in ph now (record { command = command; kind = c; payload = p }) (begin l)).link r [] (arrive_in ph now (record { command = command; kind = c; payload = p }) (begin l)).outs a b
arrival_in Up c command p now l r a b k v z u m f h t = absurd v
arrival_in Releasing c command p now l r a b k v z u m f h t = absurd v
arrival_in SettingUp c command p now l r a b k v z u m f h t = absurd (omega (arith, z))
arrival_in Down (SetUp pf) command p now l r a b k v z u m f h t = opening now command pf l r a b u m f h t
arrival_in Down (I ns nr pf) command p now l r a b k v z u m f h t = absurd k
arrival_in Down (Rr nr pf) command p now l r a b k v z u m f h t = absurd k
arrival_in Down (Rnr nr pf) command p now l r a b k v z u m f h t = absurd k
arrival_in Down (Rej nr pf) command p now l r a b k v z u m f h t = absurd k
arrival_in Down (Srej nr pf) command p now l r a b k v z u m f h t = absurd k
arrival_in Down (OtherSetUp pf) command p now l r a b k v z u m f h t = absurd k
arrival_in Down (Disc pf) command p now l r a b k v z u m f h t = absurd k
arrival_in Down (Dm pf) command p now l r a b k v z u m f h t = absurd k
arrival_in Down (Ua pf) command p now l r a b k v z u m f h t = absurd k
arrival_in Down (Frmr pf) command p now l r a b k v z u m f h t = absurd k
arrival_in Down (Xid pf) command p now l r a b k v z u m f h t = absurd k
arrival_in Down Other command p now l r a b k v z u m f h t = absurd k

pub starting_arrival : (now : ℕ) (f : Frame) (l r : State) (tl tr : List Frame) (a b s : ℕ) → (a + s) + b ≤ 1 → Starting l r (f ∷ tl) tr a b →
    Holds (step_at now l (Arrive f)).link r tl (tr ++ (step_at now l (Arrive f)).outs) (a + s) b
starting_arrival now f l r tl tr a b s c w =
    let x : tl ≡ [] = empty tl (omega (arith, w.left_coming, c)) in
    let y : tr ≡ [] = empty tr (omega (arith, w.left_coming, w.right_coming, c)) in
    let h : Holds (step_at now l (Arrive f)).link r [] (step_at now l (Arrive f)).outs (a + s) b =
    arrival_in l.phase f.kind f.command f.payload now (record l { last_arrival = now }) r (a + s) b w.left_only.0 w.left_phase (omega (arith, w.left_setting, w.left_coming, c)) w.right_phase w.right_new
    (fits_left (core l) (core (record l { last_arrival = now })) (core r) refl w.rightward) (fits_right (core r) (core l) (core (record l { last_arrival = now })) refl w.leftward) (omega (arith, w.left_coming)) in
    subst (λ q. Holds (step_at now l (Arrive f)).link r q (tr ++ (step_at now l (Arrive f)).outs) (a + s) b) (sym x)
    (subst (λ q. Holds (step_at now l (Arrive f)).link r [] (q ++ (step_at now l (Arrive f)).outs) (a + s) b) (sym y) h)
