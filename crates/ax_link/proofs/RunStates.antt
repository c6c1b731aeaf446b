-- What holds at each moment of a clean run: one of four states of the two ends.
use Rattle.std.proofs.Common.{◌≡◌, ℕ, zero, suc, ◌+◌, ◌≤◌, ◌<◌, IsTrue, true, if◌then◌else◌, List, [], ◌∷◌, ◌++◌, length, replicate, None, refl, ap, sym, subst, arith, ◌⊎◌, nat_eq}
use Rattle.ax_link.specs.declared.kind.Kind.{Kind}
use Rattle.ax_link.specs.declared.kind.Kind.TheVariants.{I, Rr, Rnr, Rej, Srej, Disc, Dm, Ua, Frmr, SetUp, OtherSetUp, Xid, Other}
use Rattle.ax_link.specs.declared.phase.LinkPhase.{LinkPhase}
use Rattle.ax_link.specs.declared.phase.LinkPhase.TheVariants.{Down, SettingUp, Up, Releasing}
use Rattle.ax_link.specs.State.{State, Frame, Effect, top}
use Rattle.ax_link.specs.Pair.{Both, Core, core, Fits, IsNew, PairSound, NoSetUp, NoSetUps}
use Rattle.ax_link.specs.Runs.{set_ups_in, sets_up, told_opened}

-- ---- a run before any end is Up ----
abbrev pub NotUp : LinkPhase → Type 0
NotUp Down = Unit {0}
NotUp SettingUp = Unit {0}
NotUp Up = ⊥
NotUp Releasing = ⊥

abbrev pub setting : LinkPhase → ℕ
setting SettingUp = 1
setting Down = 0
setting Up = 0
setting Releasing = 0

abbrev pub IsSetUp : Kind → Type 0
IsSetUp (SetUp pf) = Unit {0}
IsSetUp _ = ⊥

abbrev pub SetUpsOnly : List Frame → Type 0
SetUpsOnly [] = Unit {0}
SetUpsOnly (f ∷ fs) = IsSetUp f.kind × SetUpsOnly fs

-- no end is Up, both are new, and nothing but set-up commands is under way; a and b are how many each end put out
pub record Starting (l r : State) (tl tr : List Frame) (a b : ℕ) : Type 0 where
  pub left_phase : NotUp l.phase
  pub right_phase : NotUp r.phase
  pub left_new : IsNew l
  pub right_new : IsNew r
  pub rightward : Fits (core l) (core r)
  pub leftward : Fits (core r) (core l)
  pub left_only : SetUpsOnly tl
  pub right_only : SetUpsOnly tr
  pub left_setting : setting l.phase ≤ a
  pub right_setting : setting r.phase ≤ b
  pub left_coming : length tl ≤ b
  pub right_coming : length tr ≤ a

-- both ends take part
pub record Joint (l r : State) (tl tr : List Frame) (a b : ℕ) : Type 0 where
  pub sound : PairSound l r tl tr
  pub left_coming : NoSetUps tl
  pub right_coming : NoSetUps tr
  pub set_ups : 1 ≤ a + b

-- the left end is Up, and the right one has given up setting up
pub record Lonely (l r : State) (tl tr : List Frame) (a b : ℕ) : Type 0 where
  pub up : l.phase ≡ Up
  pub down : r.phase ≡ Down
  pub sound : Both (core l) (core r) tl []
  pub left_coming : NoSetUps tl
  pub right_coming : NoSetUps tr
  pub set_ups : 1 ≤ a + b

abbrev pub Holds : State → State → List Frame → List Frame → ℕ → ℕ → Type 0
Holds l r tl tr a b = Starting l r tl tr a b ⊎ (Joint l r tl tr a b ⊎ (Lonely l r tl tr a b ⊎ Lonely r l tr tl b a))

-- what a clean step keeps
pub record Kept (l : State) (g : Effect) : Type 0 where
  pub up : l.phase ≡ Up → g.link.phase ≡ Up
  pub told : told_opened g.notes ≡ true → g.link.phase ≡ Up

-- ---- lists of frames ----
pub only_count_by : (c : Kind) (fs : List Frame) → IsSetUp c → set_ups_in fs ≡ length fs → (if sets_up c then suc (set_ups_in fs) else set_ups_in fs) ≡ suc (length fs)
only_count_by (SetUp pf) fs o e = ap suc e
only_count_by (I ns nr pf) fs o e = absurd o
only_count_by (Rr nr pf) fs o e = absurd o
only_count_by (Rnr nr pf) fs o e = absurd o
only_count_by (Rej nr pf) fs o e = absurd o
only_count_by (Srej nr pf) fs o e = absurd o
only_count_by (OtherSetUp pf) fs o e = absurd o
only_count_by (Disc pf) fs o e = absurd o
only_count_by (Dm pf) fs o e = absurd o
only_count_by (Ua pf) fs o e = absurd o
only_count_by (Frmr pf) fs o e = absurd o
only_count_by (Xid pf) fs o e = absurd o
only_count_by Other fs o e = absurd o

pub only_count : (fs : List Frame) → SetUpsOnly fs → set_ups_in fs ≡ length fs
only_count [] o = refl
only_count (f ∷ fs) o = only_count_by f.kind fs o.0 (only_count fs o.1)

pub only_more : (xs ys : List Frame) → SetUpsOnly xs → SetUpsOnly ys → SetUpsOnly (xs ++ ys)
only_more [] ys x y = y
only_more (f ∷ xs) ys x y = (x.0, only_more xs ys x.1 y)

pub none_more : (xs ys : List Frame) → NoSetUps xs → NoSetUps ys → NoSetUps (xs ++ ys)
none_more [] ys x y = y
none_more (f ∷ xs) ys x y = (x.0, none_more xs ys x.1 y)

pub none_of_by : (c : Kind) (n : ℕ) → (if sets_up c then suc n else n) ≡ 0 → NoSetUp c × (n ≡ 0)
none_of_by (SetUp pf) n e = absurd (omega (arith, e))
none_of_by (I ns nr pf) n e = (tt, e)
none_of_by (Rr nr pf) n e = (tt, e)
none_of_by (Rnr nr pf) n e = (tt, e)
none_of_by (Rej nr pf) n e = (tt, e)
none_of_by (Srej nr pf) n e = (tt, e)
none_of_by (OtherSetUp pf) n e = (tt, e)
none_of_by (Disc pf) n e = (tt, e)
none_of_by (Dm pf) n e = (tt, e)
none_of_by (Ua pf) n e = (tt, e)
none_of_by (Frmr pf) n e = (tt, e)
none_of_by (Xid pf) n e = (tt, e)
none_of_by Other n e = (tt, e)

pub none_of : (fs : List Frame) → set_ups_in fs ≡ 0 → NoSetUps fs
none_of [] e = tt
none_of (f ∷ fs) e = let h = none_of_by f.kind (set_ups_in fs) e in (h.0, none_of fs h.1)

pub empty : (fs : List Frame) → length fs ≤ 0 → fs ≡ []
empty [] l = refl
empty (f ∷ fs) l = absurd (omega (arith, l))

pub top_none : (n : ℕ) → top (replicate n None) ≡ 0
top_none zero = refl
top_none (suc n) = ap (λ t. if nat_eq t 0 then 0 else suc t) (top_none n)

-- rules are all that Fits reads
pub fits_left : (a a2 b : Core) → a2.rules ≡ a.rules → Fits a b → Fits a2 b
fits_left a a2 b e f = record {
  size = subst (λ k. b.rules.size ≡ k.size) (sym e) f.size;
  window = subst (λ k. k.window < k.size) (sym e) f.window;
  both = subst (λ k. IsTrue b.rules.srej → k.window + b.rules.window ≤ k.size) (sym e) f.both;
}

pub fits_right : (a b b2 : Core) → b2.rules ≡ b.rules → Fits a b → Fits a b2
fits_right a b b2 e f = record {
  size = subst (λ k. k.size ≡ a.rules.size) (sym e) f.size;
  window = f.window;
  both = subst (λ k. IsTrue k.srej → a.rules.window + k.window ≤ a.rules.size) (sym e) f.both;
}
