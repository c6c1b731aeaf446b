-- What becomes of the ends as one of them makes a step, in plain words; and what two ends of a life are known to be.
use Rattle.std.proofs.Common.{◌≡◌, ◌⊎◌, inl, inr, ◌≤◌, ◌<◌, ◌*◌, ℕ, suc, Bool, true, false, not, ◌&&◌, if◌then◌else◌, List, [], ◌∷◌, ◌++◌, length, Option, Some, None, refl, ap, sym, ◌∙◌, subst, arith}
use Rattle.std.specs.List.{AllByRecursion}
use Rattle.ax_link.specs.declared.kind.Kind.{Kind}
use Rattle.ax_link.specs.declared.kind.Kind.TheVariants as kind
use Rattle.ax_link.specs.declared.phase.LinkPhase.{LinkPhase}
use Rattle.ax_link.specs.declared.phase.LinkPhase.TheVariants.{Down, SettingUp, Up, Releasing}
use Rattle.ax_link.specs.Bounds.{Bounded, stock}
use Rattle.ax_link.specs.Laws.{may_go_out}
use Rattle.ax_link.specs.Opening.{opening}
use Rattle.ax_link.specs.Pair.{Fits, IsNew, core, opens}
use Rattle.ax_link.specs.Runs.{sets_up}
use Rattle.ax_link.specs.State.{Effect, Frame, Rules, State}
use Rattle.ax_link.specs.Table.{Input, step}
use Rattle.link_life.specs.Ends.{End, Ends, Flight, any_begins, epochs, flights, go_down, is_down, is_of_account, lasting, number, step_near}
use Rattle.link_life.specs.Laws.{AllInTime}
use Rattle.link_life.specs.Lives.{pause}
use Rattle.link_life.proofs.Beginning.{Asker}
use Rattle.link_life.proofs.Cases.{answers, answers_in, asked_by, asks, goes_out}
use Rattle.link_life.proofs.Conversing.{Off, more_coming}
use Rattle.link_life.proofs.Dates.{Asking, Dated, account_asks, count_one, none_counted, opens_answers, sets_account}
use Rattle.link_life.proofs.Sounding.{behind_all, hears_none}
use Rattle.link_life.proofs.Talks.{Apart, Hears, IsNext, IsUp, NoneIn, Part, Stand, Talk, behind_ua}

-- ---- a step of the near end

abbrev stepped : Bool → Bool → Rules → ℕ → Effect → End → End
stepped begin down rules now g e =
    let after : End = record (if begin then record e { over = epochs e; heard = Some [] } else e) { link = g.link } in
    if down then go_down rules now after else after

abbrev both_after : Bool → Bool → Rules → ℕ → Effect → End → End → Ends
both_after begin down rules now g x y =
    record { near = stepped begin down rules now g x; far = more_coming y (flights now (number (stepped begin false rules now g x)) g.outs) }

split : (rules : Rules) (now : ℕ) (g : Effect) (x y : End) (begin down : Bool) → any_begins g.notes ≡ begin → (not (is_down x.link.phase) && is_down g.link.phase) ≡ down →
    step_near rules now g (record { near = x; far = y }) ≡ both_after begin down rules now g x y
split rules now g x y begin down e q =
    ap (λ b. both_after b (not (is_down x.link.phase) && is_down g.link.phase) rules now g x y) e ∙ ap (λ b. both_after begin b rules now g x y) q

-- no epoch begins, and it doesn't go Down
pub near_stays : (rules : Rules) (now : ℕ) (g : Effect) (x y : End) → any_begins g.notes ≡ false → (not (is_down x.link.phase) && is_down g.link.phase) ≡ false →
    step_near rules now g (record { near = x; far = y }) ≡ record { near = record x { link = g.link }; far = more_coming y (flights now (number x) g.outs) }
near_stays rules now g x y e q = split rules now g x y false false e q

-- one begins
pub near_begins : (rules : Rules) (now : ℕ) (g : Effect) (x y : End) → any_begins g.notes ≡ true → (not (is_down x.link.phase) && is_down g.link.phase) ≡ false →
    step_near rules now g (record { near = x; far = y })
    ≡ record { near = record x { link = g.link; over = epochs x; heard = Some [] }; far = more_coming y (flights now (suc (length (epochs x))) g.outs) }
near_begins rules now g x y e q = split rules now g x y true false e q

abbrev pub ended : Rules → ℕ → State → End → End
ended rules now l x = record x { link = opening rules; over = x.over ++ lasting l x.heard; heard = None; down_since = Some now }

-- it goes Down
pub near_ends : (rules : Rules) (now : ℕ) (g : Effect) (x y : End) → any_begins g.notes ≡ false → (not (is_down x.link.phase) && is_down g.link.phase) ≡ true →
    step_near rules now g (record { near = x; far = y }) ≡ record { near = ended rules now g.link x; far = more_coming y (flights now (number x) g.outs) }
near_ends rules now g x y e q = split rules now g x y false true e q

pub down_test : (a b a2 b2 : LinkPhase) → a ≡ a2 → b ≡ b2 → (not (is_down a) && is_down b) ≡ (not (is_down a2) && is_down b2)
down_test a b a2 b2 e q = ap (λ ph. not (is_down ph) && is_down b) e ∙ ap (λ ph. not (is_down a2) && is_down ph) q

-- ---- what two ends are known to be

-- an epoch lasts while an end is Up or Releasing
abbrev pub Lasts : LinkPhase → Option (List ℕ) → Type 0
Lasts Down heard = heard ≡ None
Lasts SettingUp heard = heard ≡ None
Lasts Up heard = (h : List ℕ) × (heard ≡ Some h)
Lasts Releasing heard = (h : List ℕ) × (heard ≡ Some h)

pub record EndFine (set : Rules) (e : End) : Type 0 where
  pub rules : e.link.rules ≡ set
  pub bounded : Bounded (stock e.link)
  pub lasts : Lasts e.link.phase e.heard
  pub new : e.link.phase ≡ SettingUp → IsNew e.link
  pub kinds : AllByRecursion (λ f. goes_out f.frame.kind ≡ true) e.coming

abbrev pub DatedEnd : ℕ → ℕ → End → List Flight → Type 0
DatedEnd now delay e going = Dated e.link.phase e.link.t1_at e.down_since now delay e.coming going

pub record Sound (set : Rules) (now delay : ℕ) (p : Ends) : Type 0 where
  pub near : EndFine set p.near
  pub far : EndFine set p.far
  pub near_time : AllInTime now delay p.near.coming
  pub far_time : AllInTime now delay p.far.coming
  pub near_dates : DatedEnd now delay p.near p.far.coming
  pub far_dates : DatedEnd now delay p.far p.near.coming
  pub talk : Talk p.near p.far

-- so after a step of the near end, where this is still under way to it and its epoch has heard this
abbrev pub SoundAfter : Rules → ℕ → ℕ → Effect → End → List Flight → Option (List ℕ) → End → Type 0
SoundAfter set now delay g x rest heard y =
    Sound set now delay (step_near set now g (record { near = record x { coming = rest; heard = heard }; far = y }))

-- what is known of the effect of a step
pub record Stepped (set : Rules) (now : ℕ) (x : End) (i : Input) (g : Effect) : Type 0 where
  pub is : g ≡ step x.link i now
  pub rules : g.link.rules ≡ set
  pub bounded : Bounded (stock g.link)
  pub kinds : AllByRecursion (λ f. may_go_out x.link.phase f.kind ≡ true) g.outs
  pub few : answers_in g.outs ≤ asked_by i

-- the settings of the life
pub record Settled (set : Rules) (delay : ℕ) : Type 0 where
  pub fits : Fits (core (opening set)) (core (opening set))
  pub bounded : Bounded (stock (opening set))
  pub t1 : set.t1 ≡ pause
  pub short : 2 * delay < pause

-- ---- what follows from the phases

pub off_of : (x : End) (p : Part) (h : List ℕ) → Stand x p h → (x.link.phase ≡ Up → ⊥) → (x.link.phase ≡ SettingUp → ⊥) → Off x p h
off_of x p h (inl s) a b = absurd (a s.phase)
off_of x p h (inr (inl s)) a b = absurd (b s.phase)
off_of x p h (inr (inr s)) a b = s

pub next_or_off : (x : End) (p : Part) (h : List ℕ) → Stand x p h → x.link.phase ≡ SettingUp → IsNext x p h ⊎ Off x p h
next_or_off x p h (inl s) u = let v = s.phase in absurd (cc (u, v))
next_or_off x p h (inr s) u = s

pub apart_of : (x : End) (p : Part) (h : List ℕ) → Off x p h → Apart x
apart_of x p h (inl s) = s.apart
apart_of x p h (inr s) = s.apart

pub up_of : (x : End) (p : Part) (h : List ℕ) → Stand x p h → x.link.phase ≡ Up → IsUp x p
up_of x p h (inl s) u = s
up_of x p h (inr (inl s)) u = let v = s.phase in absurd (cc (u, v))
up_of x p h (inr (inr (inl s))) u = absurd (s.apart.up u)
up_of x p h (inr (inr (inr s))) u = absurd (s.apart.up u)

-- from an end that is being set up no frame of account is under way
quiet_from : (since : ℕ) (fs : List Flight) → AllByRecursion (λ f. asks f.frame.kind ≡ true → (sets_up f.frame.kind ≡ true) × (f.sent ≤ since)) fs → NoneIn is_of_account fs
quiet_from since [] a = tt
quiet_from since (f ∷ fs) a = (by (asks f.frame.kind) refl, quiet_from since fs a.1)
  where
    by : (b : Bool) → asks f.frame.kind ≡ b → is_of_account f.frame.kind ≡ false
    by true e = sets_account f.frame.kind (a.0 e).0
    by false e = account_asks f.frame.kind e

pub asking_of : (now delay : ℕ) (y : End) (going : List Flight) → y.link.phase ≡ SettingUp → DatedEnd now delay y going → Asking y.link.t1_at now delay y.coming going
asking_of now delay y going u d = subst (λ ph. Dated ph y.link.t1_at y.down_since now delay y.coming going) u d

pub quiet_going : (now delay : ℕ) (y : End) (going : List Flight) → y.link.phase ≡ SettingUp → DatedEnd now delay y going → NoneIn is_of_account going
quiet_going now delay y going u d = let a = asking_of now delay y going u d in quiet_from a.since going a.asked

-- so nothing of account is left for the other end to hear
pub far_quiet : (k : ℕ) (y : End) (q : Part) (h : List ℕ) → NoneIn is_of_account y.coming → Stand y q h → Hears k q.hears
far_quiet k y q h n (inl s) = subst (Hears k) (sym s.hears) (hears_none k y.coming n)
far_quiet k y q h n (inr (inl s)) = subst (Hears k) (sym s.hears) (hears_none k (behind_ua y.coming) (behind_all (λ f. is_of_account f.frame.kind ≡ false) y.coming n))
far_quiet k y q h n (inr (inr (inl s))) = subst (Hears k) (sym s.hears) tt
far_quiet k y q h n (inr (inr (inr s))) = subst (Hears k) (sym s.hears) tt

-- a set-up command comes from an end that is being set up
sets_from : (ph : LinkPhase) (t1 now delay : ℕ) (since : Option ℕ) (f : Flight) (coming rest : List Flight) → sets_up f.frame.kind ≡ true → Dated ph t1 since now delay coming (f ∷ rest) → ph ≡ SettingUp
sets_from Down t1 now delay since f coming rest e d = let n = d.0.0 in absurd (cc (n, e))
sets_from SettingUp t1 now delay since f coming rest e d = refl
sets_from Up t1 now delay since f coming rest e d = let n = d.0 in absurd (cc (n, e))
sets_from Releasing t1 now delay since f coming rest e d = let n = d.0 in absurd (cc (n, e))

pub none_opens : (fs : List Flight) → NoneIn answers fs → NoneIn opens fs
none_opens [] a = tt
none_opens (f ∷ fs) a = (by (opens f.frame.kind) refl, none_opens fs a.1)
  where
    by : (b : Bool) → opens f.frame.kind ≡ b → opens f.frame.kind ≡ false
    by true e = let n = a.0 in let m = opens_answers f.frame.kind e in absurd (cc (n, m))
    by false e = e

pub asker : (set : Rules) (now delay : ℕ) (y : End) (f : Flight) (rest : List Flight) → EndFine set y → sets_up f.frame.kind ≡ true → DatedEnd now delay y (f ∷ rest) → Asker set y
asker set now delay y f rest e s d =
    let u : y.link.phase ≡ SettingUp = sets_from y.link.phase y.link.t1_at now delay y.down_since f y.coming rest s d in
    let a = asking_of now delay y (f ∷ rest) u d in
    let few = a.few in
    let one = count_one sets_up f rest s in
    record {
      phase = u;
      lasts = subst (λ ph. Lasts ph y.heard) u e.lasts;
      new = e.new u;
      rules = e.rules;
      unopened = none_opens y.coming (none_counted answers y.coming (omega (arith, few, one)));
    }

-- ---- kinds that go out

goes_by : (ph : LinkPhase) (k : Kind) → may_go_out ph k ≡ true → goes_out k ≡ true
goes_by Down (kind.SetUp pf) e = refl
goes_by Down (kind.Ua pf) e = refl
goes_by Down (kind.Dm pf) e = refl
goes_by Down _ e = absurd (cc e)
goes_by SettingUp (kind.SetUp pf) e = refl
goes_by SettingUp (kind.Ua pf) e = refl
goes_by SettingUp (kind.Dm pf) e = refl
goes_by SettingUp (kind.I ns nr pf) e = refl
goes_by SettingUp (kind.Disc pf) e = refl
goes_by SettingUp _ e = absurd (cc e)
goes_by Up (kind.OtherSetUp pf) e = absurd (cc e)
goes_by Up (kind.Frmr pf) e = absurd (cc e)
goes_by Up (kind.Xid pf) e = absurd (cc e)
goes_by Up kind.Other e = absurd (cc e)
goes_by Up _ e = refl
goes_by Releasing (kind.Ua pf) e = refl
goes_by Releasing (kind.Dm pf) e = refl
goes_by Releasing (kind.Disc pf) e = refl
goes_by Releasing _ e = absurd (cc e)

pub all_go_out : (ph : LinkPhase) (now epoch : ℕ) (fs : List Frame) → AllByRecursion (λ f. may_go_out ph f.kind ≡ true) fs → AllByRecursion (λ f. goes_out f.frame.kind ≡ true) (flights now epoch fs)
all_go_out ph now epoch [] a = tt
all_go_out ph now epoch (f ∷ fs) a = (goes_by ph f.kind a.0, all_go_out ph now epoch fs a.1)
