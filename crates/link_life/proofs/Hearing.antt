-- Each step of the near end leaves what is known of the two ends.
use Rattle.std.proofs.Common.{◌≡◌, ◌⊎◌, inl, inr, ◌≤◌, min, ℕ, true, false, List, [], ◌∷◌, ◌++◌, length, Option, Some, refl, ap, sym, ◌∙◌, subst, arith, length-append}
use Rattle.std.specs.List.{AllByRecursion}
use Rattle.radio_base.proofs.Each.{each_append}
use Rattle.ax_link.specs.declared.phase.LinkPhase.TheVariants.{SettingUp, Up}
use Rattle.ax_link.specs.Pair.{NoRestartIn, core, opens}
use Rattle.ax_link.specs.Runs.{sets_up}
use Rattle.ax_link.specs.State.{Frame, Rules, count_end}
use Rattle.ax_link.specs.Table.{Input, Arrive, Set_up, Send, Tick, Close, Take, step}
use Rattle.ax_link.proofs.PairSteps.{NoArrival}
use Rattle.link_life.specs.Ends.{End, Flight, heard_more, is_of_account}
use Rattle.link_life.specs.Laws.{IsFrom}
use Rattle.link_life.specs.Lives.{is_early}
use Rattle.link_life.proofs.Beginning.{heard_one}
use Rattle.link_life.proofs.Cases as cases
use Rattle.link_life.proofs.Cases.{Case, IsFresh, MayCome, NoneOf, OpensOnlyAsked, StaysUnopened, answers, asks, step_is}
use Rattle.link_life.proofs.Dates.{Taken, first_same, sets_account}
use Rattle.link_life.proofs.Known.{Known}
use Rattle.link_life.proofs.Leaving.{comes_on, ends_on, fails_on, idles_on, leaves_on, restart_sets, up_on}
use Rattle.link_life.proofs.Stepping.{begins_on, came, crosses_on, opens_asked, rests_on, retries_on, starts_on, waits_on}
use Rattle.link_life.proofs.Talks.{IsUp, NoneIn, OfEpoch, Stand}
use Rattle.link_life.proofs.Turning.{Settled, Sound, SoundAfter, Stepped, quiet_going, up_of}
use Rattle.link_life.proofs.Untouched.{NotHeard, fresh_stays}

-- no frame of account comes
abbrev pub NotAccount : Input → Type 0
NotAccount (Arrive f) = is_of_account f.kind ≡ false
NotAccount _ = Unit {0}

-- the epoch that lasts hears nothing, or the frame of account that comes to an end that is Up
abbrev pub Hearing : End → Input → List Flight → Option (List ℕ) → Type 0
Hearing x i rest heard =
    ((x.link.phase ≡ Up → NotAccount i) × (heard ≡ x.heard))
    ⊎ ((f : Flight) × (x.coming ≡ f ∷ rest) × (x.link.phase ≡ Up) × (is_of_account f.frame.kind ≡ true) × (heard ≡ heard_more f.epoch x.heard))

-- what the near end takes: the call or the frame, what is still under way to it, and what its epoch has heard then
pub record Takes (x : End) (i : Input) (now : ℕ) (rest : List Flight) (heard : Option (List ℕ)) : Type 0 where
  pub taken : Taken i x.coming rest
  pub may : MayCome i
  pub early : i ≡ Set_up → is_early x.down_since now ≡ false
  pub hears : Hearing x i rest heard

-- the flight of a frame that came
record Arrived (coming rest : List Flight) (i : Input) (frame : Frame) : Type 0 where
  flight : Flight
  is : i ≡ Arrive flight.frame
  first : coming ≡ flight ∷ rest
  same : flight.frame ≡ frame

arrived : (i : Input) (coming rest : List Flight) (f : Frame) → i ≡ Arrive f → Taken i coming rest → Arrived coming rest i f
arrived i coming rest f e (inl t) = let n : ⊥ = subst NoArrival e t.0 in absurd n
arrived i coming rest f e (inr t) = record { flight = t.0; is = t.1; first = t.2; same = frame_same t.0.frame f (sym t.1 ∙ e) }
  where
    frame_same : (a b : Frame) → Arrive a ≡ Arrive b → a ≡ b
    frame_same a b q = cc q

not_heard : (i : Input) → MayCome i → NotAccount i → NoRestartIn i → NotHeard i
not_heard Set_up m a n = tt
not_heard (Send p) m a n = tt
not_heard (Arrive f) m a n = (m, a, restart_sets f.kind n)
not_heard Tick m a n = tt
not_heard Close m a n = tt
not_heard Take m a n = tt

-- it asked, but not by a set-up command
no_other : (coming rest : List Flight) (i : Input) (fr : Frame) → Arrived coming rest i fr → sets_up fr.kind ≡ false → (f : Flight) → coming ≡ f ∷ rest → asks f.frame.kind ≡ true → sets_up f.frame.kind ≡ true → ⊥
no_other coming rest i fr a z f e q w =
    let same : f ≡ a.flight = first_same f a.flight rest (sym e ∙ a.first) in
    let y : sets_up f.frame.kind ≡ false = ap (λ (g : Flight). sets_up g.frame.kind) same ∙ (ap (λ (g : Frame). sets_up g.kind) a.same ∙ z) in
    absurd (cc (w, y))

module _ (known : Known) (set : Rules) (now delay : ℕ) (settled : Settled set delay) (x y : End) (s : Sound set now delay (record { near = x; far = y })) (i : Input) (rest : List Flight) (taken : Taken i x.coming rest) (may : MayCome i) where
  stepped : Stepped set now x i (step x.link i now)
  stepped =
      record {
        is = refl;
        rules = known.settings x.link i now ∙ s.near.rules;
        bounded = known.bounds x.link i now s.near.bounded;
        kinds = known.kinds x.link i now s.near.bounded;
        few = (step_is known x.link i now may).few;
      }

  is_up : x.link.phase ≡ Up → IsUp x s.talk.near
  is_up u = up_of x s.talk.near s.talk.far.heard s.talk.one.stand u

  fresh : (n : NotAccount i) → NoRestartIn i → (u : x.link.phase ≡ Up) → s.talk.near.heard ≡ [] → IsFresh (core (step x.link i now).link)
  fresh n r u e = fresh_stays x.link i now u (not_heard i may n r) (subst IsFresh (is_up u).core (s.talk.one.alone e))

  -- with what the epoch has heard so far
  as_heard : x.link.phase ≡ Up → SoundAfter set now delay (step x.link i now) x rest (Some s.talk.near.heard) y →
      SoundAfter set now delay (step x.link i now) x rest x.heard y
  as_heard u d = subst (λ h. SoundAfter set now delay (step x.link i now) x rest h y) (sym (is_up u).lasts) d

  opens_none : OpensOnlyAsked i (step x.link i now).outs → y.link.phase ≡ SettingUp → NoneOf opens (step x.link i now).outs
  opens_none (inl n) u = n
  opens_none (inr a) u =
      opens_asked now delay y x.coming rest (step x.link i now).outs (no_other x.coming rest i a.0 (arrived i x.coming rest a.0 a.1 taken) a.3)
      (came known set now delay settled x y s i rest taken (step x.link i now) stepped) s.far_dates u

  quiet : (x.link.phase ≡ Up → NotAccount i) → (i ≡ Set_up → is_early x.down_since now ≡ false) → Case x.link i now (step x.link i now) →
      SoundAfter set now delay (step x.link i now) x rest x.heard y
  quiet n early (cases.rests u v e q o) = rests_on known set now delay settled x y s i rest taken (step x.link i now) stepped u v e q o
  quiet n early (cases.starts u v e q o w t) = starts_on known set now delay settled x y s i rest taken (step x.link i now) stepped u v e (early q) o w t
  quiet n early (cases.begins f pf p v e q z o w) =
      let a = arrived i x.coming rest f q taken in
      begins_on known set now delay settled x y s i rest taken (step x.link i now) stepped a.flight pf p v e a.first (ap (λ (g : Frame). sets_up g.kind) a.same ∙ z) o w
  quiet n early (cases.waits u v e w q o t m k) = waits_on known set now delay settled x y s i rest taken (step x.link i now) stepped u v e w q o t m k
  quiet n early (cases.crosses f pf u v e q z o t m) =
      let a = arrived i x.coming rest f q taken in
      crosses_on known set now delay settled x y s i rest taken (step x.link i now) stepped a.flight pf u v e a.first (ap (λ (g : Frame). sets_up g.kind) a.same ∙ z) o t m
  quiet n early (cases.retries u v e q l o t k) = retries_on known set now delay settled x y s i rest taken (step x.link i now) stepped u v e (subst StaysUnopened (sym q) tt) l o t k
  quiet n early (cases.fails u v e o w) = fails_on known set now delay settled x y s i rest taken (step x.link i now) stepped u v e o (by w)
    where
      by : ((i ≡ Tick) × (x.link.t1_at ≤ min now count_end)) ⊎ ((f : Frame) × (i ≡ Arrive f) × (answers f.kind ≡ true)) →
          ((i ≡ Tick) × (x.link.t1_at ≤ min now count_end)) ⊎ ((f : Flight) × (x.coming ≡ f ∷ rest) × (answers f.frame.kind ≡ true))
      by (inl t) = inl t
      by (inr a) = let b = arrived i x.coming rest a.0 a.1 taken in inr (b.flight, b.first, ap (λ (g : Frame). answers g.kind) b.same ∙ a.2)
  quiet n early (cases.comes_up f u e q k on w) =
      let a = arrived i x.coming rest f q taken in
      comes_on known set now delay settled x y s i rest taken (step x.link i now) stepped a.flight u e a.is a.first (ap (λ (g : Frame). g.kind) a.same ∙ k) on w
  quiet n early (cases.goes_on u e r on) =
      as_heard u (up_on known set now delay settled x y s i rest taken (step x.link i now) stepped s.talk.near.heard u s.talk.two.stand s.talk.one.heard (fresh (n u) r u) e r on)
  quiet n early (cases.leaves u v e r q) =
      as_heard u (leaves_on known set now delay settled x y s i rest taken (step x.link i now) stepped s.talk.near.heard u s.talk.two.stand s.talk.one.heard (fresh (n u) r u) v e r q)
  quiet n early (cases.idles u v e c m q o) = idles_on known set now delay settled x y s i rest taken (step x.link i now) stepped u v e c m q (opens_none o)
  quiet n early (cases.ends u v e c o) = ends_on known set now delay settled x y s i rest taken (step x.link i now) stepped u v e c o

  -- a frame of account comes to an end that is Up
  hearing : (f : Flight) → x.coming ≡ f ∷ rest → x.link.phase ≡ Up → is_of_account f.frame.kind ≡ true → Case x.link i now (step x.link i now) →
      SoundAfter set now delay (step x.link i now) x rest (Some (s.talk.near.heard ++ f.epoch ∷ [])) y
  hearing f c up a = by
    where
      from : IsFrom s.talk.far.number f.epoch
      from = (subst (AllByRecursion (λ (g : Flight). is_of_account g.frame.kind ≡ true → IsFrom s.talk.far.number g.epoch)) ((is_up up).hears ∙ c) s.talk.one.hears).0 a

      not_setting : y.link.phase ≡ SettingUp → ⊥
      not_setting u = let n = (subst (NoneIn is_of_account) c (quiet_going now delay y x.coming u s.far_dates)).0 in absurd (cc (n, a))

      stands : Stand y s.talk.far (s.talk.near.heard ++ f.epoch ∷ [])
      stands = heard_one y s.talk.far s.talk.near.heard f.epoch s.talk.two.stand from not_setting

      of : OfEpoch s.talk.far.number (s.talk.near.heard ++ f.epoch ∷ [])
      of = each_append (IsFrom s.talk.far.number) s.talk.near.heard (f.epoch ∷ []) s.talk.one.heard (from, tt)

      some : s.talk.near.heard ++ f.epoch ∷ [] ≡ [] → IsFresh (core (step x.link i now).link)
      some e = let l = ap length e in absurd (omega (arith, l, length-append s.talk.near.heard (f.epoch ∷ [])))

      by : Case x.link i now (step x.link i now) → SoundAfter set now delay (step x.link i now) x rest (Some (s.talk.near.heard ++ f.epoch ∷ [])) y
      by (cases.goes_on u e r on) = up_on known set now delay settled x y s i rest taken (step x.link i now) stepped (s.talk.near.heard ++ f.epoch ∷ []) u stands of some e r on
      by (cases.leaves u v e r q) = leaves_on known set now delay settled x y s i rest taken (step x.link i now) stepped (s.talk.near.heard ++ f.epoch ∷ []) u stands of some v e r q
      by (cases.begins g pf p v e q z o w) =
          let b = arrived i x.coming rest g q taken in
          let same : f ≡ b.flight = first_same f b.flight rest (sym c ∙ b.first) in
          let sets : sets_up f.frame.kind ≡ true = ap (λ (h : Flight). sets_up h.frame.kind) same ∙ (ap (λ (h : Frame). sets_up h.kind) b.same ∙ z) in
          let n = sets_account f.frame.kind sets in
          absurd (cc (n, a))
      by (cases.rests u v e q o) = absurd (cc (u, up))
      by (cases.starts u v e q o w t) = absurd (cc (u, up))
      by (cases.waits u v e w q o t m k) = absurd (cc (u, up))
      by (cases.crosses g pf u v e q z o t m) = absurd (cc (u, up))
      by (cases.retries u v e q l o t k) = absurd (cc (u, up))
      by (cases.fails u v e o w) = absurd (cc (u, up))
      by (cases.comes_up g u e q k on w) = absurd (cc (u, up))
      by (cases.idles u v e m q o z) = absurd (cc (u, up))
      by (cases.ends u v e m o) = absurd (cc (u, up))

pub step_sound : (known : Known) (set : Rules) (now delay : ℕ) (x y : End) (i : Input) (rest : List Flight) (heard : Option (List ℕ)) → Settled set delay → Sound set now delay (record { near = x; far = y }) → Takes x i now rest heard →
    SoundAfter set now delay (step x.link i now) x rest heard y
step_sound known set now delay x y i rest heard settled s k = by k.hears
  where
    is : Case x.link i now (step x.link i now)
    is = (step_is known x.link i now k.may).is

    by : Hearing x i rest heard → SoundAfter set now delay (step x.link i now) x rest heard y
    by (inl a) =
        subst (λ h. SoundAfter set now delay (step x.link i now) x rest h y) (sym a.1)
        (quiet known set now delay settled x y s i rest k.taken k.may a.0 k.early is)
    by (inr a) =
        subst (λ h. SoundAfter set now delay (step x.link i now) x rest h y) (sym (a.4 ∙ ap (heard_more a.0.epoch) (up_of x s.talk.near s.talk.far.heard s.talk.one.stand a.2).lasts))
        (hearing known set now delay settled x y s i rest k.taken k.may a.0 a.1 a.2 a.3 is)
