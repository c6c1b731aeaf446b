-- A step of the near end leaves what is known of the two ends, where its epoch hears nothing.
use Rattle.std.proofs.Common.{◌≡◌, ◌⊎◌, inl, inr, ◌≤◌, ◌+◌, min, ℕ, suc, Bool, true, false, not, ◌&&◌, if◌then◌else◌, List, [], ◌∷◌, ◌++◌, length, Option, Some, None, refl, ap, sym, ◌∙◌, subst}
use Rattle.std.specs.List.{AllByRecursion}
use Rattle.radio_base.proofs.Each.{each_append}
use Rattle.ax_link.specs.declared.kind.Kind.{Kind}
use Rattle.ax_link.specs.declared.kind.Kind.TheVariants as kind
use Rattle.ax_link.specs.declared.phase.LinkPhase.TheVariants.{Down, SettingUp, Up}
use Rattle.ax_link.specs.Bounds.{Bounded, stock}
use Rattle.ax_link.specs.Carrying.{carries}
use Rattle.ax_link.specs.Pair.{Core, IsNew, core, opens, reach}
use Rattle.ax_link.specs.Runs.{sets_up}
use Rattle.ax_link.specs.State.{Effect, Frame, Rules, State, count_end}
use Rattle.ax_link.specs.Table.{Input, Arrive}
use Rattle.link_life.specs.Ends.{End, Flight, any_begins, epochs, flights, is_down, is_of_account, lasting, number}
use Rattle.link_life.specs.Laws.{AllInTime}
use Rattle.link_life.specs.Lives.{is_early}
use Rattle.link_life.proofs.Beginning.{Asker, begins, begun, crosses}
use Rattle.link_life.proofs.Cases.{KeepsBoth, NoneOf, StaysUnopened, answers, asks, goes_out, same_both, set_up_frame, ua}
use Rattle.link_life.proofs.Conversing.{Off, more_coming, next_goes, off_goes}
use Rattle.link_life.proofs.Dates.{Answered, Asking, Clear, Dated, Taken, account_asks, all_rest, answered, clear_down, clear_t1, none_also, none_answers, none_more}
use Rattle.link_life.proofs.Dating.{asks_anew, asks_still, on_dated, other_dated, rests_dated}
use Rattle.link_life.proofs.Known.{Known}
use Rattle.link_life.proofs.Sounding.{none_sent}
use Rattle.link_life.proofs.Talks.{Apart, IsNext, NoneIn, Talk, behind_ua}
use Rattle.link_life.proofs.Timing.{set_out}
use Rattle.link_life.proofs.Turning.{DatedEnd, Lasts, Settled, Sound, SoundAfter, Stepped, all_go_out, apart_of, asker, asking_of, down_test, near_begins, near_stays, next_or_off, none_opens, off_of, quiet_going}

-- ---- small facts

pub carries_opens : (fs : List Frame) → AllByRecursion (λ f. carries f.kind ≡ true) fs → NoneOf opens fs
carries_opens [] a = tt
carries_opens (f ∷ fs) a = (by f.kind a.0, carries_opens fs a.1)
  where
    by : (k : Kind) → carries k ≡ true → opens k ≡ false
    by (kind.Ua pf) e = absurd (cc e)
    by _ e = refl

unopened : (k : Kind) → answers k ≡ false → opens k ≡ false
unopened (kind.Ua pf) e = e
unopened _ e = refl

-- what came from an end that is being set up asks by a set-up command alone
pub opens_asked : (now delay : ℕ) (y : End) (coming rest : List Flight) (outs : List Frame) → ((f : Flight) → coming ≡ f ∷ rest → asks f.frame.kind ≡ true → sets_up f.frame.kind ≡ true → ⊥) →
    Answered coming rest outs → DatedEnd now delay y coming → y.link.phase ≡ SettingUp → NoneOf opens outs
opens_asked now delay y coming rest outs n (inl z) d u = none_also answers opens outs unopened (none_answers outs z)
opens_asked now delay y coming rest outs n (inr a) d u =
    let g = asking_of now delay y coming u d in
    let first = (subst (AllByRecursion (λ f. asks f.frame.kind ≡ true → (sets_up f.frame.kind ≡ true) × (f.sent ≤ g.since))) a.1 g.asked).0 a.2 in
    absurd (n a.0 a.1 a.2 first.0)

pub behind_first : (f : Flight) (fs : List Flight) (b : Bool) → opens f.frame.kind ≡ b → behind_ua (f ∷ fs) ≡ (if b then fs else behind_ua fs)
behind_first f fs b e = ap (λ c. if c then fs else behind_ua fs) e

behind_rest : (i : Input) (coming rest : List Flight) → Taken i coming rest → StaysUnopened i → behind_ua rest ≡ behind_ua coming
behind_rest i coming rest (inl t) u = ap behind_ua (sym t.1)
behind_rest i coming rest (inr t) u =
    let n : StaysUnopened (Arrive t.0.frame) = subst StaysUnopened t.1 u in sym (ap behind_ua t.2 ∙ behind_first t.0 rest false n.1)

pub lasting_core : (l m : State) (h : Option (List ℕ)) → core l ≡ core m → lasting l h ≡ lasting m h
lasting_core l m None e = refl
lasting_core l m (Some h) e = ap (λ (c : Core). record { given = c.given; received = c.received; acked = c.acked; heard = h } ∷ []) e

pub none_lasting : (l m : State) (h : Option (List ℕ)) → h ≡ None → lasting l h ≡ lasting m h
none_lasting l m h e = subst (λ o. lasting l o ≡ lasting m o) (sym e) refl

module _ (known : Known) (set : Rules) (now delay : ℕ) (settled : Settled set delay) (x y : End) (s : Sound set now delay (record { near = x; far = y })) (i : Input) (rest : List Flight) (taken : Taken i x.coming rest)
    (g : Effect) (stepped : Stepped set now x i g) where
  pub came : Answered x.coming rest g.outs
  came = answered i x.coming rest g.outs taken stepped.few

  -- all but what depends on the case
  pub made : (x2 : End) (epoch : ℕ) → x2.coming ≡ rest → x2.link.rules ≡ set → Bounded (stock x2.link) → Lasts x2.link.phase x2.heard → (x2.link.phase ≡ SettingUp → IsNew x2.link) →
      Dated x2.link.phase x2.link.t1_at x2.down_since now delay rest (y.coming ++ flights now epoch g.outs) → Talk x2 (more_coming y (flights now epoch g.outs)) →
      Sound set now delay (record { near = x2; far = more_coming y (flights now epoch g.outs) })
  made x2 epoch c r b l n d t =
      let outs : List Frame = g.outs in
      record {
        near = record { rules = r; bounded = b; lasts = l; new = n; kinds = subst (AllByRecursion (λ f. goes_out f.frame.kind ≡ true)) (sym c) (all_rest (λ f. goes_out f.frame.kind ≡ true) i x.coming rest taken s.near.kinds) };
        far = record {
          rules = s.far.rules;
          bounded = s.far.bounded;
          lasts = s.far.lasts;
          new = s.far.new;
          kinds = each_append (λ f. goes_out f.frame.kind ≡ true) y.coming (flights now epoch outs) s.far.kinds (all_go_out x.link.phase now epoch outs stepped.kinds);
        };
        near_time = subst (AllInTime now delay) (sym c) (all_rest _ i x.coming rest taken s.near_time);
        far_time = each_append _ y.coming (flights now epoch outs) s.far_time (set_out now delay epoch outs);
        near_dates = subst (λ fs. Dated x2.link.phase x2.link.t1_at x2.down_since now delay fs (y.coming ++ flights now epoch outs)) (sym c) d;
        far_dates = subst (λ fs. Dated y.link.phase y.link.t1_at y.down_since now delay (y.coming ++ flights now epoch outs) fs) (sym c)
            (other_dated i y.link.phase y.link.t1_at now delay epoch y.down_since y.coming x.coming rest outs taken s.near_time came s.far_dates);
        talk = t;
      }

  -- an end that has no voice; more is under way from it
  pub off_talk : (x2 : End) (epoch : ℕ) → Off x s.talk.near s.talk.far.heard → epochs x2 ≡ epochs x → Apart x2 → NoneOf is_of_account g.outs → (y.link.phase ≡ SettingUp → NoneOf opens g.outs) →
      Talk x2 (more_coming y (flights now epoch g.outs))
  off_talk x2 epoch o e a q n =
      off_goes known x y x2 s.talk (flights now epoch g.outs) o e a (none_sent is_of_account now epoch g.outs q) (λ u. none_sent opens now epoch g.outs (n u))

  pub rests_on : x.link.phase ≡ Down → g.link.phase ≡ Down → any_begins g.notes ≡ false → NoneOf asks g.outs → NoneOf opens g.outs →
      SoundAfter set now delay g x rest x.heard y
  rests_on u v e q n =
      let x2 : End = record x { coming = rest; link = g.link } in
      let h : x.heard ≡ None = subst (λ ph. Lasts ph x.heard) u s.near.lasts in
      subst (Sound set now delay) (sym (near_stays set now g (record x { coming = rest }) y e (down_test x.link.phase g.link.phase Down Down u v)))
      (made x2 (number x) refl stepped.rules stepped.bounded (subst (λ ph. Lasts ph x.heard) (sym v) h) (λ w. absurd (cc (v, w)))
      (subst (λ ph. Dated ph g.link.t1_at x.down_since now delay rest (y.coming ++ flights now (number x) g.outs)) (sym v)
      (rests_dated i g.link.t1_at now delay (number x) x.down_since x.coming rest y.coming g.outs taken q (subst (λ ph. Dated ph x.link.t1_at x.down_since now delay x.coming y.coming) u s.near_dates)))
      (off_talk x2 (number x) (off_of x s.talk.near s.talk.far.heard s.talk.one.stand (λ w. absurd (cc (u, w))) (λ w. absurd (cc (u, w)))) (ap (λ l. x.over ++ l) (none_lasting g.link x.link x.heard h))
      (record { up = λ w. absurd (cc (v, w)); setting = λ w. absurd (cc (v, w)) }) (none_also asks is_of_account g.outs account_asks q) (λ w. n)))

  -- it is set up once more or for the first time, and nothing old is left
  anew : (epoch : ℕ) → Clear x.coming y.coming → g.link.phase ≡ SettingUp → g.outs ≡ set_up_frame ∷ [] → g.link.t1_at ≡ min now count_end + x.link.rules.t1 →
      Dated g.link.phase g.link.t1_at x.down_since now delay rest (y.coming ++ flights now epoch g.outs)
  anew epoch c v o t =
      subst (λ ph. Dated ph g.link.t1_at x.down_since now delay rest (y.coming ++ flights now epoch g.outs)) (sym v)
      (subst (λ outs. Asking g.link.t1_at now delay rest (y.coming ++ flights now epoch outs)) (sym o)
      (asks_anew g.link.t1_at now delay epoch rest y.coming (t ∙ (ap (λ (r : Rules). min now count_end + r.t1) s.near.rules ∙ ap (λ n. min now count_end + n) settled.t1))
      (record { going = c.going; coming = all_rest (λ f. answers f.frame.kind ≡ false) i x.coming rest taken c.coming })))

  pub starts_on : x.link.phase ≡ Down → g.link.phase ≡ SettingUp → any_begins g.notes ≡ false → is_early x.down_since now ≡ false → g.outs ≡ set_up_frame ∷ [] → IsNew g.link →
      g.link.t1_at ≡ min now count_end + x.link.rules.t1 →
      SoundAfter set now delay g x rest x.heard y
  starts_on u v e early o n t =
      let x2 : End = record x { coming = rest; link = g.link } in
      let h : x.heard ≡ None = subst (λ ph. Lasts ph x.heard) u s.near.lasts in
      let c : Clear x.coming y.coming = clear_down x.down_since now delay x.coming y.coming settled.short s.near_time s.far_time early (subst (λ ph. Dated ph x.link.t1_at x.down_since now delay x.coming y.coming) u s.near_dates).1 in
      subst (Sound set now delay) (sym (near_stays set now g (record x { coming = rest }) y e (down_test x.link.phase g.link.phase Down SettingUp u v)))
      (made x2 (number x) refl stepped.rules stepped.bounded (subst (λ ph. Lasts ph x.heard) (sym v) h) (λ w. n) (anew (number x) c v o t)
      (off_talk x2 (number x) (off_of x s.talk.near s.talk.far.heard s.talk.one.stand (λ w. absurd (cc (u, w))) (λ w. absurd (cc (u, w)))) (ap (λ l. x.over ++ l) (none_lasting g.link x.link x.heard h))
      (record { up = λ w. absurd (cc (v, w)); setting = λ w. none_opens rest (all_rest (λ f. answers f.frame.kind ≡ false) i x.coming rest taken c.coming) })
      (subst (NoneOf is_of_account) (sym o) (refl, tt)) (λ w. subst (NoneOf opens) (sym o) (refl, tt))))

  pub begins_on : (f : Flight) (pf : Bool) → (x.link.phase ≡ Down) ⊎ (x.link.phase ≡ Up) → g.link.phase ≡ Up → any_begins g.notes ≡ true → x.coming ≡ f ∷ rest → sets_up f.frame.kind ≡ true →
      g.outs ≡ ua pf ∷ [] → IsNew g.link →
      SoundAfter set now delay g x rest x.heard y
  begins_on f pf p v e c z o n =
      let a : Asker set y = asker set now delay y f rest s.far z (subst (λ fs. DatedEnd now delay y fs) c s.far_dates) in
      let quiet : NoneIn is_of_account rest = all_rest (λ k. is_of_account k.frame.kind ≡ false) i x.coming rest taken (quiet_going now delay y x.coming a.phase s.far_dates) in
      let epoch : ℕ = suc (length (epochs x)) in
      subst (Sound set now delay) (sym (near_begins set now g (record x { coming = rest }) y e (stays_up p v)))
      (made (begun x g.link rest) epoch refl stepped.rules stepped.bounded (subst (λ ph. Lasts ph (Some [])) (sym v) ([], refl)) (λ w. absurd (cc (v, w)))
      (on_dated g.link.phase g.link.t1_at now delay x.down_since rest (y.coming ++ flights now epoch g.outs) (inl v) (none_more sets_up now epoch y.coming g.outs (none_set_up p) (subst (NoneOf sets_up) (sym o) (refl, tt))))
      (subst (λ outs. Talk (begun x g.link rest) (more_coming y (flights now epoch outs))) (sym o)
      (begins known set x y g.link rest (record { sent = now; epoch = epoch; frame = ua pf }) settled.fits s.talk a v n stepped.rules quiet)))
    where
      stays_up : (x.link.phase ≡ Down) ⊎ (x.link.phase ≡ Up) → g.link.phase ≡ Up → (not (is_down x.link.phase) && is_down g.link.phase) ≡ false
      stays_up (inl u) w = down_test x.link.phase g.link.phase Down Up u w
      stays_up (inr u) w = down_test x.link.phase g.link.phase Up Up u w

      none_set_up : (x.link.phase ≡ Down) ⊎ (x.link.phase ≡ Up) → NoneIn sets_up y.coming
      none_set_up (inl u) = (subst (λ ph. Dated ph x.link.t1_at x.down_since now delay x.coming y.coming) u s.near_dates).0
      none_set_up (inr u) = subst (λ ph. Dated ph x.link.t1_at x.down_since now delay x.coming y.coming) u s.near_dates

  -- ---- an end that is being set up

  pub setting_lasts : x.link.phase ≡ SettingUp → x.heard ≡ None
  setting_lasts u = subst (λ ph. Lasts ph x.heard) u s.near.lasts

  -- it stays so, and says nothing of account
  setting_talk : (epoch : ℕ) → x.link.phase ≡ SettingUp → g.link.phase ≡ SettingUp → IsNew g.link → KeepsBoth x.link g.link → StaysUnopened i →
      NoneOf is_of_account g.outs → NoneOf opens g.outs →
      Talk (record x { coming = rest; link = g.link }) (more_coming y (flights now epoch g.outs))
  setting_talk epoch u v n k w q o = by (next_or_off x s.talk.near s.talk.far.heard s.talk.one.stand u)
    where
      by : IsNext x s.talk.near s.talk.far.heard ⊎ Off x s.talk.near s.talk.far.heard → Talk (record x { coming = rest; link = g.link }) (more_coming y (flights now epoch g.outs))
      by (inl a) =
          let outs : List Frame = g.outs in
          next_goes known x y (record x { coming = rest; link = g.link }) s.talk (flights now epoch outs) a v refl refl n (behind_rest i x.coming rest taken w) k
          (none_sent is_of_account now epoch outs q) (λ z. none_sent opens now epoch outs o)
      by (inr a) =
          off_talk (record x { coming = rest; link = g.link }) epoch a (ap (λ l. x.over ++ l) (none_lasting g.link x.link x.heard (setting_lasts u)))
          (record { up = λ z. absurd (cc (v, z)); setting = λ z. all_rest (λ f. opens f.frame.kind ≡ false) i x.coming rest taken ((apart_of x s.talk.near s.talk.far.heard a).setting u) }) q (λ z. o)

  setting_made : x.link.phase ≡ SettingUp → g.link.phase ≡ SettingUp → any_begins g.notes ≡ false → IsNew g.link →
      Dated g.link.phase g.link.t1_at x.down_since now delay rest (y.coming ++ flights now (number x) g.outs) →
      Talk (record x { coming = rest; link = g.link }) (more_coming y (flights now (number x) g.outs)) →
      SoundAfter set now delay g x rest x.heard y
  setting_made u v e n d t =
      subst (Sound set now delay) (sym (near_stays set now g (record x { coming = rest }) y e (down_test x.link.phase g.link.phase SettingUp SettingUp u v)))
      (made (record x { coming = rest; link = g.link }) (number x) refl stepped.rules stepped.bounded (subst (λ ph. Lasts ph x.heard) (sym v) (setting_lasts u)) (λ w. n) d t)

  still : x.link.phase ≡ SettingUp → g.link.phase ≡ SettingUp → g.link.t1_at ≡ x.link.t1_at → NoneOf asks g.outs →
      Dated g.link.phase g.link.t1_at x.down_since now delay rest (y.coming ++ flights now (number x) g.outs)
  still u v t q =
      subst (λ ph. Dated ph g.link.t1_at x.down_since now delay rest (y.coming ++ flights now (number x) g.outs)) (sym v)
      (subst (λ n. Asking n now delay rest (y.coming ++ flights now (number x) g.outs)) (sym t)
      (asks_still i x.link.t1_at now delay (number x) x.coming rest y.coming g.outs taken q (asking_of now delay x y.coming u s.near_dates)))

  pub waits_on : x.link.phase ≡ SettingUp → g.link.phase ≡ SettingUp → any_begins g.notes ≡ false → StaysUnopened i → NoneOf asks g.outs → NoneOf opens g.outs →
      g.link.t1_at ≡ x.link.t1_at → (IsNew x.link → IsNew g.link) → KeepsBoth x.link g.link →
      SoundAfter set now delay g x rest x.heard y
  waits_on u v e w q o t n k =
      setting_made u v e (n (s.near.new u)) (still u v t q) (setting_talk (number x) u v (n (s.near.new u)) k w (none_also asks is_of_account g.outs account_asks q) o)

  pub crosses_on : (f : Flight) (pf : Bool) → x.link.phase ≡ SettingUp → g.link.phase ≡ SettingUp → any_begins g.notes ≡ false → x.coming ≡ f ∷ rest → sets_up f.frame.kind ≡ true →
      g.outs ≡ ua pf ∷ [] → g.link.t1_at ≡ x.link.t1_at → (IsNew x.link → IsNew g.link) →
      SoundAfter set now delay g x rest x.heard y
  crosses_on f pf u v e c z o t n =
      let a : Asker set y = asker set now delay y f rest s.far z (subst (λ fs. DatedEnd now delay y fs) c s.far_dates) in
      let quiet : NoneIn is_of_account rest = all_rest (λ k. is_of_account k.frame.kind ≡ false) i x.coming rest taken (quiet_going now delay y x.coming a.phase s.far_dates) in
      setting_made u v e (n (s.near.new u)) (still u v t (subst (NoneOf asks) (sym o) (refl, tt)))
      (subst (λ outs. Talk (record x { coming = rest; link = g.link }) (more_coming y (flights now (number x) outs))) (sym o)
      (crosses known set x y g.link rest (record { sent = now; epoch = number x; frame = ua pf }) settled.fits s.talk a v (setting_lasts u) (n (s.near.new u)) stepped.rules quiet))

  pub retries_on : x.link.phase ≡ SettingUp → g.link.phase ≡ SettingUp → any_begins g.notes ≡ false → StaysUnopened i → x.link.t1_at ≤ min now count_end → g.outs ≡ set_up_frame ∷ [] →
      g.link.t1_at ≡ min now count_end + x.link.rules.t1 → core g.link ≡ core x.link →
      SoundAfter set now delay g x rest x.heard y
  retries_on u v e w l o t k =
      let n : IsNew x.link = s.near.new u in
      let m : IsNew g.link = record { acked = ap (λ (c : Core). c.acked) k ∙ n.acked; sent = ap (λ (c : Core). c.sent) k ∙ n.sent; high = ap reach k ∙ n.high } in
      setting_made u v e m (anew (number x) (clear_t1 x.link.t1_at now delay x.coming y.coming settled.short s.near_time s.far_time l (asking_of now delay x y.coming u s.near_dates)) v o t)
      (setting_talk (number x) u v m (same_both x.link g.link k) w (subst (NoneOf is_of_account) (sym o) (refl, tt)) (subst (NoneOf opens) (sym o) (refl, tt)))
