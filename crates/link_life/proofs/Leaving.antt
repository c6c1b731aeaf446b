-- A step of an end that fails to come up, comes up, is Up, or releases.
use Rattle.std.proofs.Common.{◌≡◌, ◌⊎◌, inl, inr, ◌≤◌, min, ℕ, suc, true, false, not, ◌&&◌, List, [], ◌∷◌, ◌++◌, length, Option, Some, slice_get, refl, ap, sym, ◌∙◌, subst, arith, append-nil}
use Rattle.radio_base.proofs.Each.{each_append}
use Rattle.ax_link.specs.declared.kind.Kind.{Kind}
use Rattle.ax_link.specs.declared.kind.Kind.TheVariants as kind
use Rattle.ax_link.specs.declared.phase.LinkPhase.{LinkPhase}
use Rattle.ax_link.specs.declared.phase.LinkPhase.TheVariants.{Down, SettingUp, Up, Releasing}
use Rattle.ax_link.specs.Carrying.{StaysOn, is_on}
use Rattle.ax_link.specs.Pair.{Both, IsNew, NoRestart, NoRestartIn, Queue, core, opens}
use Rattle.ax_link.specs.Runs.{sets_up}
use Rattle.ax_link.specs.State.{Effect, Rules, count_end}
use Rattle.ax_link.specs.Table.{Input, Arrive, Set_up, Send, Tick, Close, Take, step}
use Rattle.ax_link.proofs.Ways.{get_more}
use Rattle.link_life.specs.Ends.{End, Epoch, Flight, any_begins, epochs, flights, is_down, is_of_account, lasting, number}
use Rattle.link_life.specs.Laws.{AllInTime}
use Rattle.link_life.proofs.Beginning.{After, begun, next_opens, on_phase, up_goes}
use Rattle.link_life.proofs.Cases.{IsFresh, NoneOf, answers, asks}
use Rattle.link_life.proofs.Conversing.{Off, more_coming, next_fails}
use Rattle.link_life.proofs.Dates.{Asking, Dated, Taken, all_rest, clear_t1, first_same, none_more, none_set, none_set_carried, none_set_in, opens_answers}
use Rattle.link_life.proofs.Dating.{answer_came, down_dated, on_dated}
use Rattle.link_life.proofs.Known.{Known}
use Rattle.link_life.proofs.Sounding.{frames_sent, hears_sent, none_sent}
use Rattle.link_life.proofs.Stepping.{behind_first, came, carries_opens, lasting_core, made, none_lasting, off_talk, opens_asked}
use Rattle.link_life.proofs.Talks.{Apart, Hears, IsNext, IsUp, NoneIn, OfEpoch, Stand, Talk, behind_ua, epoch_of, frames_in, get_end, get_other}
use Rattle.link_life.proofs.Timing.{set_out}
use Rattle.link_life.proofs.Turning.{Lasts, Settled, Sound, SoundAfter, Stepped, apart_of, asking_of, down_test, ended, far_quiet, near_begins, near_ends, near_stays, next_or_off, off_of, quiet_going, up_of}

pub restart_sets : (k : Kind) → NoRestart k → sets_up k ≡ false
restart_sets (kind.SetUp pf) n = absurd n
restart_sets _ n = refl

-- no set-up command came
no_set_up : (i : Input) (rest coming : List Flight) → Taken i coming rest → NoRestartIn i → (f : Flight) → coming ≡ f ∷ rest → asks f.frame.kind ≡ true → sets_up f.frame.kind ≡ true → ⊥
no_set_up i rest coming (inl t) n f e a b = absurd (no_end (sym e ∙ t.1))
  where
    no_end : f ∷ rest ≡ rest → ⊥
    no_end q = let l = ap length q in absurd (omega (arith, l))
no_set_up i rest coming (inr t) n f e a b =
    let k : NoRestart t.0.frame.kind = subst NoRestartIn t.1 n in
    let z : sets_up t.0.frame.kind ≡ false = restart_sets t.0.frame.kind k in
    absurd (cc (b, ap (λ (g : Flight). sets_up g.frame.kind) (first_same f t.0 rest (sym e ∙ t.2)), z))

-- the frames of what was taken
queue : (i : Input) (coming rest : List Flight) → Taken i coming rest → Queue i (frames_in coming) (frames_in rest)
queue Set_up coming rest (inl t) = ap frames_in t.1
queue (Send p) coming rest (inl t) = ap frames_in t.1
queue (Arrive f) coming rest (inl t) = absurd t.0
queue Tick coming rest (inl t) = ap frames_in t.1
queue Close coming rest (inl t) = ap frames_in t.1
queue Take coming rest (inl t) = ap frames_in t.1
queue i coming rest (inr t) = subst (λ j. Queue j (frames_in coming) (frames_in rest)) (sym t.1) (ap frames_in t.2)

nil_more : (over : List Epoch) (e : Epoch) → slice_get ((over ++ e ∷ []) ++ []) (length over) ≡ Some e
nil_more over e = get_more (over ++ e ∷ []) [] (length over) e (get_end over e)

module _ (known : Known) (set : Rules) (now delay : ℕ) (settled : Settled set delay) (x y : End) (s : Sound set now delay (record { near = x; far = y })) (i : Input) (rest : List Flight) (taken : Taken i x.coming rest)
    (g : Effect) (stepped : Stepped set now x i g) where
  in_time : (epoch : ℕ) → AllInTime now delay (y.coming ++ flights now epoch g.outs)
  in_time epoch = each_append _ y.coming (flights now epoch g.outs) s.far_time (set_out now delay epoch g.outs)

  -- it is Down now, and its epoch, if it had one, is over
  down_made : (heard : Option (List ℕ)) → g.link.phase ≡ Down → any_begins g.notes ≡ false → (not (is_down x.link.phase) && is_down g.link.phase) ≡ true →
      NoneIn sets_up y.coming → NoneOf sets_up g.outs →
      Talk (ended set now g.link (record x { coming = rest; heard = heard })) (more_coming y (flights now (number (record x { heard = heard })) g.outs)) →
      SoundAfter set now delay g x rest heard y
  down_made heard v e d n m t =
      let epoch : ℕ = number (record x { heard = heard }) in
      subst (Sound set now delay) (sym (near_ends set now g (record x { coming = rest; heard = heard }) y e d))
      (made known set now delay settled x y s i rest taken g stepped (ended set now g.link (record x { coming = rest; heard = heard })) epoch refl refl settled.bounded refl (λ w. absurd (cc w))
      (down_dated 0 now delay rest (y.coming ++ flights now epoch g.outs) (none_more sets_up now epoch y.coming g.outs n m) (all_rest _ i x.coming rest taken s.near_time) (in_time epoch)) t)

  apart_down : (x2 : End) → x2.link.phase ≡ Down → Apart x2
  apart_down x2 v = record { up = λ w. absurd (cc (v, w)); setting = λ w. absurd (cc (v, w)) }

  -- ---- it fails to come up

  pub fails_on : x.link.phase ≡ SettingUp → g.link.phase ≡ Down → any_begins g.notes ≡ false → g.outs ≡ [] →
      ((i ≡ Tick) × (x.link.t1_at ≤ min now count_end)) ⊎ ((f : Flight) × (x.coming ≡ f ∷ rest) × (answers f.frame.kind ≡ true)) →
      SoundAfter set now delay g x rest x.heard y
  fails_on u v e o w =
      down_made x.heard v e (down_test x.link.phase g.link.phase SettingUp Down u v) (none_set_up w) (subst (NoneOf sets_up) (sym o) tt) (by (next_or_off x s.talk.near s.talk.far.heard s.talk.one.stand u))
    where
      asking : Asking x.link.t1_at now delay x.coming y.coming
      asking = asking_of now delay x y.coming u s.near_dates

      none_set_up : ((i ≡ Tick) × (x.link.t1_at ≤ min now count_end)) ⊎ ((f : Flight) × (x.coming ≡ f ∷ rest) × (answers f.frame.kind ≡ true)) → NoneIn sets_up y.coming
      none_set_up (inl a) = none_set_in y.coming (clear_t1 x.link.t1_at now delay x.coming y.coming settled.short s.near_time s.far_time a.1 asking).going
      none_set_up (inr a) = (answer_came x.link.t1_at now delay a.0 rest y.coming a.2 (subst (λ fs. Asking x.link.t1_at now delay fs y.coming) a.1 asking)).0

      same : epochs (ended set now g.link (record x { coming = rest })) ≡ epochs x
      same = append-nil (x.over ++ lasting g.link x.heard) ∙ ap (λ l. x.over ++ l) (none_lasting g.link x.link x.heard (subst (λ ph. Lasts ph x.heard) u s.near.lasts))

      quiet : NoneOf is_of_account g.outs
      quiet = subst (NoneOf is_of_account) (sym o) tt

      by : IsNext x s.talk.near s.talk.far.heard ⊎ Off x s.talk.near s.talk.far.heard →
          Talk (ended set now g.link (record x { coming = rest })) (more_coming y (flights now (number x) g.outs))
      by (inl a) =
          next_fails known x y (ended set now g.link (record x { coming = rest })) s.talk (flights now (number x) g.outs) a (apart_down _ refl) same
          (none_sent is_of_account now (number x) g.outs quiet) (λ z. none_sent opens now (number x) g.outs (subst (NoneOf opens) (sym o) tt))
          (far_quiet 0 y s.talk.far s.talk.near.heard (quiet_going now delay x y.coming u s.near_dates) s.talk.two.stand)
      by (inr a) =
          off_talk known set now delay settled x y s i rest taken g stepped (ended set now g.link (record x { coming = rest })) (number x) a same (apart_down _ refl) quiet (λ z. subst (NoneOf opens) (sym o) tt)

  -- ---- it comes up

  pub comes_on : (f : Flight) → x.link.phase ≡ SettingUp → any_begins g.notes ≡ true → i ≡ Arrive f.frame → x.coming ≡ f ∷ rest → f.frame.kind ≡ kind.Ua true → StaysOn g →
      (IsNew x.link → IsFresh (core g.link)) →
      SoundAfter set now delay g x rest x.heard y
  comes_on f u e q c k on fresh = by (next_or_off x s.talk.near s.talk.far.heard s.talk.one.stand u)
    where
      opened : opens f.frame.kind ≡ true
      opened = ap opens k

      test : (not (is_down x.link.phase) && is_down g.link.phase) ≡ false
      test = by_phase (on_phase g.link.phase on.phase)
        where
          by_phase : (g.link.phase ≡ Up) ⊎ (g.link.phase ≡ Releasing) → (not (is_down x.link.phase) && is_down g.link.phase) ≡ false
          by_phase (inl v) = down_test x.link.phase g.link.phase SettingUp Up u v
          by_phase (inr v) = down_test x.link.phase g.link.phase SettingUp Releasing u v

      lasts : (ph : LinkPhase) → (ph ≡ Up) ⊎ (ph ≡ Releasing) → Lasts ph (Some [])
      lasts ph (inl v) = subst (λ p. Lasts p (Some [])) (sym v) ([], refl)
      lasts ph (inr v) = subst (λ p. Lasts p (Some [])) (sym v) ([], refl)

      not_setting : (ph : LinkPhase) → is_on ph ≡ true → ph ≡ SettingUp → IsNew g.link
      not_setting ph w v = let z = ap is_on v in absurd (cc (w, z))

      count : (n : IsNext x s.talk.near s.talk.far.heard) → suc (length (epochs x)) ≡ s.talk.near.number
      count n =
          ap (λ h. suc (length (x.over ++ lasting x.link h))) n.lasts ∙ (ap (λ es. suc (length es)) (append-nil x.over) ∙ sym n.number)

      by : IsNext x s.talk.near s.talk.far.heard ⊎ Off x s.talk.near s.talk.far.heard → SoundAfter set now delay g x rest x.heard y
      by (inr a) = let n = (subst (NoneIn opens) c ((apart_of x s.talk.near s.talk.far.heard a).setting u)).0 in absurd (cc (n, opened))
      by (inl n) =
          let epoch : ℕ = suc (length (epochs x)) in
          let came_up = on_phase g.link.phase on.phase in
          let asked = answer_came x.link.t1_at now delay f rest y.coming (opens_answers f.frame.kind opened) (subst (λ fs. Asking x.link.t1_at now delay fs y.coming) c (asking_of now delay x y.coming u s.near_dates)) in
          subst (Sound set now delay) (sym (near_begins set now g (record x { coming = rest }) y e test))
          (made known set now delay settled x y s i rest taken g stepped (begun x g.link rest) epoch refl stepped.rules stepped.bounded
          (lasts g.link.phase came_up) (not_setting g.link.phase on.phase)
          (on_dated g.link.phase g.link.t1_at now delay x.down_since rest (y.coming ++ flights now epoch g.outs) came_up (none_more sets_up now epoch y.coming g.outs asked.0 (none_set_carried g.outs on.outs)))
          (next_opens known x y s.talk g.link rest (flights now epoch g.outs) n (ap behind_ua c ∙ behind_first f rest true opened) on.phase (fresh n.new)
          (subst (λ m. Hears m (flights now epoch g.outs)) (count n) (hears_sent now epoch g.outs (omega arith))) (λ z. none_sent opens now epoch g.outs (carries_opens g.outs on.outs))
          (λ b. subst (λ fs. Both (core g.link) s.talk.far.core (frames_in rest) (frames_in s.talk.far.hears ++ fs)) (sym (frames_sent now epoch g.outs))
          (subst (λ (h : Effect). Both (core h.link) s.talk.far.core (frames_in rest) (frames_in s.talk.far.hears ++ h.outs)) (sym (stepped.is ∙ ap (λ j. step x.link j now) q))
          (known.opens now x.link f.frame s.talk.far.core (frames_in rest) (frames_in s.talk.far.hears) u k b)))))

  -- ---- it was Up

  -- what it knows and the other end does stays sound
  up_sound : (epoch : ℕ) → IsUp x s.talk.near → NoRestartIn i → Both (core g.link) s.talk.far.core (frames_in rest) (frames_in s.talk.far.hears ++ frames_in (flights now epoch g.outs))
  up_sound epoch u n =
      let b : Both (core x.link) s.talk.far.core (frames_in x.coming) (frames_in s.talk.far.hears) =
      subst (λ q. Both (core x.link) s.talk.far.core (frames_in q) (frames_in s.talk.far.hears)) u.hears
      (subst (λ c. Both c s.talk.far.core (frames_in s.talk.near.hears) (frames_in s.talk.far.hears)) u.core s.talk.sound) in
      subst (λ fs. Both (core g.link) s.talk.far.core (frames_in rest) (frames_in s.talk.far.hears ++ fs)) (sym (frames_sent now epoch g.outs))
      (subst (λ (h : Effect). Both (core h.link) s.talk.far.core (frames_in rest) (frames_in s.talk.far.hears ++ h.outs)) (sym stepped.is)
      (known.both now x.link i s.talk.far.core (frames_in x.coming) (frames_in rest) (frames_in s.talk.far.hears) u.phase (queue i x.coming rest taken) n b))

  up_hears : IsUp x s.talk.near → Hears s.talk.far.number rest
  up_hears u = all_rest _ i x.coming rest taken (subst (Hears s.talk.far.number) u.hears s.talk.one.hears)

  up_unset : x.link.phase ≡ Up → NoneIn sets_up y.coming
  up_unset u = subst (λ ph. Dated ph x.link.t1_at x.down_since now delay x.coming y.coming) u s.near_dates

  up_sends : (h : List ℕ) → IsUp x s.talk.near → Hears s.talk.near.number (flights now (number (record x { heard = Some h })) g.outs)
  up_sends h u = subst (λ m. Hears m (flights now (suc (length x.over)) g.outs)) (sym u.number) (hears_sent now (suc (length x.over)) g.outs (omega arith))

  other_over : (e : Epoch) (j : ℕ) → (j ≡ length x.over → ⊥) → slice_get x.over j ≡ slice_get (x.over ++ e ∷ []) j
  other_over e j n = get_other x.over e j n

  pub up_on : (h : List ℕ) → x.link.phase ≡ Up → Stand y s.talk.far h → OfEpoch s.talk.far.number h → (h ≡ [] → IsFresh (core g.link)) →
      any_begins g.notes ≡ false → NoRestartIn i → StaysOn g →
      SoundAfter set now delay g x rest (Some h) y
  up_on h u other o fresh e n on = by (on_phase g.link.phase on.phase)
    where
      is_up : IsUp x s.talk.near
      is_up = up_of x s.talk.near s.talk.far.heard s.talk.one.stand u

      done : (not (is_down x.link.phase) && is_down g.link.phase) ≡ false → Lasts g.link.phase (Some h) → (g.link.phase ≡ SettingUp → ⊥) →
          (g.link.phase ≡ Up) ⊎ (g.link.phase ≡ Releasing) → After x (record x { coming = rest; heard = Some h; link = g.link }) (core g.link) h →
          SoundAfter set now delay g x rest (Some h) y
      done d l z p a =
          let epoch : ℕ = suc (length x.over) in
          let x2 : End = record x { coming = rest; heard = Some h; link = g.link } in
          subst (Sound set now delay) (sym (near_stays set now g (record x { coming = rest; heard = Some h }) y e d))
          (made known set now delay settled x y s i rest taken g stepped x2 epoch refl stepped.rules stepped.bounded l (λ w. absurd (z w))
          (on_dated g.link.phase g.link.t1_at now delay x.down_since rest (y.coming ++ flights now epoch g.outs) p (none_more sets_up now epoch y.coming g.outs (up_unset u) (none_set_carried g.outs on.outs)))
          (up_goes known x y x2 s.talk (core g.link) h (flights now epoch g.outs) is_up a other o fresh (up_hears is_up) (up_sends h is_up) (λ w. none_sent opens now epoch g.outs (carries_opens g.outs on.outs)) (up_sound epoch is_up n)))

      by : (g.link.phase ≡ Up) ⊎ (g.link.phase ≡ Releasing) → SoundAfter set now delay g x rest (Some h) y
      by (inl v) =
          done (down_test x.link.phase g.link.phase Up Up u v) (subst (λ ph. Lasts ph (Some h)) (sym v) (h, refl)) (λ w. absurd (cc (v, w))) (inl v)
          (record { stands = inl (v, refl, refl, refl); same = other_over (epoch_of (core g.link) h) })
      by (inr v) =
          done (down_test x.link.phase g.link.phase Up Releasing u v) (subst (λ ph. Lasts ph (Some h)) (sym v) (h, refl)) (λ w. absurd (cc (v, w))) (inr v)
          (record { stands = inr (record { up = λ w. absurd (cc (v, w)); setting = λ w. absurd (cc (v, w)) }, get_end x.over (epoch_of (core g.link) h)); same = other_over (epoch_of (core g.link) h) })

  pub leaves_on : (h : List ℕ) → x.link.phase ≡ Up → Stand y s.talk.far h → OfEpoch s.talk.far.number h → (h ≡ [] → IsFresh (core g.link)) →
      g.link.phase ≡ Down → any_begins g.notes ≡ false → NoRestartIn i → NoneOf asks g.outs →
      SoundAfter set now delay g x rest (Some h) y
  leaves_on h u other o fresh v e n q =
      let epoch : ℕ = suc (length x.over) in
      let x2 : End = ended set now g.link (record x { coming = rest; heard = Some h }) in
      let is_up : IsUp x s.talk.near = up_of x s.talk.near s.talk.far.heard s.talk.one.stand u in
      down_made (Some h) v e (down_test x.link.phase g.link.phase Up Down u v) (up_unset u) (none_set g.outs q)
      (up_goes known x y x2 s.talk (core g.link) h (flights now epoch g.outs) is_up
      (record {
        stands = inr (apart_down x2 refl, nil_more x.over (epoch_of (core g.link) h));
        same = λ j m. other_over (epoch_of (core g.link) h) j m ∙ sym (ap (λ es. slice_get es j) (append-nil (x.over ++ epoch_of (core g.link) h ∷ [])));
      })
      other o fresh (up_hears is_up) (up_sends h is_up)
      (λ w. none_sent opens now epoch g.outs (opens_asked now delay y x.coming rest g.outs (no_set_up i rest x.coming taken n) (came known set now delay settled x y s i rest taken g stepped) s.far_dates w))
      (up_sound epoch is_up n))

  -- ---- it was Releasing

  off : x.link.phase ≡ Releasing → Off x s.talk.near s.talk.far.heard
  off u = off_of x s.talk.near s.talk.far.heard s.talk.one.stand (λ w. absurd (cc (u, w))) (λ w. absurd (cc (u, w)))

  releasing_unset : x.link.phase ≡ Releasing → NoneIn sets_up y.coming
  releasing_unset u = subst (λ ph. Dated ph x.link.t1_at x.down_since now delay x.coming y.coming) u s.near_dates

  pub idles_on : x.link.phase ≡ Releasing → g.link.phase ≡ Releasing → any_begins g.notes ≡ false → core g.link ≡ core x.link →
      NoneOf sets_up g.outs → NoneOf is_of_account g.outs → (y.link.phase ≡ SettingUp → NoneOf opens g.outs) →
      SoundAfter set now delay g x rest x.heard y
  idles_on u v e c n q o =
      let x2 : End = record x { coming = rest; link = g.link } in
      subst (Sound set now delay) (sym (near_stays set now g (record x { coming = rest }) y e (down_test x.link.phase g.link.phase Releasing Releasing u v)))
      (made known set now delay settled x y s i rest taken g stepped x2 (number x) refl stepped.rules stepped.bounded
      (subst (λ ph. Lasts ph x.heard) (sym v) (subst (λ ph. Lasts ph x.heard) u s.near.lasts)) (λ w. absurd (cc (v, w)))
      (on_dated g.link.phase g.link.t1_at now delay x.down_since rest (y.coming ++ flights now (number x) g.outs) (inr v) (none_more sets_up now (number x) y.coming g.outs (releasing_unset u) n))
      (off_talk known set now delay settled x y s i rest taken g stepped x2 (number x) (off u) (ap (λ l. x.over ++ l) (lasting_core g.link x.link x.heard c))
      (record { up = λ w. absurd (cc (v, w)); setting = λ w. absurd (cc (v, w)) }) q o))

  pub ends_on : x.link.phase ≡ Releasing → g.link.phase ≡ Down → any_begins g.notes ≡ false → core g.link ≡ core x.link → g.outs ≡ [] →
      SoundAfter set now delay g x rest x.heard y
  ends_on u v e c o =
      let x2 : End = ended set now g.link (record x { coming = rest }) in
      down_made x.heard v e (down_test x.link.phase g.link.phase Releasing Down u v) (releasing_unset u) (subst (NoneOf sets_up) (sym o) tt)
      (off_talk known set now delay settled x y s i rest taken g stepped x2 (number x) (off u) (append-nil (x.over ++ lasting g.link x.heard) ∙ ap (λ l. x.over ++ l) (lasting_core g.link x.link x.heard c)) (apart_down x2 refl)
      (subst (NoneOf is_of_account) (sym o) tt) (λ w. subst (NoneOf opens) (sym o) tt))
