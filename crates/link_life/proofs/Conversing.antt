-- A conversation goes on, begins, and fails to begin.
use Rattle.std.proofs.Common.{◌≡◌, ◌⊎◌, inl, inr, ◌<◌, ℕ, suc, false, List, [], ◌++◌, length, Some, slice_get, refl, ap, sym, ◌∙◌, subst, arith, length-append}
use Rattle.radio_base.proofs.Each.{each_append}
use Rattle.ax_link.specs.declared.phase.LinkPhase.TheVariants.{SettingUp}
use Rattle.ax_link.specs.Pair.{Both, Core, IsNew, core, opens}
use Rattle.ax_link.specs.State.{Frame}
use Rattle.link_life.specs.Ends.{End, Epoch, Flight, epochs, is_of_account, lasting}
use Rattle.link_life.specs.Laws.{EpochSafe}
use Rattle.link_life.proofs.Cases.{IsFresh, KeepsBoth}
use Rattle.link_life.proofs.Known.{Known}
use Rattle.link_life.proofs.Sounding.{behind_more, both_quiet, frames_both, hears_none, none_back, none_left, none_right}
use Rattle.link_life.proofs.Talks.{Apart, Hears, IsGone, IsNext, IsNone, NoneIn, OfEpoch, Part, Rest, Stand, Talk, behind_ua, frames_in, get_in, none_lasts}

abbrev pub more_coming : End → List Flight → End
more_coming y sent = record y { coming = y.coming ++ sent }

-- ---- more is under way to an end

apart_more : (y : End) (sent : List Flight) → (y.link.phase ≡ SettingUp → NoneIn opens sent) → Apart y → Apart (more_coming y sent)
apart_more y sent n a = record { up = a.up; setting = λ e. each_append (λ f. opens f.frame.kind ≡ false) y.coming sent (a.setting e) (n e) }

record Grown (y : End) (q : Part) (heard : List ℕ) (sent : List Flight) : Type 0 where
  hears : List Flight
  stand : Stand (more_coming y sent) (record q { hears = hears }) heard
  is : (hears ≡ q.hears ++ sent) ⊎ ((q.hears ≡ []) × (hears ≡ []))

grown : (y : End) (q : Part) (heard : List ℕ) (sent : List Flight) → Stand y q heard → (y.link.phase ≡ SettingUp → NoneIn opens sent) → Grown y q heard sent
grown y q heard sent (inl s) n =
    record { hears = q.hears ++ sent; stand = inl (record { phase = s.phase; lasts = s.lasts; number = s.number; core = s.core; hears = ap (λ fs. fs ++ sent) s.hears }); is = inl refl }
grown y q heard sent (inr (inl s)) n =
    record {
      hears = behind_ua (y.coming ++ sent);
      stand = inr (inl (record { phase = s.phase; lasts = s.lasts; number = s.number; core = s.core; new = s.new; heard = s.heard; hears = refl; unheard = s.unheard }));
      is = by (behind_more y.coming sent (n s.phase));
    }
  where
    by : (behind_ua (y.coming ++ sent) ≡ behind_ua y.coming ++ sent) ⊎ ((behind_ua y.coming ≡ []) × (behind_ua (y.coming ++ sent) ≡ [])) →
        (behind_ua (y.coming ++ sent) ≡ q.hears ++ sent) ⊎ ((q.hears ≡ []) × (behind_ua (y.coming ++ sent) ≡ []))
    by (inl e) = inl (e ∙ ap (λ fs. fs ++ sent) (sym s.hears))
    by (inr e) = inr (s.hears ∙ e.0, e.1)
grown y q heard sent (inr (inr (inl s))) n =
    record { hears = []; stand = inr (inr (inl (record { apart = apart_more y sent n s.apart; before = s.before; number = s.number; epoch = s.epoch; hears = refl }))); is = inr (s.hears, refl) }
grown y q heard sent (inr (inr (inr s))) n =
    record { hears = []; stand = inr (inr (inr (record { apart = apart_more y sent n s.apart; number = s.number; heard = s.heard; hears = refl; unheard = s.unheard }))); is = inr (s.hears, refl) }

grown_sound : Known → (c d : Core) (xs : List Frame) (q hears sent : List Flight) → (hears ≡ q ++ sent) ⊎ ((q ≡ []) × (hears ≡ [])) → Both c d xs (frames_in q ++ frames_in sent) → Both c d xs (frames_in hears)
grown_sound known c d xs q hears sent (inl e) b = subst (λ fs. Both c d xs (frames_in fs)) (sym e) (subst (Both c d xs) (sym (frames_both q sent)) b)
grown_sound known c d xs q hears sent (inr e) b = subst (λ fs. Both c d xs (frames_in fs)) (sym e.1) (none_right known c d xs (frames_in q ++ frames_in sent) b)

grown_hears : (n : ℕ) (q hears sent : List Flight) → (hears ≡ q ++ sent) ⊎ ((q ≡ []) × (hears ≡ [])) → Hears n q → Hears n sent → Hears n hears
grown_hears n q hears sent (inl e) a b = subst (Hears n) (sym e) (each_append _ q sent a b)
grown_hears n q hears sent (inr e) a b = subst (Hears n) (sym e.1) tt

-- ---- the near end has made a step

-- what it is then, and what the other end has to do with it
pub record Goes (x2 y : End) (p q : Part) (sent : List Flight) : Type 0 where
  pub stand : Stand x2 p q.heard
  pub other : Stand y q p.heard
  pub unopened : y.link.phase ≡ SettingUp → NoneIn opens sent
  pub heard : OfEpoch q.number p.heard
  pub other_heard : OfEpoch p.number q.heard
  pub hears : Hears q.number p.hears
  pub other_hears : Hears p.number q.hears
  pub sends : Hears p.number sent
  pub alone : p.heard ≡ [] → IsFresh p.core
  pub other_alone : q.heard ≡ [] → IsFresh q.core
  pub rest : Rest p.number q.number (epochs x2) (epochs y)
  pub other_rest : Rest q.number p.number (epochs y) (epochs x2)
  pub sound : Both p.core q.core (frames_in p.hears) (frames_in q.hears ++ frames_in sent)

pub goes : Known → (x2 y : End) (p q : Part) (sent : List Flight) → Goes x2 y p q sent → Talk x2 (more_coming y sent)
goes known x2 y p q sent g =
    let w : Grown y q p.heard sent = grown y q p.heard sent g.other g.unopened in
    record {
      near = p;
      far = record q { hears = w.hears };
      one = record { stand = g.stand; heard = g.heard; hears = g.hears; alone = g.alone; rest = g.rest };
      two = record { stand = w.stand; heard = g.other_heard; hears = grown_hears p.number q.hears w.hears sent w.is g.other_hears g.sends; alone = g.other_alone; rest = g.other_rest };
      sound = grown_sound known p.core q.core (frames_in p.hears) q.hears w.hears sent w.is g.sound;
    }

abbrev pub Off : End → Part → List ℕ → Type 0
Off x p heard = IsGone x p ⊎ IsNone x p heard

off_stand : (x x2 : End) (p : Part) (heard : List ℕ) → epochs x2 ≡ epochs x → Apart x2 → Off x p heard → Stand x2 p heard
off_stand x x2 p heard e a (inl s) = inr (inr (inl (record { apart = a; before = s.before; number = s.number; epoch = ap (λ es. slice_get es s.before) e ∙ s.epoch; hears = s.hears })))
off_stand x x2 p heard e a (inr s) = inr (inr (inr (record { apart = a; number = s.number; heard = s.heard; hears = s.hears; unheard = s.unheard })))

-- an end without a voice says nothing of account
pub off_goes : Known → (x y x2 : End) (t : Talk x y) (sent : List Flight) → Off x t.near t.far.heard → epochs x2 ≡ epochs x → Apart x2 → NoneIn is_of_account sent → (y.link.phase ≡ SettingUp → NoneIn opens sent) →
    Talk x2 (more_coming y sent)
off_goes known x y x2 t sent s e a q n =
    goes known x2 y t.near t.far sent (record {
      stand = off_stand x x2 t.near t.far.heard e a s;
      other = t.two.stand;
      unopened = n;
      heard = t.one.heard;
      other_heard = t.two.heard;
      hears = t.one.hears;
      other_hears = t.two.hears;
      sends = hears_none t.near.number sent q;
      alone = t.one.alone;
      other_alone = t.two.alone;
      rest = subst (λ es. Rest t.near.number t.far.number es (epochs y)) (sym e) t.one.rest;
      other_rest = subst (λ es. Rest t.far.number t.near.number (epochs y) es) (sym e) t.two.rest;
      sound = both_quiet known t.near.core t.far.core (frames_in t.near.hears) (frames_in t.far.hears) (frames_in sent) (none_back is_of_account sent q) t.sound;
    })

-- an end that is being set up goes on with it
pub next_goes : Known → (x y x2 : End) (t : Talk x y) (sent : List Flight) → IsNext x t.near t.far.heard → x2.link.phase ≡ SettingUp → x2.heard ≡ x.heard → x2.over ≡ x.over → IsNew x2.link →
    behind_ua x2.coming ≡ behind_ua x.coming → KeepsBoth x.link x2.link → NoneIn is_of_account sent → (y.link.phase ≡ SettingUp → NoneIn opens sent) → Talk x2 (more_coming y sent)
next_goes known x y x2 t sent s u h o w b k q n =
    let p : Part = record t.near { core = core x2.link } in
    let e : epochs x2 ≡ epochs x = same_epochs in
    goes known x2 y p t.far sent (record {
      stand = inr (inl (record { phase = u; lasts = h ∙ s.lasts; number = s.number ∙ ap (λ es. suc (length es)) (sym o); core = refl; new = w; heard = s.heard; hears = s.hears ∙ sym b; unheard = s.unheard }));
      other = t.two.stand;
      unopened = n;
      heard = t.one.heard;
      other_heard = t.two.heard;
      hears = t.one.hears;
      other_hears = t.two.hears;
      sends = hears_none t.near.number sent q;
      alone = λ z. record { acked = w.acked; reach = w.high };
      other_alone = t.two.alone;
      rest = subst (λ es. Rest t.near.number t.far.number es (epochs y)) (sym e) t.one.rest;
      other_rest = subst (λ es. Rest t.far.number t.near.number (epochs y) es) (sym e) t.two.rest;
      sound = both_quiet known (core x2.link) t.far.core (frames_in t.near.hears) (frames_in t.far.hears) (frames_in sent) (none_back is_of_account sent q)
          (k t.far.core (frames_in t.near.hears) (frames_in t.far.hears) (subst (λ c. Both c t.far.core (frames_in t.near.hears) (frames_in t.far.hears)) s.core t.sound));
    })
  where
    same_epochs : epochs x2 ≡ epochs x
    same_epochs = none_lasts x2.over x2.link x2.heard (h ∙ s.lasts) ∙ (o ∙ sym (none_lasts x.over x.link x.heard s.lasts))

-- it fails, and takes no part any more
pub next_fails : Known → (x y x2 : End) (t : Talk x y) (sent : List Flight) → IsNext x t.near t.far.heard → Apart x2 → epochs x2 ≡ epochs x → NoneIn is_of_account sent →
    (y.link.phase ≡ SettingUp → NoneIn opens sent) → Hears 0 t.far.hears → Talk x2 (more_coming y sent)
next_fails known x y x2 t sent s a e q n z =
    let p : Part = record { number = 0; core = t.near.core; heard = []; hears = [] } in
    goes known x2 y p t.far sent (record {
      stand = inr (inr (inr (record { apart = a; number = refl; heard = refl; hears = refl; unheard = s.unheard })));
      other = subst (λ h. Stand y t.far h) s.heard t.two.stand;
      unopened = n;
      heard = tt;
      other_heard = subst (OfEpoch 0) (sym s.unheard) tt;
      hears = tt;
      other_hears = z;
      sends = hears_none 0 sent q;
      alone = λ w. t.one.alone s.heard;
      other_alone = t.two.alone;
      rest = λ i d g m. t.one.rest i d (subst (λ es. slice_get es i ≡ Some d) e g) (λ f. not_there i d (subst (λ es. slice_get es i ≡ Some d) e g) (f ∙ s.number));
      other_rest = λ i d g m. let o = t.two.rest i d g m in record { safe = subst (λ es. EpochSafe (suc i) d es) (sym e) o.safe; apart = λ w v. absurd (omega (arith, w, v)) };
      sound = none_left known t.near.core t.far.core (frames_in t.near.hears) (frames_in t.far.hears ++ frames_in sent)
          (both_quiet known t.near.core t.far.core (frames_in t.near.hears) (frames_in t.far.hears) (frames_in sent) (none_back is_of_account sent q) t.sound);
    })
  where
    not_there : (i : ℕ) (d : Epoch) → slice_get (epochs x) i ≡ Some d → suc i ≡ suc (length x.over) → ⊥
    not_there i d g f =
        let none : List Epoch = [] in
        let l : i < length (x.over ++ none) = subst (λ o. i < length (x.over ++ lasting x.link o)) s.lasts (get_in (epochs x) i d g) in
        absurd (omega (arith, l, f, length-append x.over none))
