-- An end comes up, begins anew, meets another set-up, and hears; and frames are lost.
use Rattle.std.proofs.Common.{◌≡◌, ◌⊎◌, inl, inr, ◌<◌, ℕ, suc, Bool, true, false, if◌then◌else◌, List, [], ◌∷◌, ◌++◌, length, Some, None, slice_get, refl, ap, sym, ◌∙◌, subst, arith}
use Rattle.ax_link.specs.declared.phase.LinkPhase.{LinkPhase}
use Rattle.ax_link.specs.declared.phase.LinkPhase.TheVariants.{Down, SettingUp, Up, Releasing}
use Rattle.ax_link.specs.Carrying.{is_on}
use Rattle.ax_link.specs.Opening.{opening}
use Rattle.ax_link.specs.Pair.{Both, Core, Fits, IsNew, core, opens}
use Rattle.ax_link.specs.State.{Rules, State}
use Rattle.link_life.specs.Ends.{End, Flight, epochs, is_of_account, lasting}
use Rattle.link_life.specs.Laws.{IsFrom}
use Rattle.link_life.proofs.Cases.{IsFresh, NoneOf}
use Rattle.link_life.proofs.Conversing.{goes, more_coming}
use Rattle.link_life.proofs.Known.{Known}
use Rattle.link_life.proofs.Partners.{rest_begun, rest_kept, rest_moved, rest_new, talk_safe}
use Rattle.link_life.proofs.Sounding.{behind_all, behind_last, behind_none, both_new, hears_none, none_back, none_left}
use Rattle.link_life.proofs.Talks.{Apart, Hears, IsNext, IsUp, NoneIn, OfEpoch, Part, Rest, Stand, Talk, behind_ua, epoch_of, frames_in, get_end, get_other, none_lasts}

pub on_phase : (ph : LinkPhase) → is_on ph ≡ true → (ph ≡ Up) ⊎ (ph ≡ Releasing)
on_phase Down e = absurd (cc e)
on_phase SettingUp e = absurd (cc e)
on_phase Up e = inl refl
on_phase Releasing e = inr refl

not_up : (e : End) → e.link.phase ≡ Releasing → Apart e
not_up e u = record { up = λ v. absurd (cc (u, v)); setting = λ v. absurd (cc (u, v)) }

-- ---- an end that was set up comes up

abbrev pub begun : End → State → List Flight → End
begun x l coming = record x { link = l; over = epochs x; heard = Some []; coming = coming }

pub next_opens : Known → (x y : End) (t : Talk x y) (l : State) (coming sent : List Flight) → IsNext x t.near t.far.heard → behind_ua x.coming ≡ coming → is_on l.phase ≡ true → IsFresh (core l) →
    Hears t.near.number sent → (y.link.phase ≡ SettingUp → NoneIn opens sent) →
    (Both (core x.link) t.far.core (frames_in coming) (frames_in t.far.hears) → Both (core l) t.far.core (frames_in coming) (frames_in t.far.hears ++ frames_in sent)) →
    Talk (begun x l coming) (more_coming y sent)
next_opens known x y t l coming sent s b on fresh h n step = by (on_phase l.phase on)
  where
    count : t.near.number ≡ suc (length (epochs x))
    count = s.number ∙ ap (λ es. suc (length es)) (sym (none_lasts x.over x.link x.heard s.lasts))

    same : (i : ℕ) → (suc i ≡ t.near.number → ⊥) → slice_get (epochs x) i ≡ slice_get (epochs (begun x l coming)) i
    same i m = get_other (epochs x) (epoch_of (core l) []) i (λ e. m (ap suc e ∙ sym count))

    sounds : Both (core l) t.far.core (frames_in coming) (frames_in t.far.hears ++ frames_in sent)
    sounds =
        step
        (subst (λ q. Both (core x.link) t.far.core (frames_in q) (frames_in t.far.hears)) (s.hears ∙ b)
        (subst (λ c. Both c t.far.core (frames_in t.near.hears) (frames_in t.far.hears)) s.core t.sound))

    hears : Hears t.far.number coming
    hears = subst (Hears t.far.number) (s.hears ∙ b) t.one.hears

    made : (q : List Flight) → Stand (begun x l coming) (record { number = t.near.number; core = core l; heard = []; hears = q }) t.far.heard → Hears t.far.number q →
        Both (core l) t.far.core (frames_in q) (frames_in t.far.hears ++ frames_in sent) → Talk (begun x l coming) (more_coming y sent)
    made q stand k sound =
        goes known (begun x l coming) y (record { number = t.near.number; core = core l; heard = []; hears = q }) t.far sent (record {
          stand = stand;
          other = subst (λ w. Stand y t.far w) s.heard t.two.stand;
          unopened = n;
          heard = tt;
          other_heard = t.two.heard;
          hears = k;
          other_hears = t.two.hears;
          sends = h;
          alone = λ e. fresh;
          other_alone = t.two.alone;
          rest = rest_moved t.near.number t.far.number (epochs x) (epochs (begun x l coming)) (epochs y) same t.one.rest;
          other_rest = rest_kept t.far.number t.near.number (epochs y) (epochs x) (epochs (begun x l coming)) same t.two.rest;
          sound = sound;
        })

    by : (l.phase ≡ Up) ⊎ (l.phase ≡ Releasing) → Talk (begun x l coming) (more_coming y sent)
    by (inl u) = made coming (inl (record { phase = u; lasts = refl; number = count; core = refl; hears = refl })) hears sounds
    by (inr u) =
        made [] (inr (inr (inl (record { apart = not_up (begun x l coming) u; before = length (epochs x); number = count; epoch = get_end (epochs x) (epoch_of (core l) []); hears = refl })))) tt
        (none_left known (core l) t.far.core (frames_in coming) (frames_in t.far.hears ++ frames_in sent) sounds)

-- ---- an end that is Up goes on or leaves

-- what it is then
pub record After (x x2 : End) (c : Core) (heard : List ℕ) : Type 0 where
  pub stands : ((x2.link.phase ≡ Up) × (x2.heard ≡ Some heard) × (x2.over ≡ x.over) × (c ≡ core x2.link)) ⊎ (Apart x2 × (slice_get (epochs x2) (length x.over) ≡ Some (epoch_of c heard)))
  pub same : (i : ℕ) → (i ≡ length x.over → ⊥) → slice_get x.over i ≡ slice_get (epochs x2) i

pub up_goes : Known → (x y x2 : End) (t : Talk x y) (c : Core) (heard : List ℕ) (sent : List Flight) → IsUp x t.near → After x x2 c heard → Stand y t.far heard → OfEpoch t.far.number heard →
    (heard ≡ [] → IsFresh c) → Hears t.far.number x2.coming → Hears t.near.number sent → (y.link.phase ≡ SettingUp → NoneIn opens sent) →
    Both c t.far.core (frames_in x2.coming) (frames_in t.far.hears ++ frames_in sent) → Talk x2 (more_coming y sent)
up_goes known x y x2 t c heard sent s a other o fresh k h n sound = by a.stands
  where
    was : epochs x ≡ x.over ++ epoch_of (core x.link) t.near.heard ∷ []
    was = ap (λ w. x.over ++ lasting x.link w) s.lasts

    same : (i : ℕ) → (suc i ≡ t.near.number → ⊥) → slice_get (epochs x) i ≡ slice_get (epochs x2) i
    same i m =
        let m2 : i ≡ length x.over → ⊥ = λ e. m (ap suc e ∙ sym s.number) in
        ap (λ es. slice_get es i) was ∙ (sym (get_other x.over (epoch_of (core x.link) t.near.heard) i m2) ∙ a.same i m2)

    made : (q : List Flight) → Stand x2 (record { number = t.near.number; core = c; heard = heard; hears = q }) t.far.heard → Hears t.far.number q → Both c t.far.core (frames_in q) (frames_in t.far.hears ++ frames_in sent) →
        Talk x2 (more_coming y sent)
    made q stand k2 b =
        goes known x2 y (record { number = t.near.number; core = c; heard = heard; hears = q }) t.far sent (record {
          stand = stand;
          other = other;
          unopened = n;
          heard = o;
          other_heard = t.two.heard;
          hears = k2;
          other_hears = t.two.hears;
          sends = h;
          alone = fresh;
          other_alone = t.two.alone;
          rest = rest_moved t.near.number t.far.number (epochs x) (epochs x2) (epochs y) same t.one.rest;
          other_rest = rest_kept t.far.number t.near.number (epochs y) (epochs x) (epochs x2) same t.two.rest;
          sound = b;
        })

    by : ((x2.link.phase ≡ Up) × (x2.heard ≡ Some heard) × (x2.over ≡ x.over) × (c ≡ core x2.link)) ⊎ (Apart x2 × (slice_get (epochs x2) (length x.over) ≡ Some (epoch_of c heard))) → Talk x2 (more_coming y sent)
    by (inl u) = made x2.coming (inl (record { phase = u.0; lasts = u.1; number = s.number ∙ ap (λ es. suc (length es)) (sym u.2); core = u.3; hears = refl })) k sound
    by (inr u) =
        made [] (inr (inr (inl (record { apart = u.0; before = length x.over; number = s.number; epoch = u.1; hears = refl })))) tt
        (none_left known c t.far.core (frames_in x2.coming) (frames_in t.far.hears ++ frames_in sent) sound)

-- what the other end is when this one hears one more
pub heard_one : (y : End) (q : Part) (heard : List ℕ) (k : ℕ) → Stand y q heard → IsFrom q.number k → (y.link.phase ≡ SettingUp → ⊥) → Stand y q (heard ++ k ∷ [])
heard_one y q heard k (inl s) f n = inl s
heard_one y q heard k (inr (inl s)) f n = absurd (n s.phase)
heard_one y q heard k (inr (inr (inl s))) f n = inr (inr (inl s))
heard_one y q heard k (inr (inr (inr s))) f n = let e = f.same in let z = f.some in let m = s.number in absurd (omega (arith, e, z, m))

-- ---- a set-up command comes, of an end that is being set up

pub record Asker (set : Rules) (y : End) : Type 0 where
  pub phase : y.link.phase ≡ SettingUp
  pub lasts : y.heard ≡ None
  pub new : IsNew y.link
  pub rules : y.link.rules ≡ set
  pub unopened : NoneIn opens y.coming

asker_few : (rules : Rules) (y : End) → Asker rules y → length (epochs y) < suc (length y.over)
asker_few rules y a = let e = ap length (none_lasts y.over y.link y.heard a.lasts) in omega (arith, e)

pub begins : Known → (rules : Rules) (x y : End) (l : State) (coming : List Flight) (f : Flight) → Fits (core (opening rules)) (core (opening rules)) → Talk x y → Asker rules y →
    l.phase ≡ Up → IsNew l → l.rules ≡ rules → NoneIn is_of_account coming → Talk (begun x l coming) (more_coming y (f ∷ []))
begins known rules x y l coming f fits t a u n r q =
    let safe = talk_safe x y t in
    let last : behind_ua (y.coming ++ f ∷ []) ≡ [] = behind_last y.coming f a.unopened in
    let near : Part = record { number = suc (length (epochs x)); core = core l; heard = []; hears = coming } in
    let far : Part = record { number = suc (length y.over); core = core y.link; heard = []; hears = behind_ua (y.coming ++ f ∷ []) } in
    record {
      near = near;
      far = far;
      one = record {
        stand = inl (record { phase = u; lasts = refl; number = refl; core = refl; hears = refl });
        heard = tt;
        hears = hears_none far.number coming q;
        alone = λ e. record { acked = n.acked; reach = n.high };
        rest = rest_begun far.number (epochs x) (epochs y) (epoch_of (core l) []) safe.0 (asker_few rules y a);
      };
      two = record {
        stand = inr (inl (record { phase = a.phase; lasts = a.lasts; number = refl; core = refl; new = a.new; heard = refl; hears = refl; unheard = refl }));
        heard = tt;
        hears = subst (Hears near.number) (sym last) tt;
        alone = λ e. record { acked = a.new.acked; reach = a.new.high };
        rest = rest_kept far.number near.number (epochs y) (epochs x) (epochs (begun x l coming)) (λ i m. get_other (epochs x) (epoch_of (core l) []) i (λ e. m (ap suc e)))
            (rest_new far.number near.number (epochs y) (epochs x) safe.1 (omega arith));
      };
      sound = both_new known rules l y.link (frames_in coming) (frames_in far.hears) fits r a.rules n a.new (none_back is_of_account coming q) (subst (λ fs. NoneOf is_of_account (frames_in fs)) (sym last) tt);
    }

pub crosses : Known → (rules : Rules) (x y : End) (l : State) (coming : List Flight) (f : Flight) → Fits (core (opening rules)) (core (opening rules)) → Talk x y → Asker rules y →
    l.phase ≡ SettingUp → x.heard ≡ None → IsNew l → l.rules ≡ rules → NoneIn is_of_account coming → Talk (record x { link = l; coming = coming }) (more_coming y (f ∷ []))
crosses known rules x y l coming f fits t a u w n r q =
    let safe = talk_safe x y t in
    let x2 : End = record x { link = l; coming = coming } in
    let e : epochs x ≡ epochs x2 = none_lasts x.over x.link x.heard w ∙ sym (none_lasts x.over l x.heard w) in
    let few : length (epochs x) < suc (length x.over) = short (none_lasts x.over x.link x.heard w) in
    let last : behind_ua (y.coming ++ f ∷ []) ≡ [] = behind_last y.coming f a.unopened in
    let near : Part = record { number = suc (length x.over); core = core l; heard = []; hears = behind_ua coming } in
    let far : Part = record { number = suc (length y.over); core = core y.link; heard = []; hears = behind_ua (y.coming ++ f ∷ []) } in
    let quiet : NoneIn is_of_account (behind_ua coming) = behind_all (λ g. is_of_account g.frame.kind ≡ false) coming q in
    record {
      near = near;
      far = far;
      one = record {
        stand = inr (inl (record { phase = u; lasts = w; number = refl; core = refl; new = n; heard = refl; hears = refl; unheard = refl }));
        heard = tt;
        hears = hears_none far.number (behind_ua coming) quiet;
        alone = λ z. record { acked = n.acked; reach = n.high };
        rest = subst (λ es. Rest near.number far.number es (epochs y)) e (rest_new near.number far.number (epochs x) (epochs y) safe.0 (asker_few rules y a));
      };
      two = record {
        stand = inr (inl (record { phase = a.phase; lasts = a.lasts; number = refl; core = refl; new = a.new; heard = refl; hears = refl; unheard = refl }));
        heard = tt;
        hears = subst (Hears near.number) (sym last) tt;
        alone = λ z. record { acked = a.new.acked; reach = a.new.high };
        rest = subst (λ es. Rest far.number near.number (epochs y) es) e (rest_new far.number near.number (epochs y) (epochs x) safe.1 few);
      };
      sound = both_new known rules l y.link (frames_in near.hears) (frames_in far.hears) fits r a.rules n a.new (none_back is_of_account (behind_ua coming) quiet) (subst (λ fs. NoneOf is_of_account (frames_in fs)) (sym last) tt);
    }
  where
    short : epochs x ≡ x.over → length (epochs x) < suc (length x.over)
    short z = let v = ap length z in omega (arith, v)

-- ---- the oldest frame is lost

pub loses : Known → (x y : End) (f : Flight) (fs : List Flight) (t : Talk x y) → x.coming ≡ f ∷ fs → (x.link.phase ≡ SettingUp → opens f.frame.kind ≡ true → NoneIn opens fs) → Talk (record x { coming = fs }) y
loses known x y f fs t e n = by t.one.stand
  where
    made : (q : List Flight) → Stand (record x { coming = fs }) (record t.near { hears = q }) t.far.heard → Hears t.far.number q → Both t.near.core t.far.core (frames_in q) (frames_in t.far.hears) → Talk (record x { coming = fs }) y
    made q stand k b =
        record {
          near = record t.near { hears = q };
          far = t.far;
          one = record { stand = stand; heard = t.one.heard; hears = k; alone = t.one.alone; rest = t.one.rest };
          two = record { stand = t.two.stand; heard = t.two.heard; hears = t.two.hears; alone = t.two.alone; rest = t.two.rest };
          sound = b;
        }

    apart : Apart x → Apart (record x { coming = fs })
    apart a = record { up = a.up; setting = λ u. (subst (NoneIn opens) e (a.setting u)).1 }

    opened : (b : Bool) → opens f.frame.kind ≡ b → x.link.phase ≡ SettingUp → t.near.hears ≡ (if b then fs else behind_ua fs) → Hears t.far.number (behind_ua fs) × Both t.near.core t.far.core (frames_in (behind_ua fs)) (frames_in t.far.hears)
    opened true o u w =
        let none : behind_ua fs ≡ [] = behind_none fs (n u o) in (
          subst (Hears t.far.number) (sym none) tt,
          subst (λ q. Both t.near.core t.far.core (frames_in q) (frames_in t.far.hears)) (sym none) (none_left known t.near.core t.far.core (frames_in t.near.hears) (frames_in t.far.hears) t.sound),
        )
    opened false o u w = (subst (Hears t.far.number) w t.one.hears, subst (λ q. Both t.near.core t.far.core (frames_in q) (frames_in t.far.hears)) w t.sound)

    by : Stand x t.near t.far.heard → Talk (record x { coming = fs }) y
    by (inl s) =
        made fs (inl (record { phase = s.phase; lasts = s.lasts; number = s.number; core = s.core; hears = refl })) (subst (Hears t.far.number) (s.hears ∙ e) t.one.hears).1
        (known.lost t.near.core t.far.core f.frame (frames_in fs) (frames_in t.far.hears) (subst (λ q. Both t.near.core t.far.core (frames_in q) (frames_in t.far.hears)) (s.hears ∙ e) t.sound))
    by (inr (inl s)) =
        let o = opened (opens f.frame.kind) refl s.phase (s.hears ∙ ap behind_ua e) in
        made (behind_ua fs) (inr (inl (record { phase = s.phase; lasts = s.lasts; number = s.number; core = s.core; new = s.new; heard = s.heard; hears = refl; unheard = s.unheard }))) o.0 o.1
    by (inr (inr (inl s))) =
        made t.near.hears (inr (inr (inl (record { apart = apart s.apart; before = s.before; number = s.number; epoch = s.epoch; hears = s.hears })))) t.one.hears t.sound
    by (inr (inr (inr s))) =
        made t.near.hears (inr (inr (inr (record { apart = apart s.apart; number = s.number; heard = s.heard; hears = s.hears; unheard = s.unheard })))) t.one.hears t.sound
