-- What may be changed of what is under way, and both ways stay sound.
use Rattle.std.proofs.Common.{◌≡◌, ◌⊎◌, inl, inr, ◌≤◌, ◌<◌, ◌+◌, ℕ, Bool, true, false, if◌then◌else◌, IsTrue, List, [], ◌∷◌, ◌++◌, Option, refl, ap, sym, ◌∙◌, subst, arith}
use Rattle.std.specs.List.{AllByRecursion}
use Rattle.radio_base.specs.declared.payload.Payload.{Payload}
use Rattle.ax_link.specs.declared.kind.Kind.{Kind}
use Rattle.ax_link.specs.declared.kind.Kind.TheVariants as kind
use Rattle.ax_link.specs.declared.phase.LinkPhase.TheVariants.{SettingUp, Up}
use Rattle.ax_link.specs.Opening.{opening}
use Rattle.ax_link.specs.Pair.{Both, Core, Fits, IsNew, ack_of, acks_of, core, opens, text_of, texts_of}
use Rattle.ax_link.specs.State.{Frame, Rules, State}
use Rattle.link_life.specs.Ends.{Flight, flights, is_of_account}
use Rattle.link_life.proofs.Cases.{NoneOf}
use Rattle.link_life.proofs.Known.{Known}
use Rattle.link_life.proofs.Talks.{Hears, NoneIn, behind_ua, both_swapped, frames_in}

-- ---- lists

pub frames_both : (xs ys : List Flight) → frames_in (xs ++ ys) ≡ frames_in xs ++ frames_in ys
frames_both [] ys = refl
frames_both (x ∷ xs) ys = ap (λ fs. x.frame ∷ fs) (frames_both xs ys)

pub frames_sent : (now epoch : ℕ) (fs : List Frame) → frames_in (flights now epoch fs) ≡ fs
frames_sent now epoch [] = refl
frames_sent now epoch (f ∷ fs) = ap (λ gs. f ∷ gs) (frames_sent now epoch fs)

pub none_sent : (test : Kind → Bool) (now epoch : ℕ) (fs : List Frame) → NoneOf test fs → NoneIn test (flights now epoch fs)
none_sent test now epoch [] a = tt
none_sent test now epoch (f ∷ fs) a = (a.0, none_sent test now epoch fs a.1)

pub none_back : (test : Kind → Bool) (fs : List Flight) → NoneIn test fs → NoneOf test (frames_in fs)
none_back test [] a = tt
none_back test (f ∷ fs) a = (a.0, none_back test fs a.1)

pub hears_none : (k : ℕ) (fs : List Flight) → NoneIn is_of_account fs → Hears k fs
hears_none k [] a = tt
hears_none k (f ∷ fs) a = (λ e. absurd (cc (a.0, e)), hears_none k fs a.1)

pub hears_sent : (now k : ℕ) (fs : List Frame) → 0 < k → Hears k (flights now k fs)
hears_sent now k [] z = tt
hears_sent now k (f ∷ fs) z = (λ e. record { same = refl; some = z }, hears_sent now k fs z)

-- ---- frames of no account

no_text : (k : Kind) (p : Option Payload) → is_of_account k ≡ false → (text_of k p ≡ []) × (ack_of k p ≡ [])
no_text (kind.I ns nr pf) p e = absurd (cc e)
no_text (kind.Rr nr pf) p e = absurd (cc e)
no_text (kind.Rnr nr pf) p e = absurd (cc e)
no_text (kind.Rej nr pf) p e = absurd (cc e)
no_text (kind.Srej nr pf) p e = absurd (cc e)
no_text _ p e = (refl, refl)

pub none_texts : (fs : List Frame) → NoneOf is_of_account fs → texts_of fs ≡ []
none_texts [] a = refl
none_texts (f ∷ fs) a = ap (λ ts. ts ++ texts_of fs) (no_text f.kind f.payload a.0).0 ∙ none_texts fs a.1

pub none_acks : (fs : List Frame) → NoneOf is_of_account fs → acks_of fs ≡ []
none_acks [] a = refl
none_acks (f ∷ fs) a = ap (λ ts. ts ++ acks_of fs) (no_text f.kind f.payload a.0).1 ∙ none_acks fs a.1

more_texts : (xs fs : List Frame) → NoneOf is_of_account fs → texts_of xs ≡ texts_of (xs ++ fs)
more_texts [] fs a = sym (none_texts fs a)
more_texts (x ∷ xs) fs a = ap (λ ts. text_of x.kind x.payload ++ ts) (more_texts xs fs a)

more_acks : (xs fs : List Frame) → NoneOf is_of_account fs → acks_of xs ≡ acks_of (xs ++ fs)
more_acks [] fs a = sym (none_acks fs a)
more_acks (x ∷ xs) fs a = ap (λ ts. ack_of x.kind x.payload ++ ts) (more_acks xs fs a)

pub both_quiet : Known → (c d : Core) (xs ys fs : List Frame) → NoneOf is_of_account fs → Both c d xs ys → Both c d xs (ys ++ fs)
both_quiet known c d xs ys fs a b = known.same c d xs xs ys (ys ++ fs) refl refl (more_texts ys fs a) (more_acks ys fs a) b

-- ---- losses

pub none_left : Known → (c d : Core) (xs ys : List Frame) → Both c d xs ys → Both c d [] ys
none_left known c d [] ys b = b
none_left known c d (x ∷ xs) ys b = none_left known c d xs ys (known.lost c d x xs ys b)

pub none_right : Known → (c d : Core) (xs ys : List Frame) → Both c d xs ys → Both c d xs []
none_right known c d xs ys b = both_swapped d c [] xs (none_left known d c ys xs (both_swapped c d xs ys b))

-- ---- what is behind a UA with F

pub behind_none : (fs : List Flight) → NoneIn opens fs → behind_ua fs ≡ []
behind_none [] n = refl
behind_none (f ∷ fs) n = by (opens f.frame.kind) n.0 (behind_none fs n.1)
  where
    by : (b : Bool) → b ≡ false → behind_ua fs ≡ [] → (if b then fs else behind_ua fs) ≡ []
    by true e r = absurd (cc e)
    by false e r = r

pub behind_more : (q fs : List Flight) → NoneIn opens fs → (behind_ua (q ++ fs) ≡ behind_ua q ++ fs) ⊎ ((behind_ua q ≡ []) × (behind_ua (q ++ fs) ≡ []))
behind_more [] fs n = inr (refl, behind_none fs n)
behind_more (f ∷ q) fs n = by (opens f.frame.kind) (behind_more q fs n)
  where
    by : (b : Bool) → (behind_ua (q ++ fs) ≡ behind_ua q ++ fs) ⊎ ((behind_ua q ≡ []) × (behind_ua (q ++ fs) ≡ [])) →
        ((if b then q ++ fs else behind_ua (q ++ fs)) ≡ (if b then q else behind_ua q) ++ fs) ⊎ (((if b then q else behind_ua q) ≡ []) × ((if b then q ++ fs else behind_ua (q ++ fs)) ≡ []))
    by true r = inl refl
    by false r = r

pub behind_all : (test : Flight → Type 0) (fs : List Flight) → AllByRecursion test fs → AllByRecursion test (behind_ua fs)
behind_all test [] a = tt
behind_all test (f ∷ fs) a = by (opens f.frame.kind) (behind_all test fs a.1)
  where
    by : (b : Bool) → AllByRecursion test (behind_ua fs) → AllByRecursion test (if b then fs else behind_ua fs)
    by true r = a.1
    by false r = r

-- behind all that doesn't open, one frame leaves nothing behind it
pub behind_last : (q : List Flight) (f : Flight) → NoneIn opens q → behind_ua (q ++ f ∷ []) ≡ []
behind_last [] f n = by (opens f.frame.kind)
  where
    by : (b : Bool) → ◌≡◌ {A = List Flight} (if b then [] else []) []
    by true = refl
    by false = refl
behind_last (x ∷ q) f n = by (opens x.frame.kind) n.0 (behind_last q f n.1)
  where
    by : (b : Bool) → b ≡ false → behind_ua (q ++ f ∷ []) ≡ [] → (if b then q ++ f ∷ [] else behind_ua (q ++ f ∷ [])) ≡ []
    by true e r = absurd (cc e)
    by false e r = r

-- ---- two new ends

fits_of : (o a b : State) → a.rules ≡ o.rules → b.rules ≡ o.rules → Fits (core o) (core o) → Fits (core a) (core b)
fits_of o a b e q f =
    record {
      size = ap (λ r. r.size) q ∙ sym (ap (λ r. r.size) e);
      window = subst (λ (r : Rules). r.window < r.size) (sym e) f.window;
      both = subst (λ (r : Rules). IsTrue b.rules.srej → r.window + b.rules.window ≤ r.size) (sym e)
          (subst (λ (r : Rules). IsTrue r.srej → o.rules.window + r.window ≤ o.rules.size) (sym q) f.both);
    }

pub both_new : Known → (rules : Rules) (a b : State) (xs ys : List Frame) → Fits (core (opening rules)) (core (opening rules)) → a.rules ≡ rules → b.rules ≡ rules → IsNew a → IsNew b →
    NoneOf is_of_account xs → NoneOf is_of_account ys → Both (core a) (core b) xs ys
both_new known rules a b xs ys f e q m n u v =
    let l : State = record a { phase = Up } in
    let r : State = record b { phase = SettingUp } in
    let p = known.start l r [] [] refl refl (fits_of (opening rules) l r e q f) (fits_of (opening rules) r l q e f)
    (record { acked = m.acked; sent = m.sent; high = m.high }) (record { acked = n.acked; sent = n.sent; high = n.high }) (omega arith) refl refl refl refl in
    known.same (core a) (core b) [] xs [] ys (sym (none_texts xs u)) (sym (none_acks xs u)) (sym (none_texts ys v)) (sym (none_acks ys v)) (record { out = p.rightward; back = p.leftward })
