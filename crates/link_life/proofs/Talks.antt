-- Two ends in a conversation: an epoch of one and an epoch of the other, which are partners once they hear of each other.
use Rattle.std.proofs.Common.{◌≡◌, ◌⊎◌, inl, inr, ◌<◌, ℕ, zero, suc, Bool, true, false, if◌then◌else◌, List, [], ◌∷◌, ◌++◌, length, map, Option, Some, None, slice_get, refl, ap, sym, ◌∙◌, subst, arith, append-nil}
use Rattle.std.specs.List.{AllByRecursion}
use Rattle.std.proofs.lemmas.List.{nil_from_length}
use Rattle.ax_link.specs.declared.kind.Kind.{Kind}
use Rattle.ax_link.specs.declared.phase.LinkPhase.TheVariants.{SettingUp, Up}
use Rattle.ax_link.specs.Pair.{Both, Core, IsNew, acks_of, core, opens}
use Rattle.ax_link.specs.State.{Frame, State}
use Rattle.ax_link.proofs.Ways.{acks_low}
use Rattle.link_life.specs.Ends.{End, Epoch, Flight, epochs, is_of_account, lasting, partner_of}
use Rattle.link_life.specs.Laws.{ArePartners, EpochSafe, IsFrom, WithPartner}
use Rattle.link_life.proofs.Cases.{IsFresh}

-- what is under way behind the first UA with F
abbrev pub behind_ua : List Flight → List Flight
behind_ua [] = []
behind_ua (f ∷ fs) = if opens f.frame.kind then fs else behind_ua fs

abbrev pub frames_in : List Flight → List Frame
frames_in fs = map (λ f. f.frame) fs

abbrev pub NoneIn : (Kind → Bool) → List Flight → Type 0
NoneIn test fs = AllByRecursion (λ f. test f.frame.kind ≡ false) fs

-- an end's part: its epoch's number, what it knows, from which epochs it has heard, and what of account it will hear
pub record Part : Type 0 where
  pub number : ℕ
  pub core : Core
  pub heard : List ℕ
  pub hears : List Flight

abbrev pub epoch_of : Core → List ℕ → Epoch
epoch_of c heard = record { given = c.given; received = c.received; acked = c.acked; heard = heard }

-- an end that isn't Up, and isn't about to come up
pub record Apart (e : End) : Type 0 where
  pub up : e.link.phase ≡ Up → ⊥
  pub setting : e.link.phase ≡ SettingUp → NoneIn opens e.coming

-- it is Up
pub record IsUp (e : End) (p : Part) : Type 0 where
  pub phase : e.link.phase ≡ Up
  pub lasts : e.heard ≡ Some p.heard
  pub number : p.number ≡ suc (length e.over)
  pub core : p.core ≡ core e.link
  pub hears : p.hears ≡ e.coming

-- it is being set up, and its epoch is the next one; the other end has heard nothing
pub record IsNext (e : End) (p : Part) (other_heard : List ℕ) : Type 0 where
  pub phase : e.link.phase ≡ SettingUp
  pub lasts : e.heard ≡ None
  pub number : p.number ≡ suc (length e.over)
  pub core : p.core ≡ core e.link
  pub new : IsNew e.link
  pub heard : p.heard ≡ []
  pub hears : p.hears ≡ behind_ua e.coming
  pub unheard : other_heard ≡ []

-- its epoch is over, or about to be
pub record IsGone (e : End) (p : Part) : Type 0 where
  pub apart : Apart e
  pub before : ℕ
  pub number : p.number ≡ suc before
  pub epoch : slice_get (epochs e) before ≡ Some (epoch_of p.core p.heard)
  pub hears : p.hears ≡ []

-- it takes no part
pub record IsNone (e : End) (p : Part) (other_heard : List ℕ) : Type 0 where
  pub apart : Apart e
  pub number : p.number ≡ 0
  pub heard : p.heard ≡ []
  pub hears : p.hears ≡ []
  pub unheard : other_heard ≡ []

abbrev pub Stand : End → Part → List ℕ → Type 0
Stand e p other_heard = IsUp e p ⊎ (IsNext e p other_heard ⊎ (IsGone e p ⊎ IsNone e p other_heard))

-- all that was heard, and all that will be, is of this epoch
abbrev pub OfEpoch : ℕ → List ℕ → Type 0
OfEpoch k heard = AllByRecursion (IsFrom k) heard

abbrev pub Hears : ℕ → List Flight → Type 0
Hears k fs = AllByRecursion (λ f. is_of_account f.frame.kind ≡ true → IsFrom k f.epoch) fs

-- an epoch that has no part in the conversation is safe, and its partner has none either
pub record OffTalk (number k : ℕ) (e : Epoch) (others : List Epoch) : Type 0 where
  pub safe : EpochSafe number e others
  pub apart : 0 < partner_of e.heard → partner_of e.heard ≡ k → ⊥

abbrev pub Rest : ℕ → ℕ → List Epoch → List Epoch → Type 0
Rest n k es others = (i : ℕ) (e : Epoch) → slice_get es i ≡ Some e → (suc i ≡ n → ⊥) → OffTalk (suc i) k e others

-- one side of a conversation, and both
pub record Side (x y : End) (p q : Part) : Type 0 where
  pub stand : Stand x p q.heard
  pub heard : OfEpoch q.number p.heard
  pub hears : Hears q.number p.hears
  pub alone : p.heard ≡ [] → IsFresh p.core
  pub rest : Rest p.number q.number (epochs x) (epochs y)

pub record Talk (x y : End) : Type 0 where
  pub near : Part
  pub far : Part
  pub one : Side x y near far
  pub two : Side y x far near
  pub sound : Both near.core far.core (frames_in near.hears) (frames_in far.hears)

pub both_swapped : (a b : Core) (x y : List Frame) → Both a b x y → Both b a y x
both_swapped a b x y w = record { out = w.back; back = w.out }

pub swapped : (x y : End) → Talk x y → Talk y x
swapped x y t = record { near = t.far; far = t.near; one = t.two; two = t.one; sound = both_swapped t.near.core t.far.core (frames_in t.near.hears) (frames_in t.far.hears) t.sound }

-- ---- lists

-- of an end without an epoch that lasts
pub none_lasts : (over : List Epoch) (l : State) (h : Option (List ℕ)) → h ≡ None → over ++ lasting l h ≡ over
none_lasts over l h e = subst (λ o. over ++ lasting l o ≡ over) (sym e) (append-nil over)

pub get_end : {A : Type 0} (xs : List A) (y : A) → slice_get (xs ++ y ∷ []) (length xs) ≡ Some y
get_end [] y = refl
get_end (x ∷ xs) y = get_end xs y

pub get_in : {A : Type 0} (xs : List A) (i : ℕ) (y : A) → slice_get xs i ≡ Some y → i < length xs
get_in [] i y e = absurd (cc e)
get_in (x ∷ xs) zero y e = omega arith
get_in (x ∷ xs) (suc i) y e = let l = get_in xs i y e in omega (arith, l)

-- what stands elsewhere than behind these
pub get_other : {A : Type 0} (xs : List A) (y : A) (i : ℕ) → (i ≡ length xs → ⊥) → slice_get xs i ≡ slice_get (xs ++ y ∷ []) i
get_other [] y zero n = absurd (n refl)
get_other [] y (suc i) n = refl
get_other (x ∷ xs) y zero n = refl
get_other (x ∷ xs) y (suc i) n = get_other xs y i (λ e. n (ap suc e))

-- ---- in a conversation all epochs are safe

back_of : (n : ℕ) (heard : List ℕ) → OfEpoch n heard → (partner_of heard ≡ 0) ⊎ (partner_of heard ≡ n)
back_of n [] o = inl refl
back_of n (k ∷ ks) o = inr o.0.same

pub epoch_safe : (n k : ℕ) (c d : Core) (h g : List ℕ) (fs gs : List Frame) (others : List Epoch) → Both c d fs gs → OfEpoch k h → OfEpoch n g → (h ≡ [] → IsFresh c) →
    ((h ≡ [] → ⊥) → (j : ℕ) × (k ≡ suc j) × (slice_get others j ≡ Some (epoch_of d g))) → EpochSafe n (epoch_of c h) others
epoch_safe n k c d [] g fs gs others b o u alone at =
    let f = alone refl in let r = f.reach in
    record { heard = tt; partner = record { got = nil_from_length c.received (omega (arith, r)); acked = f.acked } }
epoch_safe n k c d (m ∷ ms) g fs gs others b o u alone at =
    let p = at (λ e. absurd (cc e)) in
    let partners : ArePartners n (epoch_of c (m ∷ ms)) (epoch_of d g) =
    record { got = b.back.begun; acked = acks_low c.rules.size (length d.received) (acks_of fs) c.acked b.out.acks; partners_partner = back_of n g u } in
    record {
      heard = subst (λ q. AllByRecursion (IsFrom q) (m ∷ ms)) (sym o.0.same) o;
      partner = subst (λ q. WithPartner q n (epoch_of c (m ∷ ms)) others) (sym (o.0.same ∙ p.1)) (epoch_of d g, p.2, partners);
    }

-- where a part stands among the epochs, if it has been heard
pub partner_at : (y : End) (q : Part) (heard : List ℕ) → Stand y q heard → (heard ≡ [] → ⊥) → (j : ℕ) × (q.number ≡ suc j) × (slice_get (epochs y) j ≡ Some (epoch_of q.core q.heard))
partner_at y q heard (inl s) n = (
  length y.over,
  s.number,
  subst (λ o. slice_get (y.over ++ (elim o as (λ z. List Epoch) [ None ↦ [] | Some h ↦ epoch_of (core y.link) h ∷ [] ])) (length y.over) ≡ Some (epoch_of q.core q.heard)) (sym s.lasts)
      (subst (λ c. slice_get (y.over ++ epoch_of (core y.link) q.heard ∷ []) (length y.over) ≡ Some (epoch_of c q.heard)) (sym s.core) (get_end y.over (epoch_of (core y.link) q.heard))),
)
partner_at y q heard (inr (inl s)) n = absurd (n s.unheard)
partner_at y q heard (inr (inr (inl s))) n = (s.before, s.number, s.epoch)
partner_at y q heard (inr (inr (inr s))) n = absurd (n s.unheard)
