-- What the book notes, read off the events by how they split.
use Rattle.std.specs.Prelude.{◌≡◌, ℕ, ◌⊎◌, Bool, true, false, ◌||◌, nat_eq, List, [], ◌∷◌, ◌++◌, Option, Some, None, refl}
use Rattle.std.proofs.Common.{sym, ◌∙◌, ap, subst, inl, inr}
use Rattle.std.proofs.lemmas.Bool.{and_parts, eqb-true}
use Rattle.circuit_l4.specs.declared.pair.Pair.{Pair}
use Rattle.circuit_set.specs.TooLate.{Has, Last}
use Rattle.circuit_set.specs.Books.{Book, Fresh, FreshFrom, Timely, TimelyTold, FreshTold, empty, lost_with, with_event, with_events, lost_in}
use Rattle.circuit_table.specs.Events.{Event, Name, same_name}
use Rattle.circuit_table.specs.Sets.{same_pair}
use Rattle.circuit_set.proofs.Among.{by_snoc, has_cases, has_last, has_new, has_nothing, has_old, last_cases, last_new, last_old}
use Rattle.circuit_set.proofs.Bridge.{name_itself}
use Rattle.circuit_set.proofs.Noting.{noted_append}

-- ---- the book of these events ----
abbrev pub book : List Event → Book
book es = with_events empty es

pub book_more : (es : List Event) (e : Event) → book (es ++ e ∷ []) ≡ with_event (book es) e
book_more es e = noted_append empty es (e ∷ [])

pub lost_more : (lost : List Name) (es : List Event) (e : Event) → lost_in lost (es ++ e ∷ []) ≡ lost_with (lost_in lost es) e.node e.told
lost_more lost [] e = refl
lost_more lost (k ∷ es) e = lost_more (lost_with lost k.node k.told) es e

fresh_parts : (b : Book) (lost : List Name) (xs : List Event) (e : Event) → FreshFrom b lost (xs ++ e ∷ []) → FreshFrom b lost xs × FreshTold (with_events b xs) (lost_in lost xs) e.node e.told
fresh_parts b lost [] e f = (tt, f.0)
fresh_parts b lost (x ∷ xs) e f = let r = fresh_parts (with_event b x) (lost_with lost x.node x.told) xs e f.1 in ((f.0, r.0), r.1)

fresh_joined : (b : Book) (lost : List Name) (xs : List Event) (e : Event) → FreshFrom b lost xs → FreshTold (with_events b xs) (lost_in lost xs) e.node e.told → FreshFrom b lost (xs ++ e ∷ [])
fresh_joined b lost [] e f g = (g, tt)
fresh_joined b lost (x ∷ xs) e f g = (f.0, fresh_joined (with_event b x) (lost_with lost x.node x.told) xs e f.1 g)

pub fresh_less : (es : List Event) (e : Event) → Fresh empty (es ++ e ∷ []) → Fresh empty es × FreshTold (book es) (lost_in [] es) e.node e.told
fresh_less es e f = fresh_parts empty [] es e f

pub fresh_one : (es : List Event) (e : Event) → Fresh empty es → FreshTold (book es) (lost_in [] es) e.node e.told → Fresh empty (es ++ e ∷ [])
fresh_one es e f g = fresh_joined empty [] es e f g

pub timely_less : (allow : Book → Name → ℕ) (b : Book) (xs : List Event) (e : Event) → Timely allow b (xs ++ e ∷ []) → Timely allow b xs × TimelyTold allow (with_events b xs) e.node e.told
timely_less allow b [] e t = (tt, t.0)
timely_less allow b (x ∷ xs) e t = let r = timely_less allow (with_event b x) xs e t.1 in ((t.0, r.0), r.1)

pub timely_one : (allow : Book → Name → ℕ) (b : Book) (xs : List Event) (e : Event) → Timely allow b xs → TimelyTold allow (with_events b xs) e.node e.told → Timely allow b (xs ++ e ∷ [])
timely_one allow b [] e t h = (h, tt)
timely_one allow b (x ∷ xs) e t h = (t.0, timely_one allow (with_event b x) xs e t.1 h)

-- ---- something that is looked up, the last first ----
-- one event more, fresh behind fresh ones, is so of a and found, or is so of nothing and changes nothing
abbrev pub Step : {A : Type 0} (f : List Event → Option A) (P : A → List Event → Event → Type 0) (es : List Event) (e : Event) → Type 0
Step {A = A} f P es e = ((a : A) × P a es e × (f (es ++ e ∷ []) ≡ Some a)) ⊎ (((a : A) → P a es e → ⊥) × (f (es ++ e ∷ []) ≡ f es))

pub record LooksUp {A : Type 0} (f : List Event → Option A) (P : A → List Event → Event → Type 0) : Type 0 where
  pub start : f [] ≡ None
  pub step : (es : List Event) (e : Event) → Fresh empty (es ++ e ∷ []) → Step f P es e
  pub same : (a b : A) (es : List Event) (e : Event) → Fresh empty (es ++ e ∷ []) → P a es e → P b es e → a ≡ b

module _ {A : Type 0} {f : List Event → Option A} {P : A → List Event → Event → Type 0} (k : LooksUp f P) where
  pub found : (es : List Event) → Fresh empty es → (a : A) → Last P a es → f es ≡ Some a
  found = by_snoc (λ es. Fresh empty es → (a : A) → Last P a es → f es ≡ Some a)
      (λ es e old fresh a l. (let less = (fresh_less es e fresh).0 in elim (last_cases a es e l) [
        | inl c ↦ elim (k.step es e fresh) [
          | inl s ↦ s.2 ∙ ap (λ x. Some x) (k.same s.0 a es e fresh s.1 c.is)
          | inr s ↦ absurd (s.0 a c.is)
        ]
        | inr c ↦ elim (k.step es e fresh) [
          | inl s ↦ absurd (c.not s.0 s.1)
          | inr s ↦ s.1 ∙ old less a c.old
        ]
      ]))
      (λ fresh a l. absurd (has_nothing (has_last a [] l)))

  pub finds : (es : List Event) → Fresh empty es → (a : A) → f es ≡ Some a → Last P a es
  finds = by_snoc (λ es. Fresh empty es → (a : A) → f es ≡ Some a → Last P a es)
      (λ es e old fresh a h. (let less = (fresh_less es e fresh).0 in elim (k.step es e fresh) [
        | inl s ↦ (let same : s.0 ≡ a = cc (sym s.2 ∙ h) in last_new a es e (subst (λ x. P x es e) same s.1))
        | inr s ↦ last_old a es e s.0 (old less a (sym s.1 ∙ h))
      ]))
      (λ fresh a h. (let z : None ≡ Some a = sym k.start ∙ h in absurd (cc z)))

  pub none_found : (es : List Event) → Fresh empty es → f es ≡ None → Has (λ p e. (a : A) × P a p e) es → ⊥
  none_found = by_snoc (λ es. Fresh empty es → f es ≡ None → Has (λ p e. (a : A) × P a p e) es → ⊥)
      (λ es e old fresh n h. (let less = (fresh_less es e fresh).0 in elim (k.step es e fresh) [
        | inl s ↦ (let z : None ≡ Some s.0 = sym n ∙ s.2 in absurd (cc z))
        | inr s ↦ elim (has_cases es e h) [
          | inl x ↦ s.0 x.0 x.1
          | inr x ↦ old less (sym s.1 ∙ n) x
        ]
      ]))
      (λ fresh n h. has_nothing h)

-- ---- something that is so once there was such an event ----
abbrev pub Turn : (f : List Event → Bool) (P : List Event → Event → Type 0) (es : List Event) (e : Event) → Type 0
Turn f P es e = (P es e × (f (es ++ e ∷ []) ≡ true)) ⊎ ((P es e → ⊥) × (f (es ++ e ∷ []) ≡ f es))

pub record Marks (f : List Event → Bool) (P : List Event → Event → Type 0) : Type 0 where
  pub start : f [] ≡ false
  pub turn : (es : List Event) (e : Event) → Fresh empty (es ++ e ∷ []) → Turn f P es e

module _ {f : List Event → Bool} {P : List Event → Event → Type 0} (k : Marks f P) where
  pub marked : (es : List Event) → Fresh empty es → Has P es → f es ≡ true
  marked = by_snoc (λ es. Fresh empty es → Has P es → f es ≡ true)
      (λ es e old fresh h. (let less = (fresh_less es e fresh).0 in elim (k.turn es e fresh) [
        | inl s ↦ s.1
        | inr s ↦ elim (has_cases es e h) [
          | inl x ↦ absurd (s.0 x)
          | inr x ↦ s.1 ∙ old less x
        ]
      ]))
      (λ fresh h. absurd (has_nothing h))

  pub marks : (es : List Event) → Fresh empty es → f es ≡ true → Has P es
  marks = by_snoc (λ es. Fresh empty es → f es ≡ true → Has P es)
      (λ es e old fresh h. (let less = (fresh_less es e fresh).0 in elim (k.turn es e fresh) [
        | inl s ↦ has_new es e s.0
        | inr s ↦ has_old es e (old less (sym s.1 ∙ h))
      ]))
      (λ fresh h. (let z : false ≡ true = sym k.start ∙ h in absurd (cc z)))

-- ---- tests ----
pair_is : (p q : Pair) → p.index ≡ q.index → p.ident ≡ q.ident → p ≡ q
pair_is p q i d = rw (i, d) refl

pub pairs_same : (p q : Pair) → same_pair p q ≡ true → p ≡ q
pairs_same p q e = let both = and_parts (nat_eq p.index q.index) (nat_eq p.ident q.ident) e in pair_is p q (eqb-true p.index q.index both.0) (eqb-true p.ident q.ident both.1)

-- an end of this number at this node
abbrev pub named : ℕ → ℕ → Name
named node id = record { node = node; id = id }

pub name_so : (node id : ℕ) (x : Name) → node ≡ x.node → id ≡ x.id → (let n : Name = record { node = node; id = id } in n) ≡ x
name_so node id x e f = rw (e, f) refl

pub name_true : (node id : ℕ) (x : Name) → node ≡ x.node → id ≡ x.id → same_name (record { node = node; id = id }) x ≡ true
name_true node id x e f = ap (λ y. same_name y x) (name_so node id x e f) ∙ name_itself x

pub split_so : (a b : Bool) → (a ≡ true → b ≡ false → ⊥) → a ≡ true → b ≡ true
split_so a true f e = refl
split_so a false f e = absurd (f e refl)

pub names_so : (x y : Name) → x.node ≡ y.node → x.id ≡ y.id → x ≡ y
names_so x y e f = name_so x.node x.id y e f

pub or_none : (a b : Bool) → a ≡ false → (a || b) ≡ b
or_none true b e = absurd (cc e)
or_none false b e = refl
