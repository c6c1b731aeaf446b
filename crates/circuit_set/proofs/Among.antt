-- One event more behind others.
use Rattle.std.specs.Prelude.{◌≡◌, ◌⊎◌, List, [], ◌∷◌, ◌++◌, refl}
use Rattle.std.proofs.Common.{sym, ◌∙◌, ap, subst, inl, inr, append_assoc, append-nil}
use Rattle.circuit_set.specs.TooLate.{Has, Last}
use Rattle.circuit_table.specs.Events.{Event}

-- ---- splits of a list with one more ----
pub none_split : {A : Type 0} (p q : List A) (f : A) → [] ≡ p ++ f ∷ q → ⊥
none_split [] q f h = absurd (cc h)
none_split (x ∷ p) q f h = absurd (cc h)

pub snoc_split : {A : Type 0} (es p q : List A) (e f : A) → es ++ e ∷ [] ≡ p ++ f ∷ q → ((p ≡ es) × (f ≡ e) × (q ≡ [])) ⊎ ((r : List A) × (q ≡ r ++ e ∷ []) × (es ≡ p ++ f ∷ r))
snoc_split [] [] q e f h = inl (refl, cc h, cc h)
snoc_split [] (x ∷ p) q e f h = let t : [] ≡ p ++ f ∷ q = cc h in absurd (none_split p q f t)
snoc_split (x ∷ es) [] q e f h = let t : q ≡ es ++ e ∷ [] = cc h in let s : x ≡ f = cc h in inr (es, t, ap (λ y. y ∷ es) s)
snoc_split (x ∷ es) (y ∷ p) q e f h =
    let t : es ++ e ∷ [] ≡ p ++ f ∷ q = cc h in
    let s : x ≡ y = cc h in
    elim (snoc_split es p q e f t) [
      | inl r ↦ inl ((let z : y ∷ p ≡ x ∷ es = ap (λ w. w ∷ p) (sym s) ∙ ap (λ w. x ∷ w) r.0 in z), r.1, r.2)
      | inr r ↦ inr (r.0, r.1, (let z : x ∷ es ≡ y ∷ (p ++ f ∷ r.0) = ap (λ w. w ∷ es) s ∙ ap (λ w. y ∷ w) r.2 in z))
    ]

-- what holds of none, and of one more behind those of which it holds, holds of all
module _ (Q : List Event → Type 0) (step : (es : List Event) (e : Event) → Q es → Q (es ++ e ∷ [])) where
  onward : (done later : List Event) → Q done → Q (done ++ later)
  onward done [] q = subst Q (sym (append-nil done)) q
  onward done (e ∷ later) q = subst Q (append_assoc done (e ∷ []) later) (onward (done ++ e ∷ []) later (step done e q))

  pub by_snoc : Q [] → (es : List Event) → Q es
  by_snoc q es = onward [] es q

-- ---- one of them ----
module _ {P : List Event → Event → Type 0} where
  pub has_nothing : Has P [] → ⊥
  has_nothing h = none_split h.before h.after h.at h.parts

  pub has_new : (es : List Event) (e : Event) → P es e → Has P (es ++ e ∷ [])
  has_new es e p = record { before = es; at = e; after = []; parts = refl; is = p }

  pub has_old : (es : List Event) (e : Event) → Has P es → Has P (es ++ e ∷ [])
  has_old es e h = record {
    before = h.before;
    at = h.at;
    after = h.after ++ e ∷ [];
    parts = ap (λ xs. xs ++ e ∷ []) h.parts ∙ append_assoc h.before (h.at ∷ h.after) (e ∷ []);
    is = h.is;
  }

  pub has_cases : (es : List Event) (e : Event) → Has P (es ++ e ∷ []) → P es e ⊎ Has P es
  has_cases es e h = elim (snoc_split es h.before h.after e h.at h.parts) [
    | inl s ↦ inl (subst (λ b. P b e) s.0 (subst (P h.before) s.1 h.is))
    | inr s ↦ inr (record { before = h.before; at = h.at; after = s.0; parts = s.2; is = h.is })
  ]

pub has_so : {P Q : List Event → Event → Type 0} (es : List Event) → ((p : List Event) (e : Event) → P p e → Q p e) → Has P es → Has Q es
has_so es f h = record { before = h.before; at = h.at; after = h.after; parts = h.parts; is = f h.before h.at h.is }

-- ---- the last of them ----
-- where it stands
pub record Stays {A : Type 0} (P : A → List Event → Event → Type 0) (a : A) (es : List Event) (e : Event) (l : Last P a (es ++ e ∷ [])) : Type 0 where
  pub not : (b : A) → P b es e → ⊥
  pub old : Last P a es
  pub before : l.before ≡ old.before
  pub at : l.at ≡ old.at
  pub after : l.after ≡ old.after ++ e ∷ []

pub record Comes {A : Type 0} (P : A → List Event → Event → Type 0) (a : A) (es : List Event) (e : Event) (l : Last P a (es ++ e ∷ [])) : Type 0 where
  pub is : P a es e
  pub before : l.before ≡ es
  pub at : l.at ≡ e
  pub after : l.after ≡ []

module _ {A : Type 0} {P : A → List Event → Event → Type 0} where
  pub last_new : (a : A) (es : List Event) (e : Event) → P a es e → Last P a (es ++ e ∷ [])
  last_new a es e p = record { before = es; at = e; after = []; parts = refl; is = p; none = λ b p q f h. λ x. none_split p q f h }

  -- no later one is so, one more included
  none_more : (a : A) (es : List Event) (e : Event) → ((b : A) → P b es e → ⊥) → (l : Last P a es) → (b : A) (p q : List Event) (f : Event) → l.after ++ e ∷ [] ≡ p ++ f ∷ q → P b (l.before ++ l.at ∷ p) f → ⊥
  none_more a es e not l b p q f h x = elim (snoc_split l.after p q e f h) [
    | inl s ↦ not b (subst (λ w. P b w e) (ap (λ w. l.before ++ l.at ∷ w) s.0 ∙ sym l.parts) (subst (P b (l.before ++ l.at ∷ p)) s.1 x))
    | inr s ↦ l.none b p s.0 f s.2 x
  ]

  pub last_old : (a : A) (es : List Event) (e : Event) → ((b : A) → P b es e → ⊥) → Last P a es → Last P a (es ++ e ∷ [])
  last_old a es e not l = record {
    before = l.before;
    at = l.at;
    after = l.after ++ e ∷ [];
    parts = ap (λ xs. xs ++ e ∷ []) l.parts ∙ append_assoc l.before (l.at ∷ l.after) (e ∷ []);
    is = l.is;
    none = none_more a es e not l;
  }

  pub last_cases : (a : A) (es : List Event) (e : Event) (l : Last P a (es ++ e ∷ [])) → Comes P a es e l ⊎ Stays P a es e l
  last_cases a es e l = elim (snoc_split es l.before l.after e l.at l.parts) [
    | inl s ↦ inl (record { is = subst (λ b. P a b e) s.0 (subst (P a l.before) s.1 l.is); before = s.0; at = s.1; after = s.2 })
    | inr s ↦ inr (record {
      not = λ b x. l.none b s.0 [] e s.1 (subst (λ w. P b w e) s.2 x);
      old = record {
        before = l.before;
        at = l.at;
        after = s.0;
        parts = s.2;
        is = l.is;
        none = λ b p q f h. l.none b p (q ++ e ∷ []) f (s.1 ∙ ap (λ w. w ++ e ∷ []) h ∙ append_assoc p (f ∷ q) (e ∷ []));
      };
      before = refl;
      at = refl;
      after = s.1;
    })
  ]

  pub has_last : (a : A) (es : List Event) → Last P a es → Has (λ p e. (b : A) × P b p e) es
  has_last a es l = record { before = l.before; at = l.at; after = l.after; parts = l.parts; is = (a, l.is) }

-- so of one thing as of another, where both are so of the same events
abbrev pub last_so : {A B : Type 0} {P : A → List Event → Event → Type 0} {Q : B → List Event → Event → Type 0} (a : A) (b : B) (es : List Event) (l : Last P a es)
    → Q b l.before l.at → ((c : B) (p : List Event) (e : Event) → Q c p e → (d : A) × P d p e) → Last Q b es
last_so a b es l is back = record {
  before = l.before;
  at = l.at;
  after = l.after;
  parts = l.parts;
  is = is;
  none = λ c p q e h x. (let y = back c (l.before ++ l.at ∷ p) e x in l.none y.0 p q e h y.1);
}

-- there is but one last
pub record SamePlace {A B : Type 0} {P : A → List Event → Event → Type 0} {Q : B → List Event → Event → Type 0} {a : A} {b : B} {es : List Event} (l : Last P a es) (m : Last Q b es) : Type 0 where
  pub before : l.before ≡ m.before
  pub at : l.at ≡ m.at
  pub after : l.after ≡ m.after

pub one_last : {A : Type 0} {P : A → List Event → Event → Type 0} (es : List Event) → (a b : A) (l : Last P a es) (m : Last P b es) → SamePlace l m
one_last {A = A} {P = P} = by_snoc (λ es. (a b : A) (l : Last P a es) (m : Last P b es) → SamePlace l m)
    (λ es e old a b l m. elim (last_cases a es e l) [
      | inl c ↦ elim (last_cases b es e m) [
        | inl d ↦ record { before = c.before ∙ sym d.before; at = c.at ∙ sym d.at; after = c.after ∙ sym d.after }
        | inr d ↦ absurd (d.not a c.is)
      ]
      | inr c ↦ elim (last_cases b es e m) [
        | inl d ↦ absurd (c.not b d.is)
        | inr d ↦ (let s : SamePlace c.old d.old = old a b c.old d.old in
            record { before = c.before ∙ s.before ∙ sym d.before; at = c.at ∙ s.at ∙ sym d.at; after = c.after ∙ ap (λ w. w ++ e ∷ []) s.after ∙ sym d.after })
      ]
    ])
    (λ a b l m. absurd (none_split l.before l.after l.at l.parts))
