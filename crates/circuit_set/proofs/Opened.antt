-- With what window an end was told that its circuit is open, and whether it was told how it ended: by the book and by the events.
use Rattle.std.specs.Prelude.{◌≡◌, ℕ, ◌⊎◌, Bool, true, false, ◌||◌, if◌then◌else◌, List, [], ◌∷◌, ◌++◌, Some, refl}
use Rattle.std.proofs.Common.{sym, ◌∙◌, ap, subst, inl, inr}
use Rattle.std.proofs.lemmas.Bool.{or_left, both_ways}
use Rattle.circuit_l4.specs.declared.notice.EndNotice.{EndNotice}
use Rattle.circuit_l4.specs.declared.notice.EndNotice.TheVariants.{Opened, Refused, Closed, ClosedByPartner, FailedRetries, FailedOversize, FailedInactive}
use Rattle.circuit_set.specs.TooLate.{First, Has, Ends, OpenedWith, Tells}
use Rattle.circuit_set.specs.Books.{Fresh, MadeNote, any_ends, empty}
use Rattle.circuit_table.specs.Events.{Event, Name, ends_it, same_name}
use Rattle.circuit_set.specs.NotedRuns.{opened_window, told_to}
use Rattle.circuit_table.specs.Sets.{CircuitTold, Made, Sent, Heeded, Notice, Gone, Restarted, Lost}
use Rattle.circuit_set.proofs.Bridge.{same_names}
use Rattle.circuit_set.proofs.Lookups.{has_note}
use Rattle.circuit_set.proofs.Noted.{book, name_true, or_none}
use Rattle.circuit_set.proofs.Windows.{last_made, noted_made, notices_in, told_is}
use Rattle.circuit_set.proofs.Among.{none_split}

-- ---- one event before others ----
head_split : {A : Type 0} (x : A) (xs p q : List A) (f : A) → x ∷ xs ≡ p ++ f ∷ q → (f ≡ x) ⊎ ((r : List A) × (p ≡ x ∷ r) × (xs ≡ r ++ f ∷ q))
head_split x xs [] q f h = inl (let z = sym h in cc z)
head_split x xs (y ∷ p) q f h = let s : y ≡ x = (let z = sym h in cc z) in inr (p, ap (λ w. w ∷ p) s, cc h)

module _ {P : Event → Type 0} where
  pub head_has : (e : Event) (es : List Event) → P e → Has (λ p k. P k) (e ∷ es)
  head_has e es p = record { before = []; at = e; after = es; parts = refl; is = p }

  pub tail_has : (e : Event) (es : List Event) → Has (λ p k. P k) es → Has (λ p k. P k) (e ∷ es)
  tail_has e es h = record { before = e ∷ h.before; at = h.at; after = h.after; parts = ap (λ xs. e ∷ xs) h.parts; is = h.is }

  pub split_has : (e : Event) (es : List Event) → Has (λ p k. P k) (e ∷ es) → P e ⊎ Has (λ p k. P k) es
  split_has e es h = elim (head_split e es h.before h.after h.at h.parts) [
    | inl s ↦ inl (subst P s h.is)
    | inr s ↦ inr (record { before = s.0; at = h.at; after = h.after; parts = s.2; is = h.is })
  ]

module _ {A : Type 0} {P : A → Event → Type 0} where
  head_first : (a : A) (e : Event) (es : List Event) → P a e → First P a (e ∷ es)
  head_first a e es p = record { before = []; at = e; after = es; parts = refl; is = p; none = λ b q r k h. λ x. none_split q r k h }

  tail_first : (a : A) (e : Event) (es : List Event) → ((b : A) → P b e → ⊥) → First P a es → First P a (e ∷ es)
  tail_first a e es not f = record {
    before = e ∷ f.before;
    at = f.at;
    after = f.after;
    parts = ap (λ xs. e ∷ xs) f.parts;
    is = f.is;
    none = λ b q r k h x. elim (head_split e f.before q r k h) [
      | inl s ↦ not b (subst (P b) s x)
      | inr s ↦ f.none b s.0 r k s.2 x
    ];
  }

  split_first : (a : A) (e : Event) (es : List Event) → First P a (e ∷ es) → P a e ⊎ (((b : A) → P b e → ⊥) × First P a es)
  split_first a e es f = elim (head_split e es f.before f.after f.at f.parts) [
    | inl s ↦ inl (subst (P a) s f.is)
    | inr s ↦ inr (
      (λ b x. f.none b [] s.0 e s.1 x),
      record {
        before = s.0;
        at = f.at;
        after = f.after;
        parts = s.2;
        is = f.is;
        none = λ b q r k h x. f.none b (e ∷ q) r k (s.1 ∙ ap (λ xs. e ∷ xs) h) x;
      },
    )
  ]

-- ---- a notice of z ----
module _ (z : Name) where
  abbrev Window : ℕ → Event → Type 0
  Window w e = Tells e z (Notice z.id (Opened w))

  -- what it was told by one event, and then more
  abbrev WindowTurn : Event → Type 0
  WindowTurn e =
      ((w : ℕ) × Window w e × ((es : List Event) → opened_window (notices_in z (e ∷ es)) ≡ Some w))
      ⊎ (((w : ℕ) → Window w e → ⊥) × ((es : List Event) → opened_window (notices_in z (e ∷ es)) ≡ opened_window (notices_in z es)))

  abbrev EndTurn : Event → Type 0
  EndTurn e =
      (Ends z e × ((es : List Event) → any_ends (notices_in z (e ∷ es)) ≡ true))
      ⊎ ((Ends z e → ⊥) × ((es : List Event) → any_ends (notices_in z (e ∷ es)) ≡ any_ends (notices_in z es)))

  module _ (e : Event) (id : ℕ) where
    abbrev noticing : EndNotice → Event
    noticing n = record { node = e.node; own = e.own; told = Notice id n }

    abbrev tail : EndNotice → Bool → List Event → List EndNotice
    tail n c es = (if c then n ∷ [] else []) ++ notices_in z es

    told_z : (n : EndNotice) → same_name (record { node = e.node; id = id }) z ≡ true → Tells (noticing n) z (Notice z.id n)
    told_z n h =
        let is : (let x : Name = record { node = e.node; id = id } in x) ≡ z = same_names (record { node = e.node; id = id }) z h in
        (ap (λ (x : Name). x.node) is, ap (λ (x : Name). Notice x.id n) is)

    not_z : (n m : EndNotice) → same_name (record { node = e.node; id = id }) z ≡ false → Tells (noticing n) z (Notice z.id m) → ⊥
    not_z n m h t = let i : id ≡ z.id = (let w = t.1 in cc w) in both_ways _ h (name_true e.node id z t.0 i)

    other_window : (n : EndNotice) → ((w : ℕ) → n ≡ Opened w → ⊥) → ((ns : List EndNotice) → opened_window (n ∷ ns) ≡ opened_window ns) → WindowTurn (noticing n)
    other_window n not skips = inr ((λ w t. not w (let q = t.1 in cc q)), λ es. at es (same_name (record { node = e.node; id = id }) z))
      where
        at : (es : List Event) (c : Bool) → opened_window ((if c then n ∷ [] else []) ++ notices_in z es) ≡ opened_window (notices_in z es)
        at es true = skips (notices_in z es)
        at es false = refl

    opened_turn : (window : ℕ) (c : Bool) → same_name (record { node = e.node; id = id }) z ≡ c → WindowTurn (noticing (Opened window))
    opened_turn window true h = inl (window, told_z (Opened window) h, λ es. ap (λ c. opened_window (tail (Opened window) c es)) h)
    opened_turn window false h = inr ((λ w t. not_z (Opened window) (Opened w) h t), λ es. ap (λ c. opened_window (tail (Opened window) c es)) h)

    window_notice : (n : EndNotice) → WindowTurn (noticing n)
    window_notice (Opened window) = opened_turn window (same_name (record { node = e.node; id = id }) z) refl
    window_notice Refused = other_window Refused (λ w q. absurd (cc q)) (λ ns. refl)
    window_notice Closed = other_window Closed (λ w q. absurd (cc q)) (λ ns. refl)
    window_notice ClosedByPartner = other_window ClosedByPartner (λ w q. absurd (cc q)) (λ ns. refl)
    window_notice FailedRetries = other_window FailedRetries (λ w q. absurd (cc q)) (λ ns. refl)
    window_notice FailedOversize = other_window FailedOversize (λ w q. absurd (cc q)) (λ ns. refl)
    window_notice FailedInactive = other_window FailedInactive (λ w q. absurd (cc q)) (λ ns. refl)

    end_notice : (n : EndNotice) (c d : Bool) → same_name (record { node = e.node; id = id }) z ≡ c → ends_it n ≡ d → EndTurn (noticing n)
    end_notice n true true h k = inl ((n, told_z n h, k), λ es. ap (λ c. any_ends (tail n c es)) h ∙ or_left (ends_it n) (any_ends (notices_in z es)) k)
    end_notice n true false h k =
        inr ((λ t. (let same : n ≡ t.0 = (let q = t.1.1 in cc q) in both_ways (ends_it n) k (subst (λ m. ends_it m ≡ true) (sym same) t.2))), λ es. ap (λ c. any_ends (tail n c es)) h ∙ or_none (ends_it n) (any_ends (notices_in z es)) k)
    end_notice n false d h k = inr ((λ t. not_z n t.0 h t.1), λ es. ap (λ c. any_ends (tail n c es)) h)

  window_turn : (e : Event) → WindowTurn e
  window_turn e = by e.told
    where
      by : (t : CircuitTold) → WindowTurn (record { node = e.node; own = e.own; told = t })
      by (Made id p at r) = inr ((λ w t. absurd (cc (t.1))), λ es. refl)
      by (Sent id number sent) = inr ((λ w t. absurd (cc (t.1))), λ es. refl)
      by (Heeded id d) = inr ((λ w t. absurd (cc (t.1))), λ es. refl)
      by (Notice id n) = window_notice e id n
      by (Gone id facts) = inr ((λ w t. absurd (cc (t.1))), λ es. refl)
      by (Restarted p) = inr ((λ w t. absurd (cc (t.1))), λ es. refl)
      by (Lost id facts) = inr ((λ w t. absurd (cc (t.1))), λ es. refl)

  end_turn : (e : Event) → EndTurn e
  end_turn e = by e.told
    where
      by : (t : CircuitTold) → EndTurn (record { node = e.node; own = e.own; told = t })
      by (Made id p at r) = inr ((λ t. absurd (cc (t.1.1))), λ es. refl)
      by (Sent id number sent) = inr ((λ t. absurd (cc (t.1.1))), λ es. refl)
      by (Heeded id d) = inr ((λ t. absurd (cc (t.1.1))), λ es. refl)
      by (Notice id n) = end_notice e id n (same_name (record { node = e.node; id = id }) z) (ends_it n) refl refl
      by (Gone id facts) = inr ((λ t. absurd (cc (t.1.1))), λ es. refl)
      by (Restarted p) = inr ((λ t. absurd (cc (t.1.1))), λ es. refl)
      by (Lost id facts) = inr ((λ t. absurd (cc (t.1.1))), λ es. refl)

  -- ---- the first window that it was told ----
  first_window : (es : List Event) (w : ℕ) → opened_window (notices_in z es) ≡ Some w → First Window w es
  first_window [] w h = absurd (cc h)
  first_window (e ∷ es) w h = elim (window_turn e) [
    | inl s ↦ (let same : s.0 ≡ w = (let q = sym (s.2 es) ∙ h in cc q) in head_first w e es (subst (λ v. Window v e) same s.1))
    | inr s ↦ tail_first w e es s.0 (first_window es w (sym (s.1 es) ∙ h))
  ]

  one_window : (v w : ℕ) (e : Event) → Window v e → Window w e → v ≡ w
  one_window v w e s t = let q = sym s.1 ∙ t.1 in cc q

  window_first : (es : List Event) (w : ℕ) → First Window w es → opened_window (notices_in z es) ≡ Some w
  window_first [] w f = absurd (none_split f.before f.after f.at f.parts)
  window_first (e ∷ es) w f = elim (window_turn e) [
    | inl s ↦ elim (split_first w e es f) [
      | inl t ↦ s.2 es ∙ ap (λ v. Some v) (one_window s.0 w e s.1 t)
      | inr t ↦ absurd (t.0 s.0 s.1)
    ]
    | inr s ↦ elim (split_first w e es f) [
      | inl t ↦ absurd (s.0 w t)
      | inr t ↦ s.1 es ∙ window_first es w t.1
    ]
  ]

  -- ---- that it was told how it ended ----
  pub told_end : (es : List Event) → any_ends (notices_in z es) ≡ true → Has (λ p e. Ends z e) es
  told_end [] h = absurd (cc h)
  told_end (e ∷ es) h = elim (end_turn e) [
    | inl s ↦ head_has e es s.0
    | inr s ↦ tail_has e es (told_end es (sym (s.1 es) ∙ h))
  ]

  pub end_told : (es : List Event) → Has (λ p e. Ends z e) es → any_ends (notices_in z es) ≡ true
  end_told [] h = absurd (none_split h.before h.after h.at h.parts)
  end_told (e ∷ es) h = elim (end_turn e) [
    | inl s ↦ s.1 es
    | inr s ↦ elim (split_has {P = Ends z} e es h) [
      | inl t ↦ absurd (s.0 t)
      | inr t ↦ s.1 es ∙ end_told es t
    ]
  ]

  -- ---- by the book ----
  none_told : (ms : List MadeNote) → has_note ms z ≡ false → told_to ms z ≡ []
  none_told [] h = refl
  none_told (m ∷ ms) h = at (same_name m.who z) refl h (none_told ms)
    where
      at : (c : Bool) → same_name m.who z ≡ c → (c || has_note ms z) ≡ false → (has_note ms z ≡ false → told_to ms z ≡ []) → (if c then m.told else told_to ms z) ≡ []
      at true q k later = absurd (cc k)
      at false q k later = later k

  pub opens_with : (es : List Event) → Fresh empty es → (w : ℕ) → OpenedWith es z w → opened_window (told_to (book es).made z) ≡ Some w
  opens_with es fresh w o = ap opened_window (told_is z es o.request o.made) ∙ window_first o.made.after w o.told

  with_case : (es : List Event) → Fresh empty es → (w : ℕ) → opened_window (told_to (book es).made z) ≡ Some w → (c : Bool) → has_note (book es).made z ≡ c → OpenedWith es z w
  with_case es fresh w h true k =
      let l = last_made z es (noted_made z es k) in
      record { request = l.0; made = l.1; told = first_window l.1.after w (ap opened_window (sym (told_is z es l.0 l.1)) ∙ h) }
  with_case es fresh w h false k = let q = sym (ap opened_window (none_told (book es).made k)) ∙ h in absurd (cc q)

  pub opened_with : (es : List Event) → Fresh empty es → (w : ℕ) → opened_window (told_to (book es).made z) ≡ Some w → OpenedWith es z w
  opened_with es fresh w h = with_case es fresh w h (has_note (book es).made z) refl
