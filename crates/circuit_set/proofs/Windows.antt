-- What an end was told since it was made: by the book and by the events.
use Rattle.std.specs.Prelude.{◌≡◌, ℕ, ◌⊎◌, Bool, true, false, if◌then◌else◌, List, [], ◌∷◌, ◌++◌, Option, refl}
use Rattle.std.proofs.Common.{sym, ◌∙◌, ap, subst, inl, inr, append_assoc, append-nil}
use Rattle.std.proofs.lemmas.Bool.{or_left, both_ways}
use Rattle.ax_address.specs.Callsign.{Callsign}
use Rattle.circuit_l4.specs.declared.pair.Pair.{Pair}
use Rattle.circuit_l4.specs.declared.notice.EndNotice.{EndNotice}
use Rattle.circuit_l4.specs.declared.notice.EndNotice.TheVariants.{Opened}
use Rattle.circuit_set.specs.TooLate.{Has, Last, Makes, Tells}
use Rattle.circuit_set.specs.Books.{Book, with_event, with_notice}
use Rattle.circuit_table.specs.Events.{Event, Name, same_name}
use Rattle.circuit_set.specs.NotedRuns.{told_to}
use Rattle.circuit_table.specs.Sets.{CircuitTold, Made, Sent, Heeded, Notice, Gone, Restarted, Lost}
use Rattle.circuit_set.proofs.Among.{by_snoc, has_cases, has_last, has_new, has_nothing, has_old, last_cases, last_new, last_old}
use Rattle.circuit_set.proofs.Bridge.{name_itself, same_names}
use Rattle.circuit_set.proofs.Lookups.{has_note, noticed, same_note, unnoticed}
use Rattle.circuit_set.proofs.Noted.{book, book_more, name_true, or_none}

-- ---- which end was made ----
module _ (z : Name) where
  abbrev IsMade : Event → Type 0
  IsMade e = (r : Option (List ℕ)) × Makes z r e

  pub makes_or_not : (e : Event) → IsMade e ⊎ ((r : Option (List ℕ)) → Makes z r e → ⊥)
  makes_or_not e = by e.told
    where
      by : (t : CircuitTold) → (let k : Event = record { node = e.node; own = e.own; told = t } in IsMade k ⊎ ((r : Option (List ℕ)) → Makes z r k → ⊥))
      by (Made id p at r) = of_name (same_name (record { node = e.node; id = id }) z) refl
        where
          of_name : (c : Bool) → same_name (record { node = e.node; id = id }) z ≡ c
              → (let k : Event = record { node = e.node; own = e.own; told = Made id p at r } in IsMade k ⊎ ((q : Option (List ℕ)) → Makes z q k → ⊥))
          of_name true h =
              let is : (let n : Name = record { node = e.node; id = id } in n) ≡ z = same_names (record { node = e.node; id = id }) z h in
              inl (r, (p, at, (ap (λ (n : Name). n.node) is, ap (λ (n : Name). Made n.id p at r) is)))
          of_name false h = inr (λ q m. (let i : id ≡ z.id = (let w = m.2.1 in cc w) in both_ways _ h (name_true e.node id z m.2.0 i)))
      by (Sent id number sent) = inr (λ q m. absurd (cc (m.2.1)))
      by (Heeded id k) = inr (λ q m. absurd (cc (m.2.1)))
      by (Notice id k) = inr (λ q m. absurd (cc (m.2.1)))
      by (Gone id facts) = inr (λ q m. absurd (cc (m.2.1)))
      by (Restarted q) = inr (λ q m. absurd (cc (m.2.1)))
      by (Lost id facts) = inr (λ q m. absurd (cc (m.2.1)))

  -- the last of those by which it was made
  pub last_made : (es : List Event) → Has (λ p e. IsMade e) es → (r : Option (List ℕ)) × Last (λ q p e. Makes z q e) r es
  last_made = by_snoc (λ es. Has (λ p e. IsMade e) es → (r : Option (List ℕ)) × Last (λ q p e. Makes z q e) r es)
      (λ es e old h. elim (makes_or_not e) [
        | inl m ↦ (m.0, last_new m.0 es e m.1)
        | inr not ↦ elim (has_cases es e h) [
          | inl m ↦ absurd (not m.0 m.1)
          | inr k ↦ (let r = old k in (r.0, last_old r.0 es e not r.1))
        ]
      ])
      (λ h. absurd (has_nothing h))

  -- ---- what it was told since ----
  abbrev pub notice_in : ℕ → CircuitTold → List EndNotice
  notice_in node (Notice id n) = if same_name (record { node = node; id = id }) z then n ∷ [] else []
  notice_in node _ = []

  abbrev pub notices_in : List Event → List EndNotice
  notices_in [] = []
  notices_in (e ∷ es) = notice_in e.node e.told ++ notices_in es

  pub notices_more : (es : List Event) (e : Event) → notices_in (es ++ e ∷ []) ≡ notices_in es ++ notice_in e.node e.told
  notices_more [] e = append-nil (notice_in e.node e.told)
  notices_more (k ∷ es) e =
      ap (λ ns. notice_in k.node k.told ++ ns) (notices_more es e) ∙ sym (append_assoc (notice_in k.node k.told) (notices_in es) (notice_in e.node e.told))

  abbrev NoteTurn : Book → Event → Type 0
  NoteTurn b e = (IsMade e × (has_note (with_event b e).made z ≡ true) × (told_to (with_event b e).made z ≡ []))
      ⊎ (((r : Option (List ℕ)) → Makes z r e → ⊥) × (has_note (with_event b e).made z ≡ has_note b.made z) × (has_note b.made z ≡ true → told_to (with_event b e).made z ≡ told_to b.made z ++ notice_in e.node e.told))

  made_turn : (b : Book) (node : ℕ) (own : Callsign) (id : ℕ) (p : Pair) (at : Callsign) (r : Option (List ℕ)) (c : Bool) → same_name (record { node = node; id = id }) z ≡ c
      → NoteTurn b (record { node = node; own = own; told = Made id p at r })
  made_turn b node own id p at r true h =
      let is : (let n : Name = record { node = node; id = id } in n) ≡ z = same_names (record { node = node; id = id }) z h in
      inl ((r, (p, at, (ap (λ (n : Name). n.node) is, ap (λ (n : Name). Made n.id p at r) is))), or_left _ (has_note b.made z) h, ap (λ k. if k then [] else told_to b.made z) h)
  made_turn b node own id p at r false h =
      inr (
        (λ q m. (let i : id ≡ z.id = (let w = m.2.1 in cc w) in both_ways _ h (name_true node id z m.2.0 i))),
        or_none _ (has_note b.made z) h,
        (λ k. ap (λ t. if t then [] else told_to b.made z) h ∙ sym (append-nil (told_to b.made z))),
      )

  notice_turn : (b : Book) (node : ℕ) (own : Callsign) (id : ℕ) (n : EndNotice) (c : Bool) → same_name (record { node = node; id = id }) z ≡ c → NoteTurn b (record { node = node; own = own; told = Notice id n })
  notice_turn b node own id n true h =
      let w : Name = record { node = node; id = id } in
      let is : w ≡ z = same_names w z h in
      inr (
        (λ q m. absurd (cc (m.2.1))),
        same_note w z n b.made,
        (λ k. subst (λ y. told_to (with_notice y n b.made) z ≡ told_to b.made z ++ n ∷ []) (sym is) (noticed z n b.made k) ∙ ap (λ t. told_to b.made z ++ (if t then n ∷ [] else [])) (sym h)),
      )
  notice_turn b node own id n false h =
      let w : Name = record { node = node; id = id } in
      inr (
        (λ q m. absurd (cc (m.2.1))),
        same_note w z n b.made,
        (λ k. unnoticed w z n b.made (λ same. both_ways (same_name w z) h (subst (λ y. same_name w y ≡ true) same (name_itself w)))
            ∙ (sym (append-nil (told_to b.made z)) ∙ ap (λ t. told_to b.made z ++ (if t then n ∷ [] else [])) (sym h))),
      )

  note_turn : (b : Book) (e : Event) → NoteTurn b e
  note_turn b e = by e.told
    where
      by : (t : CircuitTold) → NoteTurn b (record { node = e.node; own = e.own; told = t })
      by (Made id p at r) = made_turn b e.node e.own id p at r (same_name (record { node = e.node; id = id }) z) refl
      by (Sent id number sent) = inr ((λ q m. absurd (cc (m.2.1))), refl, (λ k. sym (append-nil (told_to b.made z))))
      by (Heeded id d) = inr ((λ q m. absurd (cc (m.2.1))), refl, (λ k. sym (append-nil (told_to b.made z))))
      by (Notice id n) = notice_turn b e.node e.own id n (same_name (record { node = e.node; id = id }) z) refl
      by (Gone id facts) = inr ((λ q m. absurd (cc (m.2.1))), refl, (λ k. sym (append-nil (told_to b.made z))))
      by (Restarted p) = inr ((λ q m. absurd (cc (m.2.1))), refl, (λ k. sym (append-nil (told_to b.made z))))
      by (Lost id facts) = inr ((λ q m. absurd (cc (m.2.1))), refl, (λ k. sym (append-nil (told_to b.made z))))

  -- it has a note exactly where it was made
  pub made_noted : (es : List Event) → Has (λ p e. IsMade e) es → has_note (book es).made z ≡ true
  made_noted = by_snoc (λ es. Has (λ p e. IsMade e) es → has_note (book es).made z ≡ true)
      (λ es e old h. (let same : has_note (book (es ++ e ∷ [])).made z ≡ has_note (with_event (book es) e).made z = ap (λ (b : Book). has_note b.made z) (book_more es e) in
      elim (note_turn (book es) e) [
        | inl s ↦ same ∙ s.1
        | inr s ↦ elim (has_cases es e h) [
          | inl m ↦ absurd (s.0 m.0 m.1)
          | inr k ↦ same ∙ (s.1 ∙ old k)
        ]
      ]))
      (λ h. absurd (has_nothing h))

  pub noted_made : (es : List Event) → has_note (book es).made z ≡ true → Has (λ p e. IsMade e) es
  noted_made = by_snoc (λ es. has_note (book es).made z ≡ true → Has (λ p e. IsMade e) es)
      (λ es e old h. (let same : has_note (book (es ++ e ∷ [])).made z ≡ has_note (with_event (book es) e).made z = ap (λ (b : Book). has_note b.made z) (book_more es e) in
      elim (note_turn (book es) e) [
        | inl s ↦ has_new es e s.0
        | inr s ↦ has_old es e (old (sym s.1 ∙ (sym same ∙ h)))
      ]))
      (λ h. absurd (cc h))

  pub told_is : (es : List Event) (r : Option (List ℕ)) (l : Last (λ q p e. Makes z q e) r es) → told_to (book es).made z ≡ notices_in l.after
  told_is = by_snoc (λ es. (r : Option (List ℕ)) (l : Last (λ q p e. Makes z q e) r es) → told_to (book es).made z ≡ notices_in l.after)
      (λ es e old r l. (let same : told_to (book (es ++ e ∷ [])).made z ≡ told_to (with_event (book es) e).made z = ap (λ (b : Book). told_to b.made z) (book_more es e) in
      elim (note_turn (book es) e) [
        | inl s ↦ elim (last_cases r es e l) [
          | inl c ↦ same ∙ (s.2 ∙ ap notices_in (sym c.after))
          | inr c ↦ absurd (c.not s.0.0 s.0.1)
        ]
        | inr s ↦ elim (last_cases r es e l) [
          | inl c ↦ absurd (s.0 r c.is)
          | inr c ↦ same ∙ (s.2 (made_noted es (has_last r es c.old)) ∙ (ap (λ ns. ns ++ notice_in e.node e.told) (old r c.old) ∙ (sym (notices_more c.old.after e) ∙ ap notices_in (sym c.after))))
        ]
      ]))
      (λ r l. absurd (has_nothing (has_last r [] l)))

  -- ---- the first window among them ----
  abbrev Tellings : Event → ℕ → Type 0
  Tellings e w = Tells e z (Notice z.id (Opened w))
