-- The notes of the ends that were made: by the book and by the events.
use Rattle.std.specs.Prelude.{◌≡◌, ℕ, zero, suc, ◌<◌, ◌⊎◌, Bool, true, false, if◌then◌else◌, List, [], ◌∷◌, ◌++◌, length, Contains, Option, refl}
use Rattle.std.proofs.Common.{sym, ◌∙◌, ap, subst, inl, inr, arith, append_assoc, append-nil}
use Rattle.ax_address.specs.Callsign.{Callsign}
use Rattle.ax_address.proofs.SameNumbers.{nat_turned}
use Rattle.circuit_l4.specs.declared.pair.Pair.{Pair}
use Rattle.circuit_l4.specs.declared.notice.EndNotice.{EndNotice}
use Rattle.circuit_set.specs.Books.{Book, MadeNote, empty, with_event, with_events, requester, with_notice}
use Rattle.circuit_table.specs.Events.{Event, Name, same_name}
use Rattle.circuit_table.specs.Sets.{CircuitTold, Made, Sent, Heeded, Notice, Gone, Restarted, Lost}
use Rattle.circuit_set.specs.TooLate.{Gives, Makes}
use Rattle.circuit_set.proofs.Among.{by_snoc}
use Rattle.circuit_set.proofs.Noted.{book, book_more, name_so}
use Rattle.circuit_set.proofs.Noting.{noted_append}
use Rattle.circuit_set.proofs.Windows.{notice_in, notices_in, notices_more}

-- ---- one of the notes ----
abbrev pub InNotes : MadeNote → List MadeNote → Type 0
InNotes m [] = ⊥
InNotes m (x ∷ xs) = (m ≡ x) ⊎ InNotes m xs

pub contained : (m : MadeNote) (ms : List MadeNote) → InNotes m ms → Contains ms m
contained m [] i = absurd i
contained m (x ∷ xs) (inl e) = (0, omega arith, sym e)
contained m (x ∷ xs) (inr i) = let r = contained m xs i in let l : r.0 < length xs = r.1 in (suc r.0, omega arith, r.2)

pub in_notes : (m : MadeNote) (ms : List MadeNote) → Contains ms m → InNotes m ms
in_notes m [] (k, l, e) = absurd (omega (arith, l))
in_notes m (x ∷ xs) (zero, l, e) = inl (sym e)
in_notes m (x ∷ xs) (suc k, l, e) = inr (in_notes m xs (k, omega (arith, l), e))

-- what a notice makes of a note
abbrev told_more : Name → EndNotice → MadeNote → MadeNote
told_more x n m = if same_name m.who x then record m { told = m.told ++ n ∷ [] } else m

notes_told : (x : Name) (n : EndNotice) (m : MadeNote) (ms : List MadeNote) → InNotes m ms → InNotes (told_more x n m) (with_notice x n ms)
notes_told x n m [] i = absurd i
notes_told x n m (k ∷ ms) (inl e) = inl (ap (told_more x n) e)
notes_told x n m (k ∷ ms) (inr i) = inr (notes_told x n m ms i)

told_notes : (x : Name) (n : EndNotice) (m : MadeNote) (ms : List MadeNote) → InNotes m (with_notice x n ms) → (k : MadeNote) × InNotes k ms × (m ≡ told_more x n k)
told_notes x n m [] i = absurd i
told_notes x n m (k ∷ ms) (inl e) = (k, inl refl, e)
told_notes x n m (k ∷ ms) (inr i) = let r = told_notes x n m ms i in (r.0, inr r.1, r.2)

pub turned : (x y : Name) → same_name x y ≡ same_name y x
turned x y = rw (nat_turned x.node y.node, nat_turned x.id y.id) refl

-- of which end it is, with which pair, and what it was told
pub record Same (m k : MadeNote) (more : List EndNotice) : Type 0 where
  pub who : k.who ≡ m.who
  pub own : k.own ≡ m.own
  pub pair : k.pair ≡ m.pair
  pub told : k.told ≡ m.told ++ more

same_itself : (m : MadeNote) → Same m m []
same_itself m = record { who = refl; own = refl; pair = refl; told = sym (append-nil m.told) }

told_case : (x : Name) (n : EndNotice) (m : MadeNote) (b : Bool) → same_name m.who x ≡ b → Same m (if b then record m { told = m.told ++ n ∷ [] } else m) (if same_name x m.who then n ∷ [] else [])
told_case x n m true e = record { who = refl; own = refl; pair = refl; told = ap (λ c. m.told ++ (if c then n ∷ [] else [])) (sym e ∙ turned m.who x) }
told_case x n m false e = record { who = refl; own = refl; pair = refl; told = sym (append-nil m.told) ∙ ap (λ c. m.told ++ (if c then n ∷ [] else [])) (sym e ∙ turned m.who x) }

told_same : (x : Name) (n : EndNotice) (m : MadeNote) → Same m (told_more x n m) (if same_name x m.who then n ∷ [] else [])
told_same x n m = told_case x n m (same_name m.who x) refl

-- ---- a note, after more events ----
pub record Kept (m : MadeNote) (es : List Event) (ms : List MadeNote) : Type 0 where
  pub note : MadeNote
  pub inside : InNotes note ms
  pub same : Same m note (notices_in m.who es)

kept_one : (m : MadeNote) (b : Book) (e : Event) → InNotes m b.made → (k : MadeNote) × InNotes k (with_event b e).made × Same m k (notice_in m.who e.node e.told)
kept_one m b e i = by e.told
  where
    by : (t : CircuitTold) → (k : MadeNote) × InNotes k (with_event b (record { node = e.node; own = e.own; told = t })).made × Same m k (notice_in m.who e.node t)
    by (Made id p at r) = (m, inr i, same_itself m)
    by (Sent id number d) = (m, i, same_itself m)
    by (Heeded id d) = (m, i, same_itself m)
    by (Notice id n) =
        let x : Name = record { node = e.node; id = id } in
        (told_more x n m, notes_told x n m b.made i, told_same x n m)
    by (Gone id facts) = (m, i, same_itself m)
    by (Restarted p) = (m, i, same_itself m)
    by (Lost id facts) = (m, i, same_itself m)

pub kept : (es : List Event) (m : MadeNote) (b : Book) → InNotes m b.made → Kept m es (with_events b es).made
kept [] m b i = record { note = m; inside = i; same = same_itself m }
kept (e ∷ es) m b i =
    let one = kept_one m b e i in
    let s : Same m one.0 (notice_in m.who e.node e.told) = one.2 in
    let rest : Kept one.0 es (with_events (with_event b e) es).made = kept es one.0 (with_event b e) one.1 in
    record {
      note = rest.note;
      inside = rest.inside;
      same = record {
        who = rest.same.who ∙ s.who;
        own = rest.same.own ∙ s.own;
        pair = rest.same.pair ∙ s.pair;
        told = rest.same.told ∙ (ap (λ z. one.0.told ++ notices_in z es) s.who ∙ (ap (λ ns. ns ++ notices_in m.who es) s.told ∙ append_assoc m.told (notice_in m.who e.node e.told) (notices_in m.who es)));
      };
    }

-- ---- the note of an end that was made ----
pub record NewNote (own : Callsign) (pair : Pair) (z : Name) (ms : List MadeNote) : Type 0 where
  pub note : MadeNote
  pub inside : InNotes note ms
  pub who : note.who ≡ z
  pub pair_is : note.pair ≡ pair
  pub told : note.told ≡ []

new_note : (own : Callsign) (pair : Pair) (z : Name) (e : Event) → Gives own pair z e → (b : Book) → NewNote own pair z (with_event b e).made
new_note own pair z e g b = by e.told g
  where
    by : (t : CircuitTold) → Gives own pair z (record { node = e.node; own = e.own; told = t }) → NewNote own pair z (with_event b (record { node = e.node; own = e.own; told = t })).made
    by (Made id p at r) k = record {
      note = record { who = record { node = e.node; id = id }; own = e.own; pair = p; partner = requester b r; told = [] };
      inside = inl refl;
      who = (let i : id ≡ z.id = (let q = k.3.1 in cc q) in name_so e.node id z k.3.0 i);
      pair_is = (let q = k.3.1 in cc q);
      told = refl;
    }
    by (Sent id number d) k = absurd (cc (k.3.1))
    by (Heeded id d) k = absurd (cc (k.3.1))
    by (Notice id n) k = absurd (cc (k.3.1))
    by (Gone id facts) k = absurd (cc (k.3.1))
    by (Restarted p) k = absurd (cc (k.3.1))
    by (Lost id facts) k = absurd (cc (k.3.1))

-- as it stands after all of the events
pub record NoteNow (pair : Pair) (z : Name) (since : List Event) (ms : List MadeNote) : Type 0 where
  pub note : MadeNote
  pub inside : InNotes note ms
  pub who : note.who ≡ z
  pub pair_is : note.pair ≡ pair
  pub told : note.told ≡ notices_in z since

pub note_now : (own : Callsign) (pair : Pair) (z : Name) (es before after : List Event) (e : Event) → es ≡ before ++ e ∷ after → Gives own pair z e → NoteNow pair z after (book es).made
note_now own pair z es before after e parts g =
    let n : NewNote own pair z (with_event (book before) e).made = new_note own pair z e g (book before) in
    let k : Kept n.note after (with_events (with_event (book before) e) after).made = kept after n.note (with_event (book before) e) n.inside in
    let whole : book es ≡ with_events (with_event (book before) e) after = ap book parts ∙ noted_append empty before (e ∷ after) in
    record {
      note = k.note;
      inside = subst (λ (b : Book). InNotes k.note b.made) (sym whole) k.inside;
      who = k.same.who ∙ n.who;
      pair_is = k.same.pair ∙ n.pair_is;
      told = k.same.told ∙ (ap (λ ns. ns ++ notices_in n.note.who after) n.told ∙ ap (λ y. notices_in y after) n.who);
    }

-- ---- the end of a note was made ----
pub record MadeAt (es : List Event) (m : MadeNote) : Type 0 where
  pub before : List Event
  pub at : Event
  pub after : List Event
  pub parts : es ≡ before ++ at ∷ after
  pub request : Option (List ℕ)
  pub made : Makes m.who request at
  pub gives : (own : Callsign) × Gives own m.pair m.who at
  pub told : m.told ≡ notices_in m.who after

later_at : (es : List Event) (e : Event) (m k : MadeNote) → MadeAt es m → Same m k (notice_in m.who e.node e.told) → MadeAt (es ++ e ∷ []) k
later_at es e m k a s = record {
  before = a.before;
  at = a.at;
  after = a.after ++ e ∷ [];
  parts = ap (λ xs. xs ++ e ∷ []) a.parts ∙ append_assoc a.before (a.at ∷ a.after) (e ∷ []);
  request = a.request;
  made = subst (λ z. Makes z a.request a.at) (sym s.who) a.made;
  gives = (a.gives.0, subst (λ p. Gives a.gives.0 p k.who a.at) (sym s.pair) (subst (λ z. Gives a.gives.0 m.pair z a.at) (sym s.who) a.gives.1));
  told = s.told ∙ (ap (λ ns. ns ++ notice_in m.who e.node e.told) a.told ∙ (sym (notices_more m.who a.after e) ∙ ap (λ z. notices_in z (a.after ++ e ∷ [])) (sym s.who)));
}

made_one : (es : List Event) (e : Event) → ((m : MadeNote) → InNotes m (book es).made → MadeAt es m) → (m : MadeNote) → InNotes m (with_event (book es) e).made → MadeAt (es ++ e ∷ []) m
made_one es e old m i = by e.told i
  where
    by : (t : CircuitTold) → InNotes m (with_event (book es) (record { node = e.node; own = e.own; told = t })).made → MadeAt (es ++ record { node = e.node; own = e.own; told = t } ∷ []) m
    by (Made id p at r) (inl q) =
        let k : Event = record { node = e.node; own = e.own; told = Made id p at r } in
        let n : MadeNote = record { who = record { node = e.node; id = id }; own = e.own; pair = p; partner = requester (book es) r; told = [] } in
        subst (MadeAt (es ++ k ∷ [])) (sym q) (let made_now : MadeAt (es ++ k ∷ []) n = record {
          before = es;
          at = k;
          after = [];
          parts = refl;
          request = r;
          made = (p, at, (refl, refl));
          gives = (e.own, (refl, at, r, (refl, refl)));
          told = refl;
        } in made_now)
    by (Made id p at r) (inr q) = later_at es (record { node = e.node; own = e.own; told = Made id p at r }) m m (old m q) (same_itself m)
    by (Sent id number d) q = later_at es (record { node = e.node; own = e.own; told = Sent id number d }) m m (old m q) (same_itself m)
    by (Heeded id d) q = later_at es (record { node = e.node; own = e.own; told = Heeded id d }) m m (old m q) (same_itself m)
    by (Notice id n) q =
        let x : Name = record { node = e.node; id = id } in
        let r = told_notes x n m (book es).made q in
        later_at es (record { node = e.node; own = e.own; told = Notice id n }) r.0 m (old r.0 r.1)
        (subst (λ (j : MadeNote). Same r.0 j (if same_name x r.0.who then n ∷ [] else [])) (sym r.2) (told_same x n r.0))
    by (Gone id facts) q = later_at es (record { node = e.node; own = e.own; told = Gone id facts }) m m (old m q) (same_itself m)
    by (Restarted p) q = later_at es (record { node = e.node; own = e.own; told = Restarted p }) m m (old m q) (same_itself m)
    by (Lost id facts) q = later_at es (record { node = e.node; own = e.own; told = Lost id facts }) m m (old m q) (same_itself m)

pub made_at : (es : List Event) (m : MadeNote) → InNotes m (book es).made → MadeAt es m
made_at = by_snoc (λ es. (m : MadeNote) → InNotes m (book es).made → MadeAt es m)
    (λ es e old m i. made_one es e old m (subst (λ (b : Book). InNotes m b.made) (book_more es e) i))
    (λ m i. absurd i)
