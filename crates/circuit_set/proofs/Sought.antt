-- Which end a pair was given to, and which sending is the latest: by the book and by the events.
use Rattle.std.specs.Prelude.{◌≡◌, ℕ, suc, ◌+◌, ◌⊎◌, Bool, true, false, ◌&&◌, if◌then◌else◌, List, [], ◌∷◌, ◌++◌, length, Option, Some, None, refl}
use Rattle.std.proofs.Common.{sym, ◌∙◌, ap, subst, inl, inr, arith, length-append}
use Rattle.std.proofs.lemmas.Bool.{and_parts, and_from, or_left, eqb-true, both_ways}
use Rattle.ax_address.specs.Callsign.{Callsign, same_call}
use Rattle.ax_address.proofs.SameCalls.{same_call-true, call_refl}
use Rattle.ax_address.proofs.SameNumbers.{nat_refl}
use Rattle.circuit_l4.specs.declared.pair.Pair.{Pair}
use Rattle.circuit_l4.specs.declared.notice.EndNotice.{EndNotice}
use Rattle.circuit_set.specs.TooLate.{Last, Gives, LatestSending, Loses, SendsCopy, SendsFragment, Tells}
use Rattle.circuit_set.specs.Books.{Book, MadeNote, SentNote, has, has_sent, is_lost, is_number, latest_in, lost_with, made_last, with_event, with_notice, lost_in}
use Rattle.circuit_table.specs.Events.{Event, Name, is_copy, same_name}
use Rattle.circuit_table.specs.Sets.{CircuitTold, Made, Sent, Heeded, Notice, Gone, Restarted, Lost, same_pair}
use Rattle.circuit_set.proofs.Among.{by_snoc, last_so}
use Rattle.circuit_set.proofs.Bridge.{same_names}
use Rattle.circuit_set.proofs.Noted.{LooksUp, Marks, book, book_more, lost_more, name_true, named, names_so, or_none, pairs_same}
use Rattle.circuit_set.proofs.Askers.{pair_itself}

-- ---- places ----
one_place : (b : Book) (e : Event) → (with_event b e).places ≡ suc b.places
one_place b e = by e.told
  where
    by : (t : CircuitTold) → (with_event b (record { node = e.node; own = e.own; told = t })).places ≡ suc b.places
    by (Made id pair at request) = refl
    by (Sent id number d) = refl
    by (Heeded id d) = refl
    by (Notice id n) = refl
    by (Gone id facts) = refl
    by (Restarted pair) = refl
    by (Lost id facts) = refl

pub places_are : (es : List Event) → (book es).places ≡ length es
places_are = by_snoc (λ es. (book es).places ≡ length es)
    (λ es e old. (let a : (book (es ++ e ∷ [])).places ≡ suc (book es).places = ap (λ (b : Book). b.places) (book_more es e) ∙ one_place (book es) e in
    let c : length (es ++ e ∷ []) ≡ length es + 1 = length-append es (e ∷ []) in omega (arith, a, c, old)))
    refl

-- ---- the end that a node has given a pair last ----
last_noticed : (x : Name) (n : EndNotice) (own : Callsign) (pair : Pair) (ms : List MadeNote) → made_last (with_notice x n ms) own pair ≡ made_last ms own pair
last_noticed x n own pair [] = refl
last_noticed x n own pair (m ∷ ms) = by (same_name m.who x) (last_noticed x n own pair ms)
  where
    by : (b : Bool) → made_last (with_notice x n ms) own pair ≡ made_last ms own pair → made_last ((if b then record m { told = m.told ++ n ∷ [] } else m) ∷ with_notice x n ms) own pair ≡ made_last (m ∷ ms) own pair
    by true later = rw later refl
    by false later = rw later refl

module _ (own : Callsign) (pair : Pair) where
  abbrev Given : Book → Event → Type 0
  Given b e = ((x : Name) × Gives own pair x e × (made_last (with_event b e).made own pair ≡ Some x)) ⊎ (((x : Name) → Gives own pair x e → ⊥) × (made_last (with_event b e).made own pair ≡ made_last b.made own pair))

  made_case : (b : Book) (node : ℕ) (call : Callsign) (id : ℕ) (p : Pair) (at : Callsign) (r : Option (List ℕ)) (c : Bool) → (same_call call own && same_pair p pair) ≡ c → Given b (record { node = node; own = call; told = Made id p at r })
  made_case b node call id p at r true h =
      let two = and_parts (same_call call own) (same_pair p pair) h in
      let to : (let t : CircuitTold = Made id p at r in t) ≡ Made id pair at r = ap (λ q. Made id q at r) (pairs_same p pair two.1) in
      inl (named node id, (same_call-true call own two.0, at, r, (refl, to)), ap (λ k. if k then Some (named node id) else made_last b.made own pair) h)
  made_case b node call id p at r false h =
      inr (
        (λ x g. (let same : p ≡ pair = cc (g.3.1) in
            both_ways (same_call call own && same_pair p pair) h
            (and_from (same_call call own) (same_pair p pair) (subst (λ k. same_call call k ≡ true) g.0 (call_refl call)) (subst (λ k. same_pair p k ≡ true) same (pair_itself p))))),
        ap (λ k. if k then Some (named node id) else made_last b.made own pair) h,
      )

  given_step : (b : Book) (e : Event) → Given b e
  given_step b e = by e.told
    where
      by : (t : CircuitTold) → Given b (record { node = e.node; own = e.own; told = t })
      by (Made id p at r) = made_case b e.node e.own id p at r (same_call e.own own && same_pair p pair) refl
      by (Sent id number d) = inr ((λ x g. absurd (cc (g.3.1))), refl)
      by (Heeded id d) = inr ((λ x g. absurd (cc (g.3.1))), refl)
      by (Notice id n) = inr ((λ x g. absurd (cc (g.3.1))), last_noticed (named e.node id) n own pair b.made)
      by (Gone id facts) = inr ((λ x g. absurd (cc (g.3.1))), refl)
      by (Restarted q) = inr ((λ x g. absurd (cc (g.3.1))), refl)
      by (Lost id facts) = inr ((λ x g. absurd (cc (g.3.1))), refl)

  pub given_looks : LooksUp (λ es. made_last (book es).made own pair) (λ x p e. Gives own pair x e)
  given_looks = record {
    start = refl;
    step = λ es e fresh. elim (given_step (book es) e) [
      | inl s ↦ inl (s.0, s.1, ap (λ (b : Book). made_last b.made own pair) (book_more es e) ∙ s.2)
      | inr s ↦ inr (s.0, ap (λ (b : Book). made_last b.made own pair) (book_more es e) ∙ s.1)
    ];
    same = λ a b es e fresh g h. (let told = sym g.3.1 ∙ h.3.1 in let id : a.id ≡ b.id = cc told in names_so a b (sym g.3.0 ∙ h.3.0) id);
  }

-- ---- the latest sending ----
-- this note is of a sending by y of which d is a copy
pub record IsNote (y : Name) (d : List ℕ) (s : SentNote) (before : List Event) (e : Event) : Type 0 where
  pub told : Tells e y (Sent y.id s.number s.datagram)
  pub copy : is_copy d s.datagram ≡ true
  pub who : s.who ≡ y
  pub place : s.place ≡ length before

notes_so : (s t : SentNote) → s.who ≡ t.who → s.place ≡ t.place → s.number ≡ t.number → s.datagram ≡ t.datagram → s ≡ t
notes_so s t a b c d = rw (a, b, c, d) refl

module _ (y : Name) (d : List ℕ) where
  abbrev Latest : Book → List Event → Event → Type 0
  Latest b es e = ((s : SentNote) × IsNote y d s es e × (latest_in (with_event b e).sent y d ≡ Some s)) ⊎ (((s : SentNote) → IsNote y d s es e → ⊥) × (latest_in (with_event b e).sent y d ≡ latest_in b.sent y d))

  sent_case : (b : Book) (es : List Event) → b.places ≡ length es → (node : ℕ) (own : Callsign) (id : ℕ) (number : Option ℕ) (sent : List ℕ) (c : Bool) → (same_name (record { node = node; id = id }) y && is_copy d sent) ≡ c
      → Latest b es (record { node = node; own = own; told = Sent id number sent })
  sent_case b es places node own id number sent true h =
      let two = and_parts (same_name (record { node = node; id = id }) y) (is_copy d sent) h in
      let s : SentNote = record { who = record { node = node; id = id }; place = b.places; number = number; datagram = sent } in
      let is : (let x : Name = record { node = node; id = id } in x) ≡ y = same_names (record { node = node; id = id }) y two.0 in
      inl (
        s,
        record { told = (ap (λ (x : Name). x.node) is, ap (λ (x : Name). Sent x.id number sent) is); copy = two.1; who = is; place = places },
        ap (λ k. if k then Some s else latest_in b.sent y d) h,
      )
  sent_case b es places node own id number sent false h =
      let s : SentNote = record { who = record { node = node; id = id }; place = b.places; number = number; datagram = sent } in
      inr (
        (λ t n. (let told = n.told.1 in let i : id ≡ y.id = cc told in let same : t.datagram ≡ sent = cc (sym told) in
            both_ways (same_name (record { node = node; id = id }) y && is_copy d sent) h
            (and_from (same_name (record { node = node; id = id }) y) (is_copy d sent) (name_true node id y n.told.0 i) (subst (λ k. is_copy d k ≡ true) same n.copy)))),
        ap (λ k. if k then Some s else latest_in b.sent y d) h,
      )

  latest_step : (b : Book) (es : List Event) → b.places ≡ length es → (e : Event) → Latest b es e
  latest_step b es places e = by e.told
    where
      by : (t : CircuitTold) → Latest b es (record { node = e.node; own = e.own; told = t })
      by (Made id p at r) = inr ((λ x n. absurd (cc (n.told.1))), refl)
      by (Sent id number sent) = sent_case b es places e.node e.own id number sent (same_name (record { node = e.node; id = id }) y && is_copy d sent) refl
      by (Heeded id k) = inr ((λ x n. absurd (cc (n.told.1))), refl)
      by (Notice id k) = inr ((λ x n. absurd (cc (n.told.1))), refl)
      by (Gone id facts) = inr ((λ x n. absurd (cc (n.told.1))), refl)
      by (Restarted q) = inr ((λ x n. absurd (cc (n.told.1))), refl)
      by (Lost id facts) = inr ((λ x n. absurd (cc (n.told.1))), refl)

  pub latest_looks : LooksUp (λ es. latest_in (book es).sent y d) (IsNote y d)
  latest_looks = record {
    start = refl;
    step = λ es e fresh. elim (latest_step (book es) es (places_are es) e) [
      | inl s ↦ inl (s.0, s.1, ap (λ (b : Book). latest_in b.sent y d) (book_more es e) ∙ s.2)
      | inr s ↦ inr (s.0, ap (λ (b : Book). latest_in b.sent y d) (book_more es e) ∙ s.1)
    ];
    same = λ s t es e fresh m n. (let told = sym m.told.1 ∙ n.told.1 in let number : s.number ≡ t.number = cc told in let datagram : s.datagram ≡ t.datagram = cc told in
        notes_so s t (m.who ∙ sym n.who) (m.place ∙ sym n.place) number datagram);
  }

  -- as the events tell it
  pub noted_sending : (number : Option ℕ) (p : List Event) (e : Event) → SendsCopy y d number e → (s : SentNote) × IsNote y d s p e
  noted_sending number p e c =
      (record { who = y; place = length p; number = number; datagram = c.0 }, record { told = c.1; copy = c.2; who = refl; place = refl })

  abbrev pub sending_of : (s : SentNote) (es : List Event) → Last (IsNote y d) s es → LatestSending es y d s.number
  sending_of s es l = last_so s s.number es l (s.datagram, l.is.told, l.is.copy) noted_sending

  pub note_of : (number : Option ℕ) (es : List Event) (l : LatestSending es y d number) → Last (IsNote y d) (record { who = y; place = length l.before; number = number; datagram = l.is.0 }) es
  note_of number es l =
      last_so number (record { who = y; place = length l.before; number = number; datagram = l.is.0 }) es l (record { told = l.is.1; copy = l.is.2; who = refl; place = refl })
      (λ s p e n. (s.number, (s.datagram, n.told, n.copy)))

-- ---- what was sent ----
module _ (x : Name) (d : List ℕ) where
  abbrev SendsIt : Event → Type 0
  SendsIt e = (number : Option ℕ) × SendsCopy x d number e

  abbrev SentTurn : Book → Event → Type 0
  SentTurn b e = (SendsIt e × (has_sent (with_event b e).sent x d ≡ true)) ⊎ ((SendsIt e → ⊥) × (has_sent (with_event b e).sent x d ≡ has_sent b.sent x d))

  has_case : (b : Book) (node : ℕ) (own : Callsign) (id : ℕ) (number : Option ℕ) (sent : List ℕ) (c : Bool) → (same_name (record { node = node; id = id }) x && is_copy d sent) ≡ c
      → SentTurn b (record { node = node; own = own; told = Sent id number sent })
  has_case b node own id number sent true h =
      let two = and_parts (same_name (record { node = node; id = id }) x) (is_copy d sent) h in
      let is : (let z : Name = record { node = node; id = id } in z) ≡ x = same_names (record { node = node; id = id }) x two.0 in
      inl ((number, (sent, (ap (λ (z : Name). z.node) is, ap (λ (z : Name). Sent z.id number sent) is), two.1)), or_left _ (has_sent b.sent x d) h)
  has_case b node own id number sent false h =
      inr (
        (λ c. (let told = c.1.1.1 in let i : id ≡ x.id = cc told in let same : c.1.0 ≡ sent = cc (sym told) in
            both_ways (same_name (record { node = node; id = id }) x && is_copy d sent) h
            (and_from (same_name (record { node = node; id = id }) x) (is_copy d sent) (name_true node id x c.1.1.0 i) (subst (λ k. is_copy d k ≡ true) same c.1.2)))),
        or_none _ (has_sent b.sent x d) h,
      )

  has_turn : (b : Book) (e : Event) → SentTurn b e
  has_turn b e = by e.told
    where
      by : (t : CircuitTold) → SentTurn b (record { node = e.node; own = e.own; told = t })
      by (Made id p at r) = inr ((λ c. absurd (cc (c.1.1.1))), refl)
      by (Sent id number sent) = has_case b e.node e.own id number sent (same_name (record { node = e.node; id = id }) x && is_copy d sent) refl
      by (Heeded id k) = inr ((λ c. absurd (cc (c.1.1.1))), refl)
      by (Notice id k) = inr ((λ c. absurd (cc (c.1.1.1))), refl)
      by (Gone id facts) = inr ((λ c. absurd (cc (c.1.1.1))), refl)
      by (Restarted q) = inr ((λ c. absurd (cc (c.1.1.1))), refl)
      by (Lost id facts) = inr ((λ c. absurd (cc (c.1.1.1))), refl)

  pub sent_marks : Marks (λ es. has_sent (book es).sent x d) (λ p e. (number : Option ℕ) × SendsCopy x d number e)
  sent_marks = record {
    start = refl;
    turn = λ es e fresh. elim (has_turn (book es) e) [
      | inl s ↦ inl (s.0, ap (λ (b : Book). has_sent b.sent x d) (book_more es e) ∙ s.1)
      | inr s ↦ inr (s.0, ap (λ (b : Book). has_sent b.sent x d) (book_more es e) ∙ s.1)
    ];
  }

-- ---- which fragments were sent ----
number_is : (o : Option ℕ) (n : ℕ) → is_number o n ≡ true → o ≡ Some n
number_is None n h = absurd (cc h)
number_is (Some m) n h = ap (λ k. Some k) (eqb-true m n h)

module _ (x : Name) (n : ℕ) where
  abbrev FragmentTurn : Book → Event → Type 0
  FragmentTurn b e = (SendsFragment x n e × (has x n (with_event b e).sent ≡ true)) ⊎ ((SendsFragment x n e → ⊥) × (has x n (with_event b e).sent ≡ has x n b.sent))

  fragment_case : (b : Book) (node : ℕ) (own : Callsign) (id : ℕ) (number : Option ℕ) (sent : List ℕ) (c : Bool) → (same_name (record { node = node; id = id }) x && is_number number n) ≡ c
      → FragmentTurn b (record { node = node; own = own; told = Sent id number sent })
  fragment_case b node own id number sent true h =
      let two = and_parts (same_name (record { node = node; id = id }) x) (is_number number n) h in
      let is : (let z : Name = record { node = node; id = id } in z) ≡ x = same_names (record { node = node; id = id }) x two.0 in
      let told : (let t : CircuitTold = Sent id number sent in t) ≡ Sent x.id (Some n) sent = ap (λ (z : Name). Sent z.id number sent) is ∙ ap (λ o. Sent x.id o sent) (number_is number n two.1) in
      inl ((sent, (ap (λ (z : Name). z.node) is, told)), or_left _ (has x n b.sent) h)
  fragment_case b node own id number sent false h =
      inr (
        (λ c. (let told = c.1.1 in let i : id ≡ x.id = cc told in let same : Some n ≡ number = cc (sym told) in
            both_ways (same_name (record { node = node; id = id }) x && is_number number n) h
            (and_from (same_name (record { node = node; id = id }) x) (is_number number n) (name_true node id x c.1.0 i) (subst (λ k. is_number k n ≡ true) same (nat_refl n))))),
        or_none _ (has x n b.sent) h,
      )

  pub fragment_turn : (b : Book) (e : Event) → FragmentTurn b e
  fragment_turn b e = by e.told
    where
      by : (t : CircuitTold) → FragmentTurn b (record { node = e.node; own = e.own; told = t })
      by (Made id p at r) = inr ((λ c. absurd (cc (c.1.1))), refl)
      by (Sent id number sent) = fragment_case b e.node e.own id number sent (same_name (record { node = e.node; id = id }) x && is_number number n) refl
      by (Heeded id k) = inr ((λ c. absurd (cc (c.1.1))), refl)
      by (Notice id k) = inr ((λ c. absurd (cc (c.1.1))), refl)
      by (Gone id facts) = inr ((λ c. absurd (cc (c.1.1))), refl)
      by (Restarted q) = inr ((λ c. absurd (cc (c.1.1))), refl)
      by (Lost id facts) = inr ((λ c. absurd (cc (c.1.1))), refl)

  pub fragment_marks : Marks (λ es. has x n (book es).sent) (λ p e. SendsFragment x n e)
  fragment_marks = record {
    start = refl;
    turn = λ es e fresh. elim (fragment_turn (book es) e) [
      | inl s ↦ inl (s.0, ap (λ (b : Book). has x n b.sent) (book_more es e) ∙ s.1)
      | inr s ↦ inr (s.0, ap (λ (b : Book). has x n b.sent) (book_more es e) ∙ s.1)
    ];
  }

-- ---- which ends were lost ----
module _ (x : Name) where
  abbrev LossTurn : List Name → Event → Type 0
  LossTurn lost e = (Loses x e × (is_lost (lost_with lost e.node e.told) x ≡ true)) ⊎ ((Loses x e → ⊥) × (is_lost (lost_with lost e.node e.told) x ≡ is_lost lost x))

  loss_turn : (lost : List Name) (e : Event) → LossTurn lost e
  loss_turn lost e = by e.told
    where
      by : (t : CircuitTold) → LossTurn lost (record { node = e.node; own = e.own; told = t })
      by (Made id p at r) = inr ((λ c. absurd (cc (c.1.1))), refl)
      by (Sent id number sent) = inr ((λ c. absurd (cc (c.1.1))), refl)
      by (Heeded id k) = inr ((λ c. absurd (cc (c.1.1))), refl)
      by (Notice id k) = inr ((λ c. absurd (cc (c.1.1))), refl)
      by (Gone id facts) = inr ((λ c. absurd (cc (c.1.1))), refl)
      by (Restarted q) = inr ((λ c. absurd (cc (c.1.1))), refl)
      by (Lost id facts) = at (same_name (record { node = e.node; id = id }) x) refl
        where
          at : (c : Bool) → same_name (record { node = e.node; id = id }) x ≡ c → LossTurn lost (record { node = e.node; own = e.own; told = Lost id facts })
          at true h =
              let is : (let z : Name = record { node = e.node; id = id } in z) ≡ x = same_names (record { node = e.node; id = id }) x h in
              inl ((facts, (ap (λ (z : Name). z.node) is, ap (λ (z : Name). Lost z.id facts) is)), or_left _ (is_lost lost x) h)
          at false h = inr ((λ c. (let i : id ≡ x.id = cc (c.1.1) in both_ways _ h (name_true e.node id x c.1.0 i))), or_none _ (is_lost lost x) h)

  pub loss_marks : Marks (λ es. is_lost (lost_in [] es) x) (λ p e. Loses x e)
  loss_marks = record {
    start = refl;
    turn = λ es e fresh. elim (loss_turn (lost_in [] es) e) [
      | inl s ↦ inl (s.0, ap (λ lost. is_lost lost x) (lost_more [] es e) ∙ s.1)
      | inr s ↦ inr (s.0, ap (λ lost. is_lost lost x) (lost_more [] es e) ∙ s.1)
    ];
  }
