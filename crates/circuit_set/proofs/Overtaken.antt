-- Which fragments have overtaken a sending: by the book and by the events.
use Rattle.std.specs.Prelude.{◌≡◌, ℕ, suc, ◌+◌, ◌-◌, ◌≤◌, ◌<◌, ◌⊎◌, Bool, true, false, ◌&&◌, ◌||◌, nat_eq, nat_lt, if◌then◌else◌, List, [], ◌∷◌, ◌++◌, length, Option, Some, None, refl}
use Rattle.std.proofs.Common.{sym, ◌∙◌, ap, subst, inl, inr, arith, length-append, append_assoc, append-nil}
use Rattle.std.proofs.lemmas.Bool.Decides.{nat_tests}
use Rattle.std.proofs.lemmas.Bool.{and_parts, or_parts, or_right, and_from, or_left, eqb-true, both_ways}
use Rattle.ax_address.specs.Callsign.{Callsign}
use Rattle.ax_address.proofs.SameNumbers.{nat_refl}
use Rattle.circuit_set.specs.TooLate.{Has, FirstSent, HeedsFragment, LatestSending, SendsFragment}
use Rattle.circuit_set.specs.Books.{Book, Fresh, HeardNote, SentNote, empty, first_place, has, heard_number, heard_sending, is_heard, latest_by, latest_in, with_event, with_events, partner_in, sends}
use Rattle.circuit_table.specs.Events.{Event, Name, same_name}
use Rattle.circuit_table.specs.Sets.{CircuitTold, Made, Sent, Heeded, Notice, Gone, Restarted, Lost}
use Rattle.circuit_set.proofs.Among.{by_snoc}
use Rattle.circuit_set.proofs.Bridge.{name_itself, same_names}
use Rattle.circuit_set.proofs.Noted.{Marks, book, book_more, finds, found, fresh_less, marked, marks, names_so, or_none}
use Rattle.circuit_set.proofs.Noting.{noted_append}
use Rattle.circuit_set.proofs.Sought.{fragment_marks, latest_looks, note_of, places_are, sending_of}
use Rattle.circuit_set.proofs.Joined.{partner_looks}

-- ---- which fragments were heeded ----
-- what the book has of a heeded datagram, whose latest sending carried this fragment
record HeedsNote (es : List Event) (w x : Name) (d : List ℕ) (n : ℕ) : Type 0 where
  is : w ≡ x
  y : Name
  partner_is : partner_in (book es).made w ≡ Some y
  note : SentNote
  latest_is : latest_in (book es).sent y d ≡ Some note
  number : note.number ≡ Some n

module _ (es : List Event) (fresh : Fresh empty es) (x : Name) (n : ℕ) (node : ℕ) (own : Callsign) (id : ℕ) (d : List ℕ) where
  abbrev w : Name
  w = record { node = node; id = id }

  abbrev e : Event
  e = record { node = node; own = own; told = Heeded id d }

  heeds_note : HeedsFragment x n es e → HeedsNote es w x d n
  heeds_note h =
      let i : id ≡ x.id = (let z = h.1.1 in cc z) in
      let same : h.0 ≡ d = (let z = sym h.1.1 in cc z) in
      let is : w ≡ x = names_so w x h.1.0 i in
      record {
        is = is;
        y = h.2;
        partner_is = subst (λ z. partner_in (book es).made z ≡ Some h.2) (sym is) (found (partner_looks x) es fresh h.2 h.3);
        note = record { who = h.2; place = length h.4.before; number = Some n; datagram = h.4.is.0 };
        latest_is = subst (λ k. latest_in (book es).sent h.2 k ≡ Some (record { who = h.2; place = length h.4.before; number = Some n; datagram = h.4.is.0 })) same
            (found (latest_looks h.2 h.0) es fresh _ (note_of h.2 h.0 (Some n) es h.4));
        number = refl;
      }

  abbrev HeardTurn : List HeardNote → Type 0
  HeardTurn hs = (HeedsFragment x n es e × (is_heard x n hs ≡ true)) ⊎ ((HeedsFragment x n es e → ⊥) × (is_heard x n hs ≡ is_heard x n (book es).heard))

  abbrev hs : List HeardNote
  hs = (book es).heard

  heard_true : (m : ℕ) → w ≡ x → m ≡ n → (b : Bool) → is_heard w m hs ≡ b → is_heard x n (if b then hs else record { who = w; number = m } ∷ hs) ≡ true
  heard_true m i j true h = subst (λ z. is_heard z n hs ≡ true) i (subst (λ k. is_heard w k hs ≡ true) j h)
  heard_true m i j false h = or_left (same_name w x && nat_eq n m) (is_heard x n hs) (and_from (same_name w x) (nat_eq n m) (subst (λ z. same_name w z ≡ true) i (name_itself w)) (subst (λ k. nat_eq n k ≡ true) (sym j) (nat_refl n)))

  heard_same : (m : ℕ) → (same_name w x && nat_eq n m) ≡ false → (b : Bool) → is_heard x n (if b then hs else record { who = w; number = m } ∷ hs) ≡ is_heard x n hs
  heard_same m f true = refl
  heard_same m f false = or_none (same_name w x && nat_eq n m) (is_heard x n hs) f

  fragment_case : (y : Name) (s : SentNote) (m : ℕ) → partner_in (book es).made w ≡ Some y → latest_in (book es).sent y d ≡ Some s → s.number ≡ Some m
      → (c : Bool) → (same_name w x && nat_eq n m) ≡ c → HeardTurn (heard_number w (Some m) hs)
  fragment_case y s m p l k true c =
      let two = and_parts (same_name w x) (nat_eq n m) c in
      let i : w ≡ x = same_names w x two.0 in
      let j : m ≡ n = sym (eqb-true n m two.1) in
      let sending : LatestSending es y d (Some n) = subst (LatestSending es y d) (k ∙ ap (λ q. Some q) j) (sending_of y d s es (finds (latest_looks y d) es fresh s l)) in
      inl (
        (d, (ap (λ (z : Name). z.node) i, ap (λ (z : Name). Heeded z.id d) i), y, finds (partner_looks x) es fresh y (subst (λ z. partner_in (book es).made z ≡ Some y) i p), sending),
        heard_true m i j (is_heard w m hs) refl,
      )
  fragment_case y s m p l k false c =
      inr (
        (λ h. (let r : HeedsNote es w x d n = heeds_note h in
            let ys : y ≡ r.y = (let z = sym p ∙ r.partner_is in cc z) in
            let note : s ≡ r.note = (let z = sym (subst (λ q. latest_in (book es).sent q d ≡ Some s) ys l) ∙ r.latest_is in cc z) in
            let number : m ≡ n = (let z = sym k ∙ (ap (λ (q : SentNote). q.number) note ∙ r.number) in cc z) in
            both_ways (same_name w x && nat_eq n m) c (and_from (same_name w x) (nat_eq n m) (subst (λ z. same_name w z ≡ true) r.is (name_itself w)) (subst (λ q. nat_eq n q ≡ true) (sym number) (nat_refl n))))),
        heard_same m c (is_heard w m hs),
      )

  number_case : (y : Name) (s : SentNote) → partner_in (book es).made w ≡ Some y → latest_in (book es).sent y d ≡ Some s → (o : Option ℕ) → s.number ≡ o → HeardTurn (heard_number w o hs)
  number_case y s p l None k =
      inr (
        (λ h. (let r : HeedsNote es w x d n = heeds_note h in
            let ys : y ≡ r.y = (let z = sym p ∙ r.partner_is in cc z) in
            let note : s ≡ r.note = (let z = sym (subst (λ q. latest_in (book es).sent q d ≡ Some s) ys l) ∙ r.latest_is in cc z) in
            let z = sym k ∙ (ap (λ (q : SentNote). q.number) note ∙ r.number) in absurd (cc z))),
        refl,
      )
  number_case y s p l (Some m) k = fragment_case y s m p l k (same_name w x && nat_eq n m) refl

  sending_case : (y : Name) → partner_in (book es).made w ≡ Some y → (o : Option SentNote) → latest_in (book es).sent y d ≡ o → HeardTurn (heard_sending w o hs)
  sending_case y p None l =
      inr (
        (λ h. (let r : HeedsNote es w x d n = heeds_note h in
            let ys : y ≡ r.y = (let z = sym p ∙ r.partner_is in cc z) in
            let z = sym (subst (λ q. latest_in (book es).sent q d ≡ None) ys l) ∙ r.latest_is in absurd (cc z))),
        refl,
      )
  sending_case y p (Some s) l = number_case y s p l s.number refl

  partner_case : (o : Option Name) → partner_in (book es).made w ≡ o → HeardTurn (heard_sending w (latest_by (book es) o d) hs)
  partner_case None p =
      inr ((λ h. (let r : HeedsNote es w x d n = heeds_note h in let z = sym p ∙ r.partner_is in absurd (cc z))), refl)
  partner_case (Some y) p = sending_case y p (latest_in (book es).sent y d) refl

  pub heard_turn : HeardTurn (with_event (book es) e).heard
  heard_turn = partner_case (partner_in (book es).made w) refl

module _ (x : Name) (n : ℕ) where
  turn : (es : List Event) → Fresh empty es → (e : Event)
      → (HeedsFragment x n es e × (is_heard x n (with_event (book es) e).heard ≡ true)) ⊎ ((HeedsFragment x n es e → ⊥) × (is_heard x n (with_event (book es) e).heard ≡ is_heard x n (book es).heard))
  turn es fresh e = by e.told
    where
      by : (t : CircuitTold) → (let k : Event = record { node = e.node; own = e.own; told = t } in
          (HeedsFragment x n es k × (is_heard x n (with_event (book es) k).heard ≡ true)) ⊎ ((HeedsFragment x n es k → ⊥) × (is_heard x n (with_event (book es) k).heard ≡ is_heard x n (book es).heard)))
      by (Made id p at r) = inr ((λ h. absurd (cc (h.1.1))), refl)
      by (Sent id number sent) = inr ((λ h. absurd (cc (h.1.1))), refl)
      by (Heeded id d) = heard_turn es fresh x n e.node e.own id d
      by (Notice id k) = inr ((λ h. absurd (cc (h.1.1))), refl)
      by (Gone id facts) = inr ((λ h. absurd (cc (h.1.1))), refl)
      by (Restarted q) = inr ((λ h. absurd (cc (h.1.1))), refl)
      by (Lost id facts) = inr ((λ h. absurd (cc (h.1.1))), refl)

  pub heard_marks : Marks (λ es. is_heard x n (book es).heard) (HeedsFragment x n)
  heard_marks = record {
    start = refl;
    turn = λ es e fresh. elim (turn es (fresh_less es e fresh).0 e) [
      | inl s ↦ inl (s.0, ap (λ (b : Book). is_heard x n b.heard) (book_more es e) ∙ s.1)
      | inr s ↦ inr (s.0, ap (λ (b : Book). is_heard x n b.heard) (book_more es e) ∙ s.1)
    ];
  }

-- ---- first sendings ----
module _ (x : Name) (n : ℕ) where
  none_place : (ss : List SentNote) → has x n ss ≡ false → first_place x n ss ≡ 0
  none_place [] h = refl
  none_place (s ∷ ss) h =
      let two = or_parts (sends x n s) (has x n ss) h in
      ap (λ k. if k then first_place x n ss else (if sends x n s then s.place else 0)) two.1 ∙ ap (λ k. if k then s.place else 0) two.0

  -- what one event more leaves of it
  pub record Later (b c : Book) : Type 0 where
    pub places : c.places ≡ suc b.places
    pub sent : (has x n b.sent ≡ true → (has x n c.sent ≡ true) × (first_place x n c.sent ≡ first_place x n b.sent))
    pub first : has x n b.sent ≡ false → has x n c.sent ≡ true → first_place x n c.sent ≡ b.places

  first_case : (h c : Bool) (v place : ℕ) → h ≡ false → (c || h) ≡ true → (if h then v else (if c then place else 0)) ≡ place
  first_case true c v place e f = absurd (cc e)
  first_case false true v place e f = refl
  first_case false false v place e f = absurd (cc f)

  same_later : (b c : Book) → c.places ≡ suc b.places → c.sent ≡ b.sent → Later b c
  same_later b c p s = record {
    places = p;
    sent = λ h. (ap (has x n) s ∙ h, ap (first_place x n) s);
    first = λ h k. (let z = sym h ∙ (sym (ap (has x n) s) ∙ k) in absurd (cc z));
  }

  later : (b : Book) (e : Event) → Later b (with_event b e)
  later b e = by e.told
    where
      by : (t : CircuitTold) → Later b (with_event b (record { node = e.node; own = e.own; told = t }))
      by (Made id p at r) = same_later b _ refl refl
      by (Sent id number sent) =
          let s : SentNote = record { who = record { node = e.node; id = id }; place = b.places; number = number; datagram = sent } in
          record {
            places = refl;
            sent = λ h. (or_right (sends x n s) (has x n b.sent) h, ap (λ k. if k then first_place x n b.sent else (if sends x n s then b.places else 0)) h);
            first = λ h k. first_case (has x n b.sent) (sends x n s) (first_place x n b.sent) b.places h k;
          }
      by (Heeded id d) = same_later b _ refl refl
      by (Notice id k) = same_later b _ refl refl
      by (Gone id facts) = same_later b _ refl refl
      by (Restarted q) = same_later b _ refl refl
      by (Lost id facts) = same_later b _ refl refl

  stays_first : (es : List Event) (b : Book) → has x n b.sent ≡ true → first_place x n (with_events b es).sent ≡ first_place x n b.sent
  stays_first [] b h = refl
  stays_first (e ∷ es) b h = let r = (later b e).sent h in stays_first es (with_event b e) r.0 ∙ r.1

  comes_first : (es : List Event) (b : Book) (k : ℕ) → has x n b.sent ≡ false → k ≤ b.places → has x n (with_events b es).sent ≡ true → k ≤ first_place x n (with_events b es).sent
  comes_first [] b k h l t = let z = sym h ∙ t in absurd (cc z)
  comes_first (v ∷ es) b k h l t =
      let p : (with_event b v).places ≡ suc b.places = (later b v).places in
      by (has x n (with_event b v).sent) refl (λ q. comes_first es (with_event b v) k q (omega (arith, p, l)) t)
    where
      by : (c : Bool) → has x n (with_event b v).sent ≡ c → (has x n (with_event b v).sent ≡ false → k ≤ first_place x n (with_events (with_event b v) es).sent) → k ≤ first_place x n (with_events (with_event b v) es).sent
      by true q rest = let a : first_place x n (with_events (with_event b v) es).sent ≡ b.places = stays_first es (with_event b v) q ∙ (later b v).first h q in omega (arith, a, l)
      by false q rest = rest q

  -- a first sending stands among the events
  below : (es : List Event) → first_place x n (book es).sent ≤ length es - 1
  below = by_snoc (λ es. first_place x n (book es).sent ≤ length es - 1)
      (λ es e old. (let more : length (es ++ e ∷ []) ≡ length es + 1 = length-append es (e ∷ []) in
      let same : first_place x n (book (es ++ e ∷ [])).sent ≡ first_place x n (with_event (book es) e).sent = ap (λ (b : Book). first_place x n b.sent) (book_more es e) in
      let now : first_place x n (with_event (book es) e).sent ≤ length es = at es e old (has x n (book es).sent) refl (has x n (with_event (book es) e).sent) refl in
      omega (arith, more, same, now)))
      (omega arith)
    where
      at : (es : List Event) (e : Event) → first_place x n (book es).sent ≤ length es - 1 → (h : Bool) → has x n (book es).sent ≡ h → (c : Bool) → has x n (with_event (book es) e).sent ≡ c → first_place x n (with_event (book es) e).sent ≤ length es
      at es e old true h c k = let a : first_place x n (with_event (book es) e).sent ≡ first_place x n (book es).sent = ((later (book es) e).sent h).1 in omega (arith, a, old)
      at es e old false h true k =
          let a : first_place x n (with_event (book es) e).sent ≡ (book es).places = (later (book es) e).first h k in let p : (book es).places ≡ length es = places_are es in omega (arith, a, p)
      at es e old false h false k = let a : first_place x n (with_event (book es) e).sent ≡ 0 = none_place (with_event (book es) e).sent k in omega (arith, a)

-- ---- events before and since ----
has_front : {P : Event → Type 0} (upto since : List Event) → Has (λ p e. P e) upto → Has (λ p e. P e) (upto ++ since)
has_front upto since h =
    record { before = h.before; at = h.at; after = h.after ++ since; parts = ap (λ xs. xs ++ since) h.parts ∙ append_assoc h.before (h.at ∷ h.after) since; is = h.is }

has_back : {P : Event → Type 0} (upto since : List Event) → Has (λ p e. P e) since → Has (λ p e. P e) (upto ++ since)
has_back upto since h =
    record { before = upto ++ h.before; at = h.at; after = h.after; parts = ap (λ xs. upto ++ xs) h.parts ∙ sym (append_assoc upto h.before (h.at ∷ h.after)); is = h.is }

-- one of all is one of the first or one of the rest
has_either : {P : Event → Type 0} (upto since : List Event) → Has (λ p e. P e) (upto ++ since) → Has (λ p e. P e) upto ⊎ Has (λ p e. P e) since
has_either [] since h = inr h
has_either {P = P} (u ∷ upto) since h = at h.before h.at h.after h.parts h.is (λ r. has_either {P = P} upto since r)
  where
    at : (before : List Event) (k : Event) (after : List Event) → u ∷ (upto ++ since) ≡ before ++ k ∷ after → P k → (Has (λ p e. P e) (upto ++ since) → Has (λ p e. P e) upto ⊎ Has (λ p e. P e) since)
        → Has (λ p e. P e) (u ∷ upto) ⊎ Has (λ p e. P e) since
    at [] k after parts is later = let same : k ≡ u = (let z = sym parts in cc z) in inl (record { before = []; at = u; after = upto; parts = refl; is = subst P same is })
    at (b ∷ before) k after parts is later =
        let rest : upto ++ since ≡ before ++ k ∷ after = cc parts in
        elim (later (record { before = before; at = k; after = after; parts = rest; is = is })) [
          | inl k ↦ inl (record { before = u ∷ k.before; at = k.at; after = k.after; parts = ap (λ xs. u ∷ xs) k.parts; is = k.is })
          | inr k ↦ inr k
        ]

fresh_front : (upto since : List Event) → Fresh empty (upto ++ since) → Fresh empty upto
fresh_front upto = by_snoc (λ since. Fresh empty (upto ++ since) → Fresh empty upto)
    (λ since e old f. old (fresh_less (upto ++ since) e (subst (Fresh empty) (sym (append_assoc upto since (e ∷ []))) f)).0)
    (λ f. subst (Fresh empty) (append-nil upto) f)

module _ (x : Name) (n : ℕ) (upto since : List Event) (fresh : Fresh empty (upto ++ since)) (i : ℕ) (size : length upto ≡ suc i) where
  abbrev all : List Event
  all = upto ++ since

  whole : book all ≡ with_events (book upto) since
  whole = noted_append empty upto since

  known : Has (λ p e. SendsFragment x n e) upto → has x n (book upto).sent ≡ true
  known h = marked (fragment_marks x n) upto (fresh_front upto since fresh) h

  in_book : (c : Bool) → has x n (book upto).sent ≡ c → nat_lt i (first_place x n (book all).sent) ≡ true → has x n (book all).sent ≡ true → FirstSent upto since x n
  in_book true h l t =
      let a : first_place x n (book all).sent ≡ first_place x n (book upto).sent = ap (λ (b : Book). first_place x n b.sent) whole ∙ stays_first x n since (book upto) h in
      let b : first_place x n (book upto).sent ≤ length upto - 1 = below x n upto in
      let under : i < first_place x n (book all).sent = grind (arith, nat_tests, l) in
      absurd (omega (arith, a, b, size, under))
  in_book false h l t =
      let none : Has (λ p e. SendsFragment x n e) upto → ⊥ = λ k. both_ways _ h (known k) in
      elim (has_either {P = SendsFragment x n} upto since (marks (fragment_marks x n) all fresh t)) [
        | inl k ↦ absurd (none k)
        | inr k ↦ (k, none)
      ]

  sent_case : (c : Bool) → has x n (book all).sent ≡ c → nat_lt i (first_place x n (book all).sent) ≡ true → FirstSent upto since x n
  sent_case true h l = in_book (has x n (book upto).sent) refl l h
  sent_case false h l =
      let a : first_place x n (book all).sent ≡ 0 = none_place x n (book all).sent h in
      let under : i < first_place x n (book all).sent = grind (arith, nat_tests, l) in
      absurd (omega (arith, a, under))

  pub first_told : nat_lt i (first_place x n (book all).sent) ≡ true → FirstSent upto since x n
  first_told l = sent_case (has x n (book all).sent) refl l

  first_by : FirstSent upto since x n → (c : Bool) → has x n (book upto).sent ≡ c → nat_lt i (first_place x n (book all).sent) ≡ true
  first_by f true h = absurd (f.1 (marks (fragment_marks x n) upto (fresh_front upto since fresh) h))
  first_by f false h =
      let t : has x n (with_events (book upto) since).sent ≡ true = ap (λ (b : Book). has x n b.sent) (sym whole) ∙ marked (fragment_marks x n) all fresh (has_back {P = SendsFragment x n} upto since f.0) in
      let p : (book upto).places ≡ length upto = places_are upto in
      let a : length upto ≤ first_place x n (with_events (book upto) since).sent = comes_first x n since (book upto) (length upto) h (omega (arith, p)) t in
      let same : first_place x n (book all).sent ≡ first_place x n (with_events (book upto) since).sent = ap (λ (b : Book). first_place x n b.sent) whole in
      let under : i < first_place x n (book all).sent = omega (arith, a, same, size) in
      grind (arith, nat_tests, under)

  pub first_noted : FirstSent upto since x n → nat_lt i (first_place x n (book all).sent) ≡ true
  first_noted f = first_by f (has x n (book upto).sent) refl
