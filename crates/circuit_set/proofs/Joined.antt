-- Who asks for a circuit, and whose partner an end is: by the book and by the events, where those are fresh.
use Rattle.std.specs.Prelude.{◌≡◌, ℕ, ◌⊎◌, Bool, true, false, not, ◌&&◌, ◌||◌, if◌then◌else◌, List, [], ◌∷◌, drop, Option, Some, None, Result, Ok, Err, refl}
use Rattle.std.proofs.Common.{sym, ◌∙◌, ap, subst, inl, inr}
use Rattle.std.proofs.lemmas.Bool.{and_parts, and_from, or_left, both_ways}
use Rattle.ax_address.specs.Callsign.{Callsign}
use Rattle.l3_datagram.specs.declared.datagram.DatagramHead.{DatagramHead}
use Rattle.l3_datagram.specs.declared.datagram.DatagramRefusal.{DatagramRefusal}
use Rattle.l3_datagram.specs.Datagrams.{head_at}
use Rattle.circuit_l4.specs.declared.pair.Pair.{Pair}
use Rattle.circuit_l4.specs.Transports.{pair_at}
use Rattle.circuit_set.specs.Books.{Book, Fresh, FreshTold, HasRequester, MadeNote, asked_by, empty, first_name, has_sent, if_asked, is_unknown, made_last, with_event, partner_in, requester, was_asked, lost_in}
use Rattle.circuit_table.specs.Events.{Event, Name, same_name}
use Rattle.circuit_table.specs.Sets.{CircuitTold, Made, Sent, Heeded, Notice, Gone, Restarted, Lost}
use Rattle.circuit_set.specs.TooLate.{Asks, HasPartner, Joins, Makes, Opens}
use Rattle.circuit_set.proofs.Bridge.{name_itself, same_names}
use Rattle.circuit_set.proofs.Lookups.{same_asked, same_partner}
use Rattle.circuit_set.proofs.Noted.{LooksUp, Marks, book, book_more, finds, found, fresh_less, marked, marks, name_true, named, names_so, none_found, or_none}
use Rattle.circuit_set.proofs.Sought.{given_looks, sent_marks}

-- ---- who asks ----
asks_if : (b : Bool) (z x : Name) → (if b then Some z else None) ≡ Some x → (b ≡ true) × (z ≡ x)
asks_if true z x e = (refl, cc e)
asks_if false z x e = absurd (cc e)

-- what an end that was found has
pub record Found (es : List Event) (d : List ℕ) (head : DatagramHead) (x : Name) : Type 0 where
  pub given : made_last (book es).made head.origin (pair_at 0 (drop 15 d)) ≡ Some x
  pub sent : has_sent (book es).sent x d ≡ true
  pub free : is_unknown (partner_in (book es).made x) ≡ true

found_case : (es : List Event) (d : List ℕ) (head : DatagramHead) (x : Name) (o : Option Name) → made_last (book es).made head.origin (pair_at 0 (drop 15 d)) ≡ o → if_asked (book es) d o ≡ Some x → Found es d head x
found_case es d head x None e h = absurd (cc h)
found_case es d head x (Some z) e h =
    let a = asks_if (has_sent (book es).sent z d && is_unknown (partner_in (book es).made z)) z x h in
    let two = and_parts (has_sent (book es).sent z d) (is_unknown (partner_in (book es).made z)) a.0 in
    record {
      given = e ∙ ap (λ y. Some y) a.1;
      sent = subst (λ y. has_sent (book es).sent y d ≡ true) a.1 two.0;
      free = subst (λ y. is_unknown (partner_in (book es).made y) ≡ true) a.1 two.1;
    }

pub record Requested (es : List Event) (d : List ℕ) (x : Name) : Type 0 where
  pub head : DatagramHead
  pub read : head_at d ≡ Ok head
  pub found : Found es d head x

requested_case : (es : List Event) (d : List ℕ) (x : Name) (r : Result DatagramHead DatagramRefusal) → head_at d ≡ r → asked_by (book es) d r ≡ Some x → Requested es d x
requested_case es d x (Err f) e h = absurd (cc h)
requested_case es d x (Ok head) e h =
    record { head = head; read = e; found = found_case es d head x (made_last (book es).made head.origin (pair_at 0 (drop 15 d))) refl h }

pub requested : (es : List Event) (d : List ℕ) (x : Name) → requester (book es) (Some d) ≡ Some x → Requested es d x
requested es d x h = requested_case es d x (head_at d) refl h

pub asks : (es : List Event) → Fresh empty es → (d : List ℕ) (x : Name) → Requested es d x → Asks es d x
asks es fresh d x r = record {
  head = r.head;
  read = r.read;
  given = finds (given_looks r.head.origin (pair_at 0 (drop 15 d))) es fresh x r.found.given;
  sent = marks (sent_marks x d) es fresh r.found.sent;
}

-- it is the one that is found
pub requests : (es : List Event) → Fresh empty es → (d : List ℕ) (x : Name) → Asks es d x → is_unknown (partner_in (book es).made x) ≡ true → requester (book es) (Some d) ≡ Some x
requests es fresh d x a free =
    let given : made_last (book es).made a.head.origin (pair_at 0 (drop 15 d)) ≡ Some x = found (given_looks a.head.origin (pair_at 0 (drop 15 d))) es fresh x a.given in
    let sent : has_sent (book es).sent x d ≡ true = marked (sent_marks x d) es fresh a.sent in
    ap (asked_by (book es) d) a.read ∙ (ap (if_asked (book es) d) given
    ∙ ap (λ b. if b then Some x else None) (and_from (has_sent (book es).sent x d) (is_unknown (partner_in (book es).made x)) sent free))

pub one_asks : (es : List Event) → Fresh empty es → (d : List ℕ) (x y : Name) → Asks es d x → Asks es d y → x ≡ y
one_asks es fresh d x y a b =
    let heads : a.head ≡ b.head = (let z = sym a.read ∙ b.read in cc z) in
    let first : made_last (book es).made a.head.origin (pair_at 0 (drop 15 d)) ≡ Some x = found (given_looks a.head.origin (pair_at 0 (drop 15 d))) es fresh x a.given in
    let second : made_last (book es).made b.head.origin (pair_at 0 (drop 15 d)) ≡ Some y = found (given_looks b.head.origin (pair_at 0 (drop 15 d))) es fresh y b.given in
    let same = sym first ∙ (ap (λ (h : DatagramHead). made_last (book es).made h.origin (pair_at 0 (drop 15 d))) heads ∙ second) in
    cc same

-- ---- partners ----
same_made : (x y : Name) (r s : Option (List ℕ)) (e : Event) → Makes x r e → Makes y s e → (x ≡ y) × (r ≡ s)
same_made x y r s e m n = let told = sym m.2.1 ∙ n.2.1 in let id : x.id ≡ y.id = cc told in (names_so x y (sym m.2.0 ∙ n.2.0) id, cc told)

module _ (es : List Event) (fresh : Fresh empty es) (e : Event) where
  one_joined : (x a b : Name) → Joins x a es e → Joins x b es e → a ≡ b
  one_joined x a b (inl p) (inl q) = (same_made a b (Some p.0) (Some q.0) e p.1 q.1).0
  one_joined x a b (inr p) (inr q) =
      let same : p.0 ≡ q.0 = (let z = (same_made x x (Some p.0) (Some q.0) e p.1 q.1).1 in cc z) in
      one_asks es fresh q.0 a b (subst (λ d. Asks es d a) same p.2) q.2
  one_joined x a b (inl p) (inr q) =
      let both = same_made a x (Some p.0) (Some q.0) e p.1 q.1 in
      let same : p.0 ≡ q.0 = (let z = both.1 in cc z) in
      both.0 ∙ one_asks es fresh q.0 x b (subst (λ d. Asks es d x) same p.2) q.2
  one_joined x a b (inr p) (inl q) =
      let both = same_made x b (Some p.0) (Some q.0) e p.1 q.1 in
      let same : p.0 ≡ q.0 = (let z = both.1 in cc z) in
      sym (one_asks es fresh q.0 x a q.2 (subst (λ d. Asks es d a) same p.2)) ∙ both.0

-- an event that makes an end for this request, by the end that asks for it
module _ (es : List Event) (fresh : Fresh empty es) (x : Name) where
  abbrev Joined : Event → Type 0
  Joined e = ((y : Name) × Joins x y es e × (partner_in (with_event (book es) e).made x ≡ Some y)) ⊎ (((y : Name) → Joins x y es e → ⊥) × (partner_in (with_event (book es) e).made x ≡ partner_in (book es).made x))

  abbrev asked_note : ℕ → Callsign → ℕ → Pair → Option Name → MadeNote
  asked_note node own id pair by = record { who = record { node = node; id = id }; own = own; pair = pair; partner = by; told = [] }

  no_partner : (who : Name) (b : Bool) (o : Option Name) → first_name (if b then None else None) o ≡ o
  no_partner who true o = refl
  no_partner who false o = refl

  unasked : (node : ℕ) (own : Callsign) (id : ℕ) (pair : Pair) (at : Callsign) → Joined (record { node = node; own = own; told = Made id pair at None })
  unasked node own id pair at =
      inr (
        (λ y j. elim j [
          | inl p ↦ absurd (cc (p.1.2.1))
          | inr p ↦ absurd (cc (p.1.2.1))
        ]),
        no_partner x (same_name (record { node = node; id = id }) x) (partner_in (book es).made x),
      )

  asked_case : (node : ℕ) (own : Callsign) (id : ℕ) (pair : Pair) (at : Callsign) (d : List ℕ) (w : Name) → Asks es d w → requester (book es) (Some d) ≡ Some w
      → (b c : Bool) → same_name w x ≡ b → same_name (record { node = node; id = id }) x ≡ c → Joined (record { node = node; own = own; told = Made id pair at (Some d) })
  asked_case node own id pair at d w a r true c f g =
      let who : Name = record { node = node; id = id } in
      inl (
        who,
        inl (d, (pair, at, (refl, refl)), subst (λ z. Asks es d z) (same_names w x f) a),
        ap (λ o. partner_in (asked_note node own id pair o ∷ (book es).made) x) r ∙ ap (λ k. if k then Some who else first_name (if same_name who x then Some w else None) (partner_in (book es).made x)) f,
      )
  asked_case node own id pair at d w a r false true f g =
      let who : Name = record { node = node; id = id } in
      let is : who ≡ x = same_names who x g in
      inl (
        w,
        inr (d, (pair, at, (ap (λ (z : Name). z.node) is, ap (λ (z : Name). Made z.id pair at (Some d)) is)), a),
        ap (λ o. partner_in (asked_note node own id pair o ∷ (book es).made) x) r
            ∙ (ap (λ k. if k then Some who else first_name (if same_name who x then Some w else None) (partner_in (book es).made x)) f
            ∙ ap (λ k. first_name (if k then Some w else None) (partner_in (book es).made x)) g),
      )
  asked_case node own id pair at d w a r false false f g =
      let who : Name = record { node = node; id = id } in
      inr (
        (λ y j. elim j [
          | inl p ↦ (let same : d ≡ p.0 = (let z = p.1.2.1 in cc z) in
              let one : w ≡ x = one_asks es fresh p.0 w x (subst (λ k. Asks es k w) same a) p.2 in
              both_ways (same_name w x) f (subst (λ z. same_name w z ≡ true) one (name_itself w)))
          | inr p ↦ (let i : id ≡ x.id = (let z = p.1.2.1 in cc z) in both_ways (same_name who x) g (name_true node id x p.1.2.0 i))
        ]),
        ap (λ o. partner_in (asked_note node own id pair o ∷ (book es).made) x) r
            ∙ (ap (λ k. if k then Some who else first_name (if same_name who x then Some w else None) (partner_in (book es).made x)) f
            ∙ ap (λ k. first_name (if k then Some w else None) (partner_in (book es).made x)) g),
      )

  made_case : (node : ℕ) (own : Callsign) (id : ℕ) (pair : Pair) (at : Callsign) (request : Option (List ℕ)) → HasRequester (book es) request → Joined (record { node = node; own = own; told = Made id pair at request })
  made_case node own id pair at None h = unasked node own id pair at
  made_case node own id pair at (Some d) h =
      asked_case node own id pair at d h.0 (asks es fresh d h.0 (requested es d h.0 h.1)) h.1 (same_name h.0 x) (same_name (record { node = node; id = id }) x) refl refl

  pub joined : (e : Event) → FreshTold (book es) (lost_in [] es) e.node e.told → Joined e
  joined e told = by e.told told
    where
      by : (t : CircuitTold) → FreshTold (book es) (lost_in [] es) e.node t → Joined (record { node = e.node; own = e.own; told = t })
      by (Made id pair at request) f = made_case e.node e.own id pair at request f.0
      by (Sent id number sent) f = inr ((λ y j. elim j [ inl p ↦ absurd (cc (p.1.2.1)) | inr p ↦ absurd (cc (p.1.2.1)) ]), refl)
      by (Heeded id k) f = inr ((λ y j. elim j [ inl p ↦ absurd (cc (p.1.2.1)) | inr p ↦ absurd (cc (p.1.2.1)) ]), refl)
      by (Notice id k) f = inr ((λ y j. elim j [ inl p ↦ absurd (cc (p.1.2.1)) | inr p ↦ absurd (cc (p.1.2.1)) ]), same_partner (named e.node id) x k (book es).made)
      by (Gone id facts) f = inr ((λ y j. elim j [ inl p ↦ absurd (cc (p.1.2.1)) | inr p ↦ absurd (cc (p.1.2.1)) ]), refl)
      by (Restarted q) f = inr ((λ y j. elim j [ inl p ↦ absurd (cc (p.1.2.1)) | inr p ↦ absurd (cc (p.1.2.1)) ]), refl)
      by (Lost id facts) f = inr ((λ y j. elim j [ inl p ↦ absurd (cc (p.1.2.1)) | inr p ↦ absurd (cc (p.1.2.1)) ]), refl)

pub partner_looks : (x : Name) → LooksUp (λ es. partner_in (book es).made x) (Joins x)
partner_looks x = record {
  start = refl;
  step = λ es e fresh. (let less = fresh_less es e fresh in elim (joined es less.0 x e less.1) [
    | inl s ↦ inl (s.0, s.1, ap (λ (b : Book). partner_in b.made x) (book_more es e) ∙ s.2)
    | inr s ↦ inr (s.0, ap (λ (b : Book). partner_in b.made x) (book_more es e) ∙ s.1)
  ]);
  same = λ a b es e fresh p q. one_joined es (fresh_less es e fresh).0 e x a b p q;
}

pub unknown_none : (o : Option Name) → is_unknown o ≡ true → o ≡ None
unknown_none None h = refl
unknown_none (Some x) h = absurd (cc h)

-- an end that has a partner, and one that has none
pub has_none : (es : List Event) → Fresh empty es → (x : Name) → is_unknown (partner_in (book es).made x) ≡ true → HasPartner es x → ⊥
has_none es fresh x free h = none_found (partner_looks x) es fresh (unknown_none (partner_in (book es).made x) free) h

none_case : (es : List Event) → Fresh empty es → (x : Name) → (HasPartner es x → ⊥) → (o : Option Name) → partner_in (book es).made x ≡ o → is_unknown o ≡ true
none_case es fresh x none None e = refl
none_case es fresh x none (Some y) e = let l = finds (partner_looks x) es fresh y e in absurd (none (record { before = l.before; at = l.at; after = l.after; parts = l.parts; is = (y, l.is) }))

pub is_free : (es : List Event) → Fresh empty es → (x : Name) → (HasPartner es x → ⊥) → is_unknown (partner_in (book es).made x) ≡ true
is_free es fresh x none = none_case es fresh x none (partner_in (book es).made x) refl

-- ---- an end that a request has opened ----
module _ (es : List Event) (fresh : Fresh empty es) (x : Name) where
  abbrev Asked : Event → Type 0
  Asked e = (((y : Name) × Opens y x es e) × (was_asked (with_event (book es) e).made x ≡ true)) ⊎ ((((y : Name) × Opens y x es e) → ⊥) × (was_asked (with_event (book es) e).made x ≡ was_asked (book es).made x))

  and_false : (a : Bool) → (a && false) ≡ false
  and_false true = refl
  and_false false = refl

  was_case : (node : ℕ) (own : Callsign) (id : ℕ) (pair : Pair) (at : Callsign) (d : List ℕ) (w : Name) → Asks es d w → requester (book es) (Some d) ≡ Some w
      → (c : Bool) → same_name (record { node = node; id = id }) x ≡ c → Asked (record { node = node; own = own; told = Made id pair at (Some d) })
  was_case node own id pair at d w a r true g =
      let who : Name = record { node = node; id = id } in
      let is : who ≡ x = same_names who x g in
      inl (
        (w, (d, (pair, at, (ap (λ (z : Name). z.node) is, ap (λ (z : Name). Made z.id pair at (Some d)) is)), a)),
        or_left (same_name who x && not (is_unknown (requester (book es) (Some d)))) (was_asked (book es).made x) (and_from (same_name who x) _ g (ap (λ o. not (is_unknown o)) r)),
      )
  was_case node own id pair at d w a r false g =
      let who : Name = record { node = node; id = id } in
      inr (
        (λ p. (let i : id ≡ x.id = (let z = p.1.1.2.1 in cc z) in both_ways (same_name who x) g (name_true node id x p.1.1.2.0 i))),
        ap (λ k. (k && not (is_unknown (requester (book es) (Some d)))) || was_asked (book es).made x) g,
      )

  was_made : (node : ℕ) (own : Callsign) (id : ℕ) (pair : Pair) (at : Callsign) (request : Option (List ℕ)) → HasRequester (book es) request → Asked (record { node = node; own = own; told = Made id pair at request })
  was_made node own id pair at None h =
      inr ((λ p. absurd (cc (p.1.1.2.1))), or_none (same_name (record { node = node; id = id }) x && false) (was_asked (book es).made x) (and_false (same_name (record { node = node; id = id }) x)))
  was_made node own id pair at (Some d) h =
      was_case node own id pair at d h.0 (asks es fresh d h.0 (requested es d h.0 h.1)) h.1 (same_name (record { node = node; id = id }) x) refl

  pub asked : (e : Event) → FreshTold (book es) (lost_in [] es) e.node e.told → Asked e
  asked e told = by e.told told
    where
      by : (t : CircuitTold) → FreshTold (book es) (lost_in [] es) e.node t → Asked (record { node = e.node; own = e.own; told = t })
      by (Made id pair at request) f = was_made e.node e.own id pair at request f.0
      by (Sent id number sent) f = inr ((λ p. absurd (cc (p.1.1.2.1))), refl)
      by (Heeded id k) f = inr ((λ p. absurd (cc (p.1.1.2.1))), refl)
      by (Notice id k) f = inr ((λ p. absurd (cc (p.1.1.2.1))), same_asked (named e.node id) x k (book es).made)
      by (Gone id facts) f = inr ((λ p. absurd (cc (p.1.1.2.1))), refl)
      by (Restarted q) f = inr ((λ p. absurd (cc (p.1.1.2.1))), refl)
      by (Lost id facts) f = inr ((λ p. absurd (cc (p.1.1.2.1))), refl)

pub asked_marks : (x : Name) → Marks (λ es. was_asked (book es).made x) (λ p e. (y : Name) × Opens y x p e)
asked_marks x = record {
  start = refl;
  turn = λ es e fresh. (let less = fresh_less es e fresh in elim (asked es less.0 x e less.1) [
    | inl s ↦ inl (s.0, ap (λ (b : Book). was_asked b.made x) (book_more es e) ∙ s.1)
    | inr s ↦ inr (s.0, ap (λ (b : Book). was_asked b.made x) (book_more es e) ∙ s.1)
  ]);
}
