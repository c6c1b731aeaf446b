-- A new end of a fresh run: its pair is that of no end which its node holds, nor of one that an open end names.
use Rattle.std.specs.Prelude.{◌≡◌, ◌≢◌, ℕ, ◌⊎◌, Bool, true, false, ◌&&◌, ◌||◌, nat_eq, if◌then◌else◌, List, [], ◌∷◌, ◌++◌, drop, slice_get, slice_set, Option, Some, None, Result, Ok, Err, refl}
use Rattle.std.proofs.Common.{sym, ◌∙◌, ap, subst, inl, inr, arith}
use Rattle.std.proofs.lemmas.Bool.Decides.{nat_tests}
use Rattle.std.proofs.lemmas.Bool.{and_parts}
use Rattle.std.proofs.Math.Bool.{or-true}
use Rattle.ax_address.specs.Callsign.{Callsign, same_call}
use Rattle.ax_address.proofs.SameCalls.{same_call-true, call_refl}
use Rattle.l3_datagram.specs.declared.datagram.DatagramHead.{DatagramHead}
use Rattle.l3_datagram.specs.declared.datagram.DatagramRefusal.{DatagramRefusal}
use Rattle.l3_datagram.specs.Datagrams.{head_at}
use Rattle.circuit_l4.specs.declared.pair.Pair.{Pair}
use Rattle.circuit_l4.specs.Transports.{pair_at}
use Rattle.circuit_table.specs.Pairs.{IsPair, is_used}
use Rattle.circuit_table.specs.Sets.{Holder, SetState, end_of, has_ended, held_pairs, is_open, same_pair}
use Rattle.circuit_set.specs.Books.{Book, MadeNote, NoOther, any_ends, asked_by, first_name, has_sent, if_asked, is_lost, is_some_name, is_unknown, made_last, partner, partner_in, requester}
use Rattle.circuit_table.specs.Events.{Name, same_name}
use Rattle.circuit_set.specs.NotedRuns.{Net, end_at, told_to}
use Rattle.circuit_table.specs.Runs.{end_in}
use Rattle.circuit_set.proofs.Bridge.{name_itself, same_names}
use Rattle.circuit_set.proofs.Cases.{IsForeign}
use Rattle.circuit_set.proofs.Fair.{Fair, InMade, IsPassed, LostOk, NoteOf, NoteOk, Partners, Passed, back_false, in_contains, note_of_name, open_parts}
use Rattle.circuit_set.proofs.Given.{Numbers, none_of}
use Rattle.circuit_set.proofs.Lookups.{has_note, set_same}
use Rattle.circuit_set.proofs.Moved.{same_or}
use Rattle.circuit_set.proofs.Stepped as stepped
use Rattle.circuit_set.proofs.Stepped.{same_holder}

-- ---- who has asked ----
-- the note of the end that a call gave a pair last; a later one with the same call and pair is of an end that was no longer held then
pub record Last (net : Net) (ms : List MadeNote) (own : Callsign) (pair : Pair) (a : Name) : Type 0 where
  pub note : MadeNote
  pub inside : InMade note ms
  pub who : note.who ≡ a
  pub call : same_call note.own own ≡ true
  pub with_pair : same_pair note.pair pair ≡ true
  pub others : (q : MadeNote) → InMade q ms → q.own ≡ note.own → q.pair ≡ note.pair → (q.who ≡ a) ⊎ IsPassed net q note

last_case : (net : Net) (m : MadeNote) (ms : List MadeNote) (own : Callsign) (pair : Pair) (a : Name) (b : Bool) → (same_call m.own own && same_pair m.pair pair) ≡ b
    → ((q : MadeNote) → InMade q ms → IsPassed net q m) → (if b then Some m.who else made_last ms own pair) ≡ Some a → (made_last ms own pair ≡ Some a → Last net ms own pair a)
    → Last net (m ∷ ms) own pair a
last_case net m ms own pair a true t passed e later =
    let same : m.who ≡ a = cc in
    let two = and_parts (same_call m.own own) (same_pair m.pair pair) t in
    record {
      note = m;
      inside = inl refl;
      who = same;
      call = two.0;
      with_pair = two.1;
      others = λ q i c p. elim i [ inl r ↦ inl (ap (λ (n : MadeNote). n.who) r ∙ same) | inr r ↦ inr (passed q r) ];
    }
last_case net m ms own pair a false t passed e later =
    let l : Last net ms own pair a = later e in
    record {
      note = l.note;
      inside = inr l.inside;
      who = l.who;
      call = l.call;
      with_pair = l.with_pair;
      others = λ q i c p. elim i [
        | inl r ↦ (let at : (same_call q.own own && same_pair q.pair pair) ≡ true
            = ap (λ k. same_call k own && same_pair q.pair pair) c ∙ ap (λ k. same_call l.note.own own && same_pair k pair) p ∙ ap (λ b. b && same_pair l.note.pair pair) l.call ∙ l.with_pair in
            let bad : true ≡ false = sym at ∙ ap (λ (n : MadeNote). same_call n.own own && same_pair n.pair pair) r ∙ t in
            cc)
        | inr r ↦ l.others q r c p
      ];
    }

last_is : (net : Net) (ms : List MadeNote) (own : Callsign) (pair : Pair) (a : Name) → Passed net ms → made_last ms own pair ≡ Some a → Last net ms own pair a
last_is net [] own pair a p e = cc
last_is net (m ∷ ms) own pair a p e = last_case net m ms own pair a (same_call m.own own && same_pair m.pair pair) refl p.0 e (last_is net ms own pair a p.1)

asker_case : (b : Book) (d : List ℕ) (a z : Name) (t : Bool) → (if t then Some z else None) ≡ Some a → z ≡ a
asker_case b d a z true e = cc
asker_case b d a z false e = cc

asker_of : (b : Book) (d : List ℕ) (a : Name) (o : Option Name) → if_asked b d o ≡ Some a → o ≡ Some a
asker_of b d a None e = cc
asker_of b d a (Some z) e = ap (λ w. Some w) (asker_case b d a z (has_sent b.sent z d && is_unknown (partner b z)) e)

-- of a request that has come from another node
pub record AskedBy (net : Net) (s : SetState) (a : Name) : Type 0 where
  pub origin : Callsign
  pub pair : Pair
  pub last : Last net net.book.made origin pair a
  pub other : same_call origin s.own ≡ false

asked_case : (net : Net) (s : SetState) (d : List ℕ) (head : DatagramHead) (a : Name) (r : Result DatagramHead DatagramRefusal) → Passed net net.book.made → same_call head.origin s.own ≡ false → r ≡ Ok head
    → asked_by net.book d r ≡ Some a → AskedBy net s a
asked_case net s d head a (Err e) p other h q = cc
asked_case net s d head a (Ok head2) p other h q =
    let same : head2 ≡ head = cc in
    let pair : Pair = pair_at 0 (drop 15 d) in
    record {
      origin = head2.origin;
      pair = pair;
      last = last_is net net.book.made head2.origin pair a p (asker_of net.book d a (made_last net.book.made head2.origin pair) q);
      other = ap (λ (k : DatagramHead). same_call k.origin s.own) same ∙ other;
    }

pub asked_for : (net : Net) (s : SetState) (request : Option (List ℕ)) (a : Name) → Passed net net.book.made → IsForeign s request → requester net.book request ≡ Some a → AskedBy net s a
asked_for net s None a p f q = cc
asked_for net s (Some d) a p f q = asked_case net s d f.0 a (head_at d) p f.2 f.1 q

-- ---- the pairs of the ends that are held ----
or_first : (a b : Bool) → (a || b) ≡ false → a ≡ false
or_first true b e = cc
or_first false b e = refl

or_second : (a b : Bool) → (a || b) ≡ false → b ≡ false
or_second true b e = cc
or_second false b e = e

held_case : (id : ℕ) (p : Pair) (x k : Holder) (hs : List Holder) (b g : Bool) → (if b then Some x else end_of id hs) ≡ Some k → k.gone ≡ false → x.gone ≡ g
    → is_used p (if g then held_pairs hs else x.end.pair ∷ held_pairs hs) ≡ false
    → (end_of id hs ≡ Some k → is_used p (held_pairs hs) ≡ false → k.end.pair.index ≢ p.index) → k.end.pair.index ≢ p.index
held_case id p x k hs true true e held g u later = let same : x ≡ k = cc in let bad : true ≡ false = sym g ∙ ap (λ (h : Holder). h.gone) same ∙ held in cc
held_case id p x k hs true false e held g u later =
    let same : x ≡ k = cc in
    let first : nat_eq x.end.pair.index p.index ≡ false = or_first (nat_eq x.end.pair.index p.index) (is_used p (held_pairs hs)) u in
    λ q.
    let at : x.end.pair.index ≡ p.index = ap (λ (h : Holder). h.end.pair.index) same ∙ q in
    let yes : nat_eq x.end.pair.index p.index ≡ true = grind (arith, nat_tests) in
    let bad : true ≡ false = sym yes ∙ first in
    cc
held_case id p x k hs false true e held g u later = later e u
held_case id p x k hs false false e held g u later = later e (or_second (nat_eq x.end.pair.index p.index) (is_used p (held_pairs hs)) u)

unused_by : (id : ℕ) (p : Pair) (k : Holder) (hs : List Holder) → end_of id hs ≡ Some k → k.gone ≡ false → is_used p (held_pairs hs) ≡ false → k.end.pair.index ≢ p.index
unused_by id p k [] e held u = cc
unused_by id p k (x ∷ hs) e held u = held_case id p x k hs (nat_eq x.id id) x.gone e held refl u (λ q v. unused_by id p k hs q held v)

in_noted : (m : MadeNote) (ms : List MadeNote) → InMade m ms → has_note ms m.who ≡ true
in_noted m [] i = absurd i
in_noted m (x ∷ xs) (inl e) = ap (λ (k : MadeNote). same_name k.who m.who || has_note xs m.who) (sym e) ∙ ap (λ b. b || has_note xs m.who) (name_itself m.who)
in_noted m (x ∷ xs) (inr i) = ap (λ b. same_name x.who m.who || b) (in_noted m xs i) ∙ or-true (same_name x.who m.who)

same_set : (i j : SetState) (o : Option SetState) → o ≡ Some i → o ≡ Some j → i ≡ j
same_set i j o e q = let two : Some i ≡ Some j = sym e ∙ q in cc

pub some_is : (o : Option Name) (x : Name) → is_some_name o x ≡ true → o ≡ Some x
some_is None x e = cc
some_is (Some w) x e = ap (λ v. Some v) (same_names w x e)

first_is : (o : Option Name) (v : Name) → first_name o None ≡ Some v → o ≡ Some v
first_is None v e = cc
first_is (Some w) v e = e

-- ---- a new end ----
module _ (net : Net) (lost : List Name) (f : Fair net lost) (n : ℕ) (s t : SetState) (h : Holder) (p : Pair) (from : Option Name) (c : Book) (here : slice_get net.sets n ≡ Some s)
    (number : h.id ≡ s.number) (named : h.end.pair ≡ p) (ends_are : t.ends ≡ s.ends ++ h ∷ []) (own_is : t.own ≡ s.own) (numbers : Numbers t) (next : IsPair t.next)
    (unused : is_used p (held_pairs s.ends) ≡ false) (asked : (a : Name) → from ≡ Some a → AskedBy net s a)
    (made : c.made ≡ (let m : MadeNote = record { who = record { node = n; id = s.number }; own = s.own; pair = p; partner = from; told = [] } in m) ∷ net.book.made)
    (other : NoOther net.book lost n p) where
  abbrev y : Name
  y = record { node = n; id = s.number }

  abbrev note : MadeNote
  note = record { who = y; own = s.own; pair = p; partner = from; told = [] }

  abbrev after : Net
  after = record { sets = slice_set net.sets n t; book = c }

  -- ---- ends by name ----
  none_yet : end_of s.number s.ends ≡ None
  none_yet = none_of s.number s.ends (f.sets n s here).0.below

  pub end_here : end_at after y ≡ Some h
  end_here = stepped.end_here net n s here t h c number ends_are none_yet

  end_other : (z : Name) → (y ≡ z → ⊥) → end_at after z ≡ end_at net z
  end_other = stepped.end_other net n s here t h c number ends_are none_yet

  is_old : (z : Name) (k : Holder) → end_at net z ≡ Some k → y ≡ z → ⊥
  is_old = stepped.is_old net n s here t h c number ends_are none_yet

  old_end : (z : Name) (k : Holder) → end_at net z ≡ Some k → end_at after z ≡ Some k
  old_end = stepped.old_end net n s here t h c number ends_are none_yet

  -- ---- notes ----
  old_note : (m : MadeNote) → InMade m net.book.made → NoteOk after m
  old_note m i =
      let o : NoteOk net m = f.notes m i in
      let v = stepped.own_stays net n s here t own_is m.who.node o.set (nat_eq m.who.node n) refl o.here in
      record { end = o.end; there = old_end m.who o.end o.there; pair = o.pair; set = v.0; here = v.1; own = v.2 ∙ o.own }

  new_note : NoteOk after note
  new_note = record { end = h; there = end_here; pair = named; set = t; here = set_same net.sets n s t here; own = own_is }

  note_case : (m : MadeNote) → InMade m (note ∷ net.book.made) → NoteOk after m
  note_case m (inl e) = subst (λ k. NoteOk after k) (sym e) new_note
  note_case m (inr i) = old_note m i

  noted : (z : Name) → has_note net.book.made z ≡ true → has_note c.made z ≡ true
  noted z e = ap (λ ms. has_note ms z) made ∙ ap (λ b. same_name y z || b) e ∙ or-true (same_name y z)

  noted_new : has_note c.made y ≡ true
  noted_new = ap (λ ms. has_note ms y) made ∙ ap (λ b. b || has_note net.book.made y) (name_itself y)

  -- ---- what holds of each end ----
  at_node : (z : Name) (k : Holder) → end_at net z ≡ Some k → z.node ≡ n → end_of z.id s.ends ≡ Some k
  at_node z k e node = sym (ap (λ o. end_in o z.id) (ap (λ i. slice_get net.sets i) node ∙ here)) ∙ e

  passed_old : (ms : List MadeNote) → ((m : MadeNote) → InMade m ms → InMade m net.book.made) → Passed net ms → Passed after ms
  passed_old [] sub p = tt
  passed_old (m ∷ ms) sub p = (
    λ q i node k e held. let o : NoteOk net q = f.notes q (sub q (inr i)) in p.0 q i node k (sym (end_other q.who (is_old q.who o.end o.there)) ∙ e) held,
    passed_old ms (λ r i. sub r (inr i)) p.1,
  )

  passed_new : (q : MadeNote) → InMade q net.book.made → IsPassed after q note
  passed_new q i node k e held same =
      let o : NoteOk net q = f.notes q i in
      let old : end_at net q.who ≡ Some k = sym (end_other q.who (is_old q.who o.end o.there)) ∙ e in
      let is : o.end ≡ k = same_holder o.end k (end_at net q.who) o.there old in
      let far : k.end.pair.index ≢ p.index = unused_by q.who.id p k s.ends (at_node q.who k old node) held unused in
      far (ap (λ (j : Holder). j.end.pair.index) (sym is) ∙ ap (λ (r : Pair). r.index) o.pair ∙ same)

  passed_now : Passed after c.made
  passed_now = subst (λ ms. Passed after ms) (sym made) (passed_new, passed_old net.book.made (λ m i. i) f.passed)

  told_is : (z : Name) → told_to c.made z ≡ (if same_name y z then [] else told_to net.book.made z)
  told_is z = ap (λ ms. told_to ms z) made

  over_case : (z : Name) (k : Holder) → end_at after z ≡ Some k → any_ends (told_to c.made z) ≡ true → (b : Bool) → same_name y z ≡ b → has_ended k.end.phase ≡ true
  over_case z k e q true r = let none : told_to c.made z ≡ [] = told_is z ∙ ap (λ b. if b then [] else told_to net.book.made z) r in let bad : any_ends [] ≡ true = sym (ap any_ends none) ∙ q in cc
  over_case z k e q false r =
      let told : told_to c.made z ≡ told_to net.book.made z = told_is z ∙ ap (λ b. if b then [] else told_to net.book.made z) r in
      let apart : y ≡ z → ⊥ = λ same. let yes : same_name y z ≡ true = ap (λ w. same_name y w) (sym same) ∙ name_itself y in let bad : true ≡ false = sym yes ∙ r in cc in
      f.overs z k (sym (end_other z apart) ∙ e) (sym (ap any_ends told) ∙ q)

  losts_now : LostOk after lost
  losts_now z e = let r = f.losts z e in (r.0, old_end z r.0 r.1, r.2)

  -- ---- partners ----
  not_noted : has_note net.book.made y ≡ true → ⊥
  not_noted e =
      let m : NoteOf net.book.made y = note_of_name net.book.made y e in
      let o : NoteOk net m.note = f.notes m.note m.inside in
      is_old y o.end (subst (λ w. end_at net w ≡ Some o.end) m.who o.there) refl

  none_case : (o : Option Name) → partner_in net.book.made y ≡ o → o ≡ None
  none_case None e = refl
  none_case (Some w) e = absurd (not_noted (f.partners y w e).mine)

  no_partner : partner_in net.book.made y ≡ None
  no_partner = none_case (partner_in net.book.made y) refl

  abbrev Which : Name → Name → Type 0
  Which x v = ((x ≡ y) × (from ≡ Some v)) ⊎ (((from ≡ Some x) × (v ≡ y)) ⊎ (partner_in net.book.made x ≡ Some v))

  which_case : (x v : Name) (b d : Bool) → is_some_name from x ≡ b → same_name y x ≡ d → (if b then Some y else first_name (if d then from else None) (partner_in net.book.made x)) ≡ Some v → Which x v
  which_case x v true d e q r = let same : y ≡ v = cc in inr (inl (some_is from x e, sym same))
  which_case x v false true e q r =
      let same : y ≡ x = same_names y x q in
      let none : partner_in net.book.made x ≡ None = ap (λ w. partner_in net.book.made w) (sym same) ∙ no_partner in
      inl (sym same, first_is from v (sym (ap (λ o. first_name from o) none) ∙ r))
  which_case x v false false e q r = inr (inr r)

  which : (x v : Name) → partner_in c.made x ≡ Some v → Which x v
  which x v e = which_case x v (is_some_name from x) (same_name y x) refl refl (sym (ap (λ ms. partner_in ms x) made) ∙ e)

  asker_noted : (a : Name) → from ≡ Some a → has_note net.book.made a ≡ true
  asker_noted a e = let l : Last net net.book.made (asked a e).origin (asked a e).pair a = (asked a e).last in subst (λ w. has_note net.book.made w ≡ true) l.who (in_noted l.note net.book.made l.inside)

  asker_apart : (a : Name) → from ≡ Some a → a.node ≢ n
  asker_apart a e node =
      let q : AskedBy net s a = asked a e in
      let l : Last net net.book.made q.origin q.pair a = q.last in
      let o : NoteOk net l.note = f.notes l.note l.inside in
      let at : l.note.who.node ≡ n = ap (λ (w : Name). w.node) l.who ∙ node in
      let is : o.set ≡ s = same_set o.set s (slice_get net.sets l.note.who.node) o.here (ap (λ i. slice_get net.sets i) at ∙ here) in
      let own : s.own ≡ q.origin = ap (λ (u : SetState). u.own) (sym is) ∙ o.own ∙ same_call-true l.note.own q.origin l.call in
      let yes : same_call q.origin s.own ≡ true = ap (λ k. same_call q.origin k) own ∙ call_refl q.origin in
      let bad : true ≡ false = sym yes ∙ q.other in
      cc

  partners_of : (x v : Name) → Which x v → Partners after x v
  partners_of x v (inl w) = record {
    mine = subst (λ u. has_note c.made u ≡ true) (sym w.0) noted_new;
    theirs = noted v (asker_noted v w.1);
    apart = λ same. asker_apart v w.1 (sym same ∙ ap (λ (u : Name). u.node) w.0);
  }
  partners_of x v (inr (inl w)) = record {
    mine = noted x (asker_noted x w.0);
    theirs = subst (λ u. has_note c.made u ≡ true) (sym w.1) noted_new;
    apart = λ same. asker_apart x w.0 (same ∙ ap (λ (u : Name). u.node) w.1);
  }
  partners_of x v (inr (inr w)) = let o : Partners net x v = f.partners x v w in record { mine = noted x o.mine; theirs = noted v o.theirs; apart = o.apart }

  -- ---- a pair names one end ----
  -- the new end's partner
  of_new : (v z : Name) (j k : Holder) → from ≡ Some v → end_at net v ≡ Some j → end_at net z ≡ Some k → k.gone ≡ false → z.node ≡ v.node → k.end.pair ≡ j.end.pair → z ≡ v
  of_new v z j k e ev ez held node same =
      let q : AskedBy net s v = asked v e in
      let l : Last net net.book.made q.origin q.pair v = q.last in
      let om : NoteOk net l.note = f.notes l.note l.inside in
      let m : NoteOf net.book.made z = note_of_name net.book.made z (f.ends z k ez) in
      let oz : NoteOk net m.note = f.notes m.note m.inside in
      let is_j : om.end ≡ j = same_holder om.end j (end_at net v) (subst (λ w. end_at net w ≡ Some om.end) l.who om.there) ev in
      let is_k : oz.end ≡ k = same_holder oz.end k (end_at net z) (subst (λ w. end_at net w ≡ Some oz.end) m.who oz.there) ez in
      let nodes : m.note.who.node ≡ l.note.who.node = ap (λ (w : Name). w.node) m.who ∙ node ∙ sym (ap (λ (w : Name). w.node) l.who) in
      let sets : oz.set ≡ om.set = same_set oz.set om.set (slice_get net.sets l.note.who.node) (sym (ap (λ i. slice_get net.sets i) nodes) ∙ oz.here) om.here in
      let own : m.note.own ≡ l.note.own = sym oz.own ∙ ap (λ (u : SetState). u.own) sets ∙ om.own in
      let pair : m.note.pair ≡ l.note.pair = sym oz.pair ∙ ap (λ (i : Holder). i.end.pair) is_k ∙ same ∙ sym (ap (λ (i : Holder). i.end.pair) is_j) ∙ om.pair in
      elim (l.others m.note m.inside own pair) [
        | inl r ↦ sym m.who ∙ r
        | inr r ↦ absurd (r nodes k (subst (λ w. end_at net w ≡ Some k) (sym m.who) ez) held (ap (λ (i : Pair). i.index) pair))
      ]

  -- the partner of the end that has asked
  of_asker : (z : Name) (k : Holder) → end_at net z ≡ Some k → k.gone ≡ false → z.node ≡ n → k.end.pair ≡ h.end.pair → ⊥
  of_asker z k e held node same = unused_by z.id p k s.ends (at_node z k e node) held unused (ap (λ (i : Pair). i.index) (same ∙ named))

  -- the partner of another end
  of_other : (x v : Name) (i j : Holder) → end_at net x ≡ Some i → is_open i ≡ true → partner_in net.book.made x ≡ Some v → end_at net v ≡ Some j → v.node ≡ n → h.end.pair ≡ j.end.pair → ⊥
  of_other x v i j ex lasts part ev node same =
      let o : Partners net x v = f.partners x v part in
      let m : NoteOf net.book.made x = note_of_name net.book.made x o.mine in
      let q : NoteOf net.book.made v = note_of_name net.book.made v o.theirs in
      let oq : NoteOk net q.note = f.notes q.note q.inside in
      let is_j : oq.end ≡ j = same_holder oq.end j (end_at net v) (subst (λ w. end_at net w ≡ Some oq.end) q.who oq.there) ev in
      let r = open_parts i lasts in
      let told : any_ends m.note.told ≡ false = ap any_ends m.told ∙ back_false (any_ends (told_to net.book.made x)) (has_ended i.end.phase) (f.overs x i ex) r.1 in
      let kept : is_lost lost x ≡ false = back_false (is_lost lost x) i.gone (λ g. let w = f.losts x g in ap (λ (u : Holder). u.gone) (same_holder i w.0 (end_at net x) ex w.1) ∙ w.2) r.0 in
      other m.note q.note (in_contains m.note net.book.made m.inside) (in_contains q.note net.book.made q.inside) told (ap (λ w. is_lost lost w) m.who ∙ kept)
      (λ e. o.apart (sym (ap (λ (w : Name). w.node) m.who) ∙ e ∙ sym node)) (ap (λ w. partner_in net.book.made w) m.who ∙ part ∙ ap (λ w. Some w) (sym q.who))
      (ap (λ (w : Name). w.node) q.who ∙ node) (sym oq.pair ∙ ap (λ (u : Holder). u.end.pair) is_j ∙ sym same ∙ named)

  one_case : (x v z : Name) (i j k : Holder) → end_at after x ≡ Some i → is_open i ≡ true → end_at after v ≡ Some j → end_at after z ≡ Some k → k.gone ≡ false → z.node ≡ v.node
      → k.end.pair ≡ j.end.pair → Which x v → (y ≡ z) ⊎ (y ≡ z → ⊥) → z ≡ v
  one_case x v z i j k ex lasts ev ez held node same (inl w) (inl at) = absurd (asker_apart v w.1 (sym node ∙ sym (ap (λ (u : Name). u.node) at)))
  one_case x v z i j k ex lasts ev ez held node same (inl w) (inr far) =
      let apart : y ≡ v → ⊥ = λ e. asker_apart v w.1 (sym (ap (λ (u : Name). u.node) e)) in
      of_new v z j k w.1 (sym (end_other v apart) ∙ ev) (sym (end_other z far) ∙ ez) held node same
  one_case x v z i j k ex lasts ev ez held node same (inr (inl w)) (inl at) = sym at ∙ sym w.1
  one_case x v z i j k ex lasts ev ez held node same (inr (inl w)) (inr far) =
      let is_j : h ≡ j = same_holder h j (end_at after v) (subst (λ u. end_at after u ≡ Some h) (sym w.1) end_here) ev in
      absurd (of_asker z k (sym (end_other z far) ∙ ez) held (node ∙ ap (λ (u : Name). u.node) w.1) (same ∙ ap (λ (u : Holder). u.end.pair) (sym is_j)))
  one_case x v z i j k ex lasts ev ez held node same (inr (inr w)) q =
      let o : Partners net x v = f.partners x v w in
      let x_old : y ≡ x → ⊥ = λ e. not_noted (subst (λ u. has_note net.book.made u ≡ true) (sym e) o.mine) in
      let v_old : y ≡ v → ⊥ = λ e. not_noted (subst (λ u. has_note net.book.made u ≡ true) (sym e) o.theirs) in
      let ex0 : end_at net x ≡ Some i = sym (end_other x x_old) ∙ ex in
      let ev0 : end_at net v ≡ Some j = sym (end_other v v_old) ∙ ev in
      elim q [
        | inl at ↦ (let is_k : h ≡ k = same_holder h k (end_at after z) (subst (λ u. end_at after u ≡ Some h) at end_here) ez in
            absurd (of_other x v i j ex0 lasts w ev0 (sym node ∙ sym (ap (λ (u : Name). u.node) at)) (ap (λ (u : Holder). u.end.pair) is_k ∙ same)))
        | inr far ↦ f.one x v z i j k ex0 lasts w ev0 (sym (end_other z far) ∙ ez) held node same
      ]

  pub new_fair : Fair after lost
  new_fair = record {
    sets = λ i u e. stepped.each_set net n s here (λ (w : SetState). Numbers w × IsPair w.next) t (numbers, next) f.sets i u (nat_eq i n) refl e;
    notes = λ m i. note_case m (subst (λ ms. InMade m ms) made i);
    ends = λ z k e. elim (same_or y z) [ inl same ↦ subst (λ w. has_note c.made w ≡ true) same noted_new | inr far ↦ noted z (f.ends z k (sym (end_other z far) ∙ e)) ];
    passed = passed_now;
    overs = λ z k e q. over_case z k e q (same_name y z) refl;
    losts = losts_now;
    partners = λ x v e. partners_of x v (which x v e);
    one = λ x v z i j k ex lasts part ev ez held node same. one_case x v z i j k ex lasts ev ez held node same (which x v part) (same_or y z);
  }
