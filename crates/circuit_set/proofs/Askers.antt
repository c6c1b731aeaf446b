-- A connect request opens an end: who has asked is known, or the request is a copy that returns.
use Rattle.std.specs.Prelude.{◌≡◌, ◌≢◌, ℕ, zero, suc, ◌⊎◌, Bool, true, false, not, ◌&&◌, nat_eq, ◌<◌, get_or, length, if◌then◌else◌, List, [], ◌∷◌, slice_get, Option, Some, None, refl}
use Rattle.std.specs.List.{AllByRecursion}
use Rattle.std.proofs.Common.{sym, ◌∙◌, ap, subst, inl, inr, arith}
use Rattle.std.proofs.lemmas.Bool.Decides.{nat_tests}
use Rattle.std.proofs.lemmas.Bool.{and_parts}
use Rattle.radio_base.proofs.Each.{each_map}
use Rattle.ax_address.specs.Callsign.{Callsign, same_call}
use Rattle.ax_address.proofs.SameCalls.{same_call-true, call_refl}
use Rattle.l3_datagram.specs.declared.datagram.DatagramHead.{DatagramHead}
use Rattle.circuit_l4.specs.declared.pair.Pair.{Pair}
use Rattle.circuit_l4.specs.declared.notice.EndNotice.{EndNotice}
use Rattle.circuit_l4.specs.State.{State}
use Rattle.circuit_set.specs.Books.{HasRequester, MadeNote, NoOther, any_ends, asked_by, has_sent, if_asked, is_unknown, made_last, partner, requester}
use Rattle.circuit_table.specs.Events.{Name, same_name}
use Rattle.circuit_set.specs.NotedRuns.{Net, end_at, told_to}
use Rattle.circuit_set.specs.Returning.{IsReturn}
use Rattle.circuit_table.specs.Runs.{end_in}
use Rattle.circuit_table.specs.Sets.{Act, Holder, SetState, asked_with, end_of, first_open, has_ended, is_open, opened_by, same_pair}
use Rattle.circuit_set.proofs.Bridge.{name_itself, same_names}
use Rattle.circuit_set.proofs.Cases.{Opener}
use Rattle.circuit_set.proofs.Ended.{lived_says}
use Rattle.circuit_set.proofs.Fair.{InMade, NoteOf, in_contains, note_of_name}
use Rattle.circuit_set.proofs.Invariant.{Lived}
use Rattle.circuit_set.proofs.Knowing.{Asker, Known, MadeOk, Opened, asker_of, sender_of}
use Rattle.circuit_set.proofs.Lookups.{InEnds}
use Rattle.circuit_set.proofs.Leaving.{GoneEnded}
use Rattle.circuit_table.proofs.Making.{same_pairs}
use Rattle.circuit_set.proofs.Partners.{Partner, of_made, partner_of}
use Rattle.circuit_set.proofs.Retries.{AllLive}
use Rattle.circuit_set.proofs.Stepped.{same_holder}
use Rattle.circuit_set.proofs.Unrepeated.{FarFrom, Unrepeated}

-- ---- lookups ----
is_case : (id : ℕ) (h x : Holder) (hs : List Holder) (b : Bool) → (if b then Some x else end_of id hs) ≡ Some h → (end_of id hs ≡ Some h → InEnds h hs) → InEnds h (x ∷ hs)
is_case id h x hs true e later = let same : x ≡ h = cc in inl (sym same)
is_case id h x hs false e later = inr (later e)

is_in : (id : ℕ) (h : Holder) (hs : List Holder) → end_of id hs ≡ Some h → InEnds h hs
is_in id h [] e = cc
is_in id h (x ∷ hs) e = is_case id h x hs (nat_eq x.id id) e (is_in id h hs)

shut_case : (test : Holder → Bool) (h x : Holder) (hs : List Holder) (b : Bool) → (is_open x && test x) ≡ b → (if b then Some x else first_open test hs) ≡ None → InEnds h (x ∷ hs)
    → (first_open test hs ≡ None → InEnds h hs → (is_open h && test h) ≡ false) → (is_open h && test h) ≡ false
shut_case test h x hs true t e i later = cc
shut_case test h x hs false t e (inl same) later = ap (λ (k : Holder). is_open k && test k) same ∙ t
shut_case test h x hs false t e (inr i) later = later e i

-- where no open one is found none is
none_open : (test : Holder → Bool) (h : Holder) (hs : List Holder) → first_open test hs ≡ None → InEnds h hs → (is_open h && test h) ≡ false
none_open test h [] e i = absurd i
none_open test h (x ∷ hs) e i = shut_case test h x hs (is_open x && test x) refl e i (none_open test h hs)

get_in : (ms : List MadeNote) (i : ℕ) (m : MadeNote) → i < length ms → get_or ms i m ≡ m → InMade m ms
get_in [] i m l e = absurd (omega arith)
get_in (x ∷ ms) zero m l e = inl (sym e)
get_in (x ∷ ms) (suc i) m l e = inr (get_in ms i m (omega arith) e)

told_case : (q m : MadeNote) (ms : List MadeNote) (b : Bool) → same_name q.who m.who ≡ b → InMade m (q ∷ ms) → Unrepeated (q ∷ ms) → (q.who ≡ m.who → q.pair ≡ m.pair) → (InMade m ms → told_to ms m.who ≡ m.told)
    → (if b then q.told else told_to ms m.who) ≡ m.told
told_case q m ms true t (inl e) u same later = ap (λ (k : MadeNote). k.told) (sym e)
told_case q m ms true t (inr i) u same later =
    let who : q.who ≡ m.who = same_names q.who m.who t in
    absurd (of_made (λ (k : MadeNote). k.who.node ≡ q.who.node → k.pair ≢ q.pair) ms m u.0 i (ap (λ (k : Name). k.node) (sym who)) (sym (same who)))
told_case q m ms false t (inl e) u same later =
    let yes : same_name q.who m.who ≡ true = ap (λ (k : MadeNote). same_name q.who k.who) e ∙ name_itself q.who in
    let bad : true ≡ false = sym yes ∙ t in
    cc
told_case q m ms false t (inr i) u same later = later i

-- what is told to an end stands in its note
told_is : (ms : List MadeNote) (m : MadeNote) → InMade m ms → Unrepeated ms → AllByRecursion (λ (q : MadeNote). q.who ≡ m.who → q.pair ≡ m.pair) ms → told_to ms m.who ≡ m.told
told_is [] m i u a = absurd i
told_is (q ∷ ms) m i u a = told_case q m ms (same_name q.who m.who) refl i u a.0 (λ j. told_is ms m j u.1 a.1)

pub pair_itself : (p : Pair) → same_pair p p ≡ true
pair_itself p = let a : nat_eq p.index p.index ≡ true = grind (arith, nat_tests) in let b : nat_eq p.ident p.ident ≡ true = grind (arith, nat_tests) in rw (a, b) refl

matches_itself : (c d : Callsign) (p q : Pair) → c ≡ d → p ≡ q → (same_call c d && same_pair p q) ≡ true
matches_itself c d p q e f = ap (λ k. same_call c k && same_pair p q) (sym e) ∙ ap (λ k. same_call c c && same_pair p k) (sym f) ∙ ap (λ b. b && same_pair p p) (call_refl c) ∙ pair_itself p

-- all notes of this call are of one node
abbrev Near : Callsign → ℕ → List MadeNote → Type 0
Near own node ms = AllByRecursion (λ (q : MadeNote). q.own ≡ own → q.who.node ≡ node) ms

last_case : (own : Callsign) (pair : Pair) (m q : MadeNote) (ms : List MadeNote) (b : Bool) → (same_call q.own own && same_pair q.pair pair) ≡ b → InMade m (q ∷ ms) → m.own ≡ own → m.pair ≡ pair
    → (q.own ≡ own → q.who.node ≡ m.who.node) → Unrepeated (q ∷ ms) → (InMade m ms → made_last ms own pair ≡ Some m.who) → (if b then Some q.who else made_last ms own pair) ≡ Some m.who
last_case own pair m q ms true t (inl e) c p near u later = ap (λ (k : MadeNote). Some k.who) (sym e)
last_case own pair m q ms true t (inr i) c p near u later =
    let two = and_parts (same_call q.own own) (same_pair q.pair pair) t in
    let node : q.who.node ≡ m.who.node = near (same_call-true q.own own two.0) in
    absurd (of_made (λ (k : MadeNote). k.who.node ≡ q.who.node → k.pair ≢ q.pair) ms m u.0 i (sym node) (p ∙ sym (same_pairs q.pair pair two.1)))
last_case own pair m q ms false t (inl e) c p near u later =
    let yes : (same_call m.own own && same_pair m.pair pair) ≡ true = matches_itself m.own own m.pair pair c p in
    let bad : true ≡ false = sym yes ∙ ap (λ (k : MadeNote). same_call k.own own && same_pair k.pair pair) e ∙ t in
    cc
last_case own pair m q ms false t (inr i) c p near u later = later i

-- the end that its node has made with this pair is the last one
last_is : (own : Callsign) (pair : Pair) (m : MadeNote) (ms : List MadeNote) → InMade m ms → m.own ≡ own → m.pair ≡ pair → Near own m.who.node ms → Unrepeated ms → made_last ms own pair ≡ Some m.who
last_is own pair m [] i c p near u = absurd i
last_is own pair m (q ∷ ms) i c p near u = last_case own pair m q ms (same_call q.own own && same_pair q.pair pair) refl i c p near.0 u (λ j. last_is own pair m ms j c p near.1 u.1)

-- ---- an end that isn't open ----
says_ended : (e : State) (ns : List EndNotice) → Lived e ns → has_ended e.phase ≡ true → any_ends ns ≡ true
says_ended e ns l ended = sym (ap any_ends l.notes_are) ∙ lived_says l.first l.inputs l.new (ap (λ (s : State). has_ended s.phase) l.end ∙ ended)

and_false : (a b : Bool) → (a && b) ≡ false → b ≡ true → a ≡ false
and_false true b e f = let bad : true ≡ false = sym f ∙ e in cc
and_false false b e f = refl

shut_ended : (gone ended : Bool) → (not gone && not ended) ≡ false → (gone ≡ true → ended ≡ true) → ended ≡ true
shut_ended true ended e g = g refl
shut_ended false true e g = refl
shut_ended false false e g = cc

-- ---- the new end ----
module _ (net : Net) (k : Known net) (left : GoneEnded net) (live : AllLive net) (once : Unrepeated net.book.made) (n : ℕ) (s : SetState) (here : slice_get net.sets n ≡ Some s) where
  -- its pair is that of no end which its node has made
  pub no_other : (lost : List Name) (pair : Pair) → FarFrom n pair net.book.made → NoOther net.book lost n pair
  no_other lost pair far m q im iq told kept other met node same =
      of_made (λ (r : MadeNote). r.who.node ≡ n → r.pair ≢ pair) net.book.made q far (get_in net.book.made iq.0 q iq.1 iq.2) node same

  note_at : (m : MadeNote) → InMade m net.book.made → MadeOk net m
  note_at m i = of_made (MadeOk net) net.book.made m k.made i

  -- notes of one name are of one end
  same_end : (m : MadeNote) → MadeOk net m → AllByRecursion (λ (q : MadeNote). q.who ≡ m.who → q.pair ≡ m.pair) net.book.made
  same_end m o =
      each_map (MadeOk net) (λ (q : MadeNote). q.who ≡ m.who → q.pair ≡ m.pair)
      (λ q p e.
      let is : p.note.end ≡ o.note.end = same_holder p.note.end o.note.end (end_at net m.who) (subst (λ w. end_at net w ≡ Some p.note.end) e p.note.there) o.note.there in
      sym p.note.pair ∙ ap (λ (h : Holder). h.end.pair) is ∙ o.note.pair) net.book.made k.made

  module _ (a : Act) (at : Callsign) (p : Pair) (d : List ℕ) (o : Opener s a at p d) (x : Name) (sent : has_sent net.book.sent x d ≡ true) where
    abbrev head : DatagramHead
    head = o.comer.head

    asker : Asker net x d head p
    asker = asker_of net x d head p o.window o.user o.node (sender_of net x d net.book.sent k.sent sent) o.comer.read o.request

    note : NoteOf net.book.made x
    note = note_of_name net.book.made x (live x asker.end asker.there).note

    abbrev m : MadeNote
    m = note.note

    ok : MadeOk net m
    ok = note_at m note.inside

    is_end : ok.note.end ≡ asker.end
    is_end = same_holder ok.note.end asker.end (end_at net x) (subst (λ w. end_at net w ≡ Some ok.note.end) note.who ok.note.there) asker.there

    nodes_are : (q : MadeNote) → MadeOk net q → q.own ≡ head.origin → q.who.node ≡ m.who.node
    nodes_are q r own =
        let near : q.who.node ≡ x.node = k.calls q.who.node x.node r.note.set asker.own.0 r.note.here asker.own.1 (r.note.own ∙ own ∙ sym asker.own.2) in
        near ∙ ap (λ (w : Name). w.node) (sym note.who)

    own_is : m.own ≡ head.origin
    own_is =
        let two : Some ok.note.set ≡ Some asker.own.0 = sym ok.note.here ∙ ap (λ (w : Name). slice_get net.sets w.node) note.who ∙ asker.own.1 in
        let same : ok.note.set ≡ asker.own.0 = cc in
        sym ok.note.own ∙ ap (λ (u : SetState). u.own) same ∙ asker.own.2

    last : made_last net.book.made head.origin p ≡ Some x
    last =
        last_is head.origin p m net.book.made note.inside own_is (sym ok.note.pair ∙ ap (λ (h : Holder). h.end.pair) is_end ∙ asker.pair_is)
        (each_map (MadeOk net) (λ (q : MadeNote). q.own ≡ head.origin → q.who.node ≡ m.who.node) nodes_are net.book.made k.made) once ∙ ap (λ w. Some w) note.who

    requester_is : requester net.book (Some d) ≡ (if has_sent net.book.sent x d && is_unknown (partner net.book x) then Some x else None)
    requester_is = ap (asked_by net.book d) o.comer.read ∙ ap (λ q. if_asked net.book d (made_last net.book.made head.origin q)) asker.first ∙ ap (λ w. if_asked net.book d w) last

    -- x was opened by none
    alone : (q : MadeNote) (z : Name) → InMade q net.book.made → q.who ≡ x → q.partner ≡ Some z → (P : Type 0) → P
    alone q z i who met P =
        let r : MadeOk net q = note_at q i in
        let is : r.note.end ≡ asker.end = same_holder r.note.end asker.end (end_at net x) (subst (λ w. end_at net w ≡ Some r.note.end) who r.note.there) asker.there in
        let bad : None ≡ Some z = sym (r.alone (ap (λ (h : Holder). h.asked) is ∙ asker.asked)) ∙ met in
        cc

    -- an end that was opened for x: it is of this node, and has ended
    returned : (q : MadeNote) → InMade q net.book.made → q.partner ≡ Some x → IsReturn net.book n d
    returned q i met =
        let r : MadeOk net q = note_at q i in
        let w : Opened net q x = r.opened x met in
        let is : w.asker ≡ asker.end = same_holder w.asker asker.end (end_at net x) w.there asker.there in
        let own : s.own ≡ w.to.0.own = sym (same_call-true head.dest s.own o.comer.mine) ∙ sym asker.to ∙ ap (λ (h : Holder). h.at) (sym is) ∙ sym w.to.2 in
        let node : q.who.node ≡ n = sym (k.calls n q.who.node s w.to.0 here w.to.1 own) in
        let there : end_of q.who.id s.ends ≡ Some w.end = sym (ap (λ o. end_in o q.who.id) (ap (λ i. slice_get net.sets i) node ∙ here)) ∙ w.here in
        let two : Some w.from.0 ≡ Some asker.own.0 = sym w.from.1 ∙ asker.own.1 in
        let same_set : w.from.0 ≡ asker.own.0 = cc in
        let from : w.end.at ≡ head.origin = sym w.from.2 ∙ ap (λ (u : SetState). u.own) same_set ∙ asker.own.2 in
        let pair : w.end.asked ≡ Some p = w.pair ∙ ap (λ (h : Holder). Some h.end.pair) is ∙ ap (λ r. Some r) asker.pair_is in
        let fits : opened_by head.origin p w.end ≡ true =
        ap (λ o. asked_with o p && same_call w.end.at head.origin) pair ∙ ap (λ b. b && same_call w.end.at head.origin) (pair_itself p) ∙ ap (λ c. same_call w.end.at c) (sym from) ∙ call_refl w.end.at in
        let shut : is_open w.end ≡ false = and_false (is_open w.end) (opened_by head.origin p w.end) (none_open (opened_by head.origin p) w.end s.ends o.none (is_in q.who.id w.end s.ends there)) fits in
        let ended : has_ended w.end.end.phase ≡ true = shut_ended w.end.gone (has_ended w.end.end.phase) shut (left q.who w.end w.here) in
        record {
          head = head;
          read = o.comer.read;
          pair = p;
          window = o.window;
          user = o.user;
          at = o.node;
          request = o.request;
          asker = x;
          asked = last;
          sent = sent;
          earlier = q;
          made = in_contains q net.book.made i;
          here = node;
          opened = met;
          ended = sym (ap any_ends (told_is net.book.made q i once (same_end q r))) ∙ says_ended w.end.end (told_to net.book.made q.who) (live q.who w.end w.here).lived ended;
        }

    asked_case : (w : Option Name) → partner net.book x ≡ w → HasRequester net.book (Some d) ⊎ IsReturn net.book n d
    asked_case None e = inl (x, requester_is ∙ ap (λ b. if b && is_unknown (partner net.book x) then Some x else None) sent ∙ ap (λ w. if is_unknown w then Some x else None) e)
    asked_case (Some z) e =
        let q : Partner net.book.made x z = partner_of net.book.made x z e in
        elim q.which [
          | inl met ↦ inr (returned q.note q.inside met.0)
          | inr own ↦ alone q.note z q.inside own.0 own.1 (HasRequester net.book (Some d) ⊎ IsReturn net.book n d)
        ]

    pub asked_or_returned : HasRequester net.book (Some d) ⊎ IsReturn net.book n d
    asked_or_returned = asked_case (partner net.book x) refl
