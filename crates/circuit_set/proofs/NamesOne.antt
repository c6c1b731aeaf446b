-- In a fresh run the pair of an open end's partner names one end.
use Rattle.std.specs.Prelude.{◌≡◌, ℕ, suc, ◌≤◌, ◌⊎◌, Bool, true, false, ◌||◌, nat_eq, nat_le, nat_lt, if◌then◌else◌, List, [], ◌∷◌, ◌++◌, length, slice_get, slice_set, Option, Some, None, refl}
use Rattle.std.proofs.Common.{sym, ◌∙◌, ap, subst, inl, inr, arith}
use Rattle.std.proofs.lemmas.Bool.Decides.{nat_tests}
use Rattle.radio_base.specs.declared.modulus.TheConstants.{COUNT_MAX}
use Rattle.ax_address.specs.Callsign.{Callsign}
use Rattle.circuit_l4.specs.declared.pair.Pair.{Pair}
use Rattle.circuit_l4.specs.declared.notice.EndNotice.{EndNotice}
use Rattle.circuit_l4.specs.State.{Effect, Out, State}
use Rattle.circuit_l4.specs.Opening.{facts_of}
use Rattle.circuit_table.specs.Pairs.{IsPair, is_used}
use Rattle.circuit_table.specs.Sets.{Act, Calls, Comes, Connect, ConnectFor, Discard, Restart, Made, Sent, Heeded, Notice, Gone, Restarted, Lost, Holder, SetDone, SetState, CircuitTold, all_gone, end_of, goes_to, has_ended, held_pairs, holder_of, is_over, losses, makes_end, new_pair, notices, after_restart, sendings, set_step, told_by, with_end}
use Rattle.circuit_set.specs.Books.{Book, FreshFrom, any_ends, is_lost, lost_with, with_event, with_events, partner_in, requester}
use Rattle.circuit_table.specs.Events.{Event, Name, same_name}
use Rattle.circuit_set.specs.NotedRuns.{Net, begins, end_at, net_run, net_step, told_to}
use Rattle.circuit_table.specs.Runs.{AreStarts, AreSteps, IsAct, IsStart, Step, end_in, events_at, events_of, sets_at, told_at}
use Rattle.circuit_set.specs.Naming.{PairNamesOne}
use Rattle.circuit_set.proofs.Acts.{set_self}
use Rattle.circuit_set.proofs.Bridge.{same_names}
use Rattle.circuit_set.proofs.Cases.{Cases, IsNew, Lives, Says, found, step_cases}
use Rattle.circuit_set.proofs.Ended.{Ends}
use Rattle.circuit_set.proofs.Fair.{Fair, Grown, LostOk, OversOk, SameNotes, fair_grown, losts_now, overs_noticed, same_all_noticed, same_itself}
use Rattle.circuit_set.proofs.Given.{Numbers, one, start_numbers, step_numbers}
use Rattle.circuit_set.proofs.Lookups.{InEnds, has_note, set_same}
use Rattle.circuit_set.proofs.Moved.{same_or}
use Rattle.circuit_set.proofs.NewName.{asked_for, end_here, new_fair}
use Rattle.circuit_set.proofs.Noting.{same_notes, same_partners, told_noted, with_notices}
use Rattle.circuit_set.proofs.Restarts.{gone_of, is_end, noted_losses}
use Rattle.circuit_set.proofs.Safe.{none_case, starts_at}
use Rattle.circuit_set.proofs.Stepped as stepped
use Rattle.circuit_set.proofs.Stepped.{Onto, onto_itself}
use Rattle.circuit_table.proofs.Names.{SameEnd}
use Rattle.circuit_set.proofs.Unused.{following_ok, next_ok, next_unused}

-- ---- who is lost ----
abbrev pub lost_all : List Name → List Event → List Name
lost_all lost [] = lost
lost_all lost (e ∷ es) = lost_all (lost_with lost e.node e.told) es

abbrev NoLoss : List CircuitTold → Type 0
NoLoss [] = Unit {0}
NoLoss (Lost id facts ∷ ts) = ⊥
NoLoss (t ∷ ts) = NoLoss ts

none_lost : (n : ℕ) (own : Callsign) (ts : List CircuitTold) (lost : List Name) → NoLoss ts → lost_all lost (events_at n own ts) ≡ lost
none_lost n own [] lost h = refl
none_lost n own (Made id pair at request ∷ ts) lost h = none_lost n own ts lost h
none_lost n own (Sent id number d ∷ ts) lost h = none_lost n own ts lost h
none_lost n own (Heeded id d ∷ ts) lost h = none_lost n own ts lost h
none_lost n own (Notice id m ∷ ts) lost h = none_lost n own ts lost h
none_lost n own (Gone id facts ∷ ts) lost h = none_lost n own ts lost h
none_lost n own (Restarted pair ∷ ts) lost h = none_lost n own ts lost h
none_lost n own (Lost id facts ∷ ts) lost h = absurd h

no_append : (xs ys : List CircuitTold) → NoLoss xs → NoLoss ys → NoLoss (xs ++ ys)
no_append [] ys p q = q
no_append (Made id pair at request ∷ xs) ys p q = no_append xs ys p q
no_append (Sent id number d ∷ xs) ys p q = no_append xs ys p q
no_append (Heeded id d ∷ xs) ys p q = no_append xs ys p q
no_append (Notice id m ∷ xs) ys p q = no_append xs ys p q
no_append (Gone id facts ∷ xs) ys p q = no_append xs ys p q
no_append (Restarted pair ∷ xs) ys p q = no_append xs ys p q
no_append (Lost id facts ∷ xs) ys p q = absurd p

no_sents : (s : SetState) (id : ℕ) (at : Callsign) (os : List Out) → NoLoss (sendings s id at os)
no_sents s id at [] = tt
no_sents s id at (o ∷ os) = no_sents s id at os

no_notices : (id : ℕ) (ns : List EndNotice) → NoLoss (notices id ns)
no_notices id [] = tt
no_notices id (n ∷ ns) = no_notices id ns

no_gone : (b : Bool) (id : ℕ) (e : State) → NoLoss (if b then Gone id (facts_of e) ∷ [] else [])
no_gone true id e = tt
no_gone false id e = tt

no_heeded : (b : Bool) (id : ℕ) (d : List ℕ) → NoLoss (if b then Heeded id d ∷ [] else [])
no_heeded true id d = tt
no_heeded false id d = tt

told_none : (s : SetState) (h : Holder) (g : Effect) → NoLoss (told_by s h g)
told_none s h g =
    no_append (sendings s h.id h.at g.outs ++ notices h.id g.notes) (if is_over g.end then Gone h.id (facts_of g.end) ∷ [] else [])
    (no_append (sendings s h.id h.at g.outs) (notices h.id g.notes) (no_sents s h.id h.at g.outs) (no_notices h.id g.notes)) (no_gone (is_over g.end) h.id g.end)

name_case : (n : ℕ) (h : Holder) (hs : List Holder) (lost : List Name) (x : Name) (b : Bool) → same_name (record { node = n; id = h.id }) x ≡ b → (b || is_lost lost x) ≡ true
    → (is_lost lost x ≡ true) ⊎ ((j : Holder) × InEnds j (h ∷ hs) × (x ≡ record { node = n; id = j.id }))
name_case n h hs lost x true e t = inr (h, inl refl, sym (same_names (record { node = n; id = h.id }) x e))
name_case n h hs lost x false e t = inl t

-- of a node that starts again
lost_case : (n : ℕ) (own : Callsign) (h : Holder) (hs : List Holder) (lost : List Name) (x : Name) (b : Bool)
    → is_lost (lost_all lost (events_at n own (if b then losses hs else Lost h.id (facts_of h.end) ∷ losses hs))) x ≡ true
    → ((gone : List Name) → is_lost (lost_all gone (events_at n own (losses hs))) x ≡ true → (is_lost gone x ≡ true) ⊎ ((j : Holder) × InEnds j hs × (x ≡ record { node = n; id = j.id })))
    → (is_lost lost x ≡ true) ⊎ ((j : Holder) × InEnds j (h ∷ hs) × (x ≡ record { node = n; id = j.id }))
lost_case n own h hs lost x true e later = elim (later lost e) [ inl r ↦ inl r | inr r ↦ inr (r.0, inr r.1, r.2) ]
lost_case n own h hs lost x false e later =
    let who : Name = record { node = n; id = h.id } in
    elim (later (who ∷ lost) e) [ inl r ↦ name_case n h hs lost x (same_name who x) refl r | inr r ↦ inr (r.0, inr r.1, r.2) ]

lost_in : (n : ℕ) (own : Callsign) (hs : List Holder) (lost : List Name) (x : Name) → is_lost (lost_all lost (events_at n own (losses hs))) x ≡ true
    → (is_lost lost x ≡ true) ⊎ ((j : Holder) × InEnds j hs × (x ≡ record { node = n; id = j.id }))
lost_in n own [] lost x e = inl e
lost_in n own (h ∷ hs) lost x e = lost_case n own h hs lost x h.gone e (λ gone q. lost_in n own hs gone x q)

-- ---- a fresh run goes on ----
fresh_parts : (b : Book) (lost : List Name) (xs ys : List Event) → FreshFrom b lost (xs ++ ys) → FreshFrom b lost xs × FreshFrom (with_events b xs) (lost_all lost xs) ys
fresh_parts b lost [] ys f = (tt, f)
fresh_parts b lost (x ∷ xs) ys f = let r = fresh_parts (with_event b x) (lost_with lost x.node x.told) xs ys f.1 in ((f.0, r.0), r.1)

-- the book has the same ends
same_fair : (net : Net) (lost : List Name) (f : Fair net lost) (ss : List SetState) (c : Book) → ss ≡ net.sets → c.made ≡ net.book.made → Fair (record { sets = ss; book = c }) lost
same_fair net lost f ss c same made =
    let P : List SetState → Type 0 = λ xs. Fair (record { sets = xs; book = c }) lost in
    let g : Grown net (record { sets = net.sets; book = c }) = record {
      shape = subst (λ ms. SameNotes net.book.made ms) (sym made) (same_itself net.book.made);
      noted = λ x. ap (λ ms. has_note ms x) made;
      partners = λ x. ap (λ ms. partner_in ms x) made;
      was = λ x to e. (to, e, onto_itself to);
      is = λ x h e. (h, e, onto_itself h);
      owns = λ n s e. (s, e, refl);
    } in
    subst P (sym same)
    (fair_grown net (record { sets = net.sets; book = c }) lost f g lost f.sets (λ x h e t. f.overs x h e (sym (ap (λ ms. any_ends (told_to ms x)) made) ∙ t)) f.losts)

-- an end tells more
told_fair : (net : Net) (lost : List Name) (f : Fair net lost) (c : Book) (x : Name) (to : Holder) (notes : List EndNotice) → end_at net x ≡ Some to → c.made ≡ with_notices x notes net.book.made
    → (any_ends notes ≡ true → has_ended to.end.phase ≡ true) → Fair (record { sets = net.sets; book = c }) lost
told_fair net lost f c x to notes there made told =
    let new : Net = record { sets = net.sets; book = c } in
    let g : Grown net (record { sets = net.sets; book = c }) = record {
      shape = subst (λ ms. SameNotes net.book.made ms) (sym made) (same_all_noticed x notes net.book.made);
      noted = λ z. ap (λ ms. has_note ms z) made ∙ same_notes x z notes net.book.made;
      partners = λ z. ap (λ ms. partner_in ms z) made ∙ same_partners x z notes net.book.made;
      was = λ z to e. (to, e, onto_itself to);
      is = λ z h e. (h, e, onto_itself h);
      owns = λ n s e. (s, e, refl);
    } in
    fair_grown net (record { sets = net.sets; book = c }) lost f g lost f.sets
    (overs_noticed net (record { sets = net.sets; book = c }) lost f g x to notes there made (f.ends x to there) told) f.losts

or_false : (a b : Bool) → (a || b) ≡ false → a ≡ false
or_false true b e = cc
or_false false b e = refl

room_is : (n : ℕ) → nat_le 64 n ≡ false → n ≤ 63
room_is n e = grind (arith, nat_tests)

module _ (net : Net) (lost : List Name) (f : Fair net lost) (n : ℕ) (s : SetState) (here : slice_get net.sets n ≡ Some s) where
  nums : Numbers s
  nums = (f.sets n s here).0

  next : IsPair s.next
  next = (f.sets n s here).1

  abbrev After : SetDone → Net
  After done = record { sets = slice_set net.sets n done.set; book = with_events net.book (events_at n s.own done.told) }

  abbrev P : SetDone → Type 0
  P done = Numbers done.set → IsPair done.set.next → FreshFrom net.book lost (events_at n s.own done.told) → Fair (After done) (lost_all lost (events_at n s.own done.told))

  sets_now : (t : SetState) → Numbers t → IsPair t.next → (i : ℕ) (u : SetState) → slice_get (slice_set net.sets n t) i ≡ Some u → Numbers u × IsPair u.next
  sets_now t a p i u e = stepped.each_set net n s here (λ (w : SetState). Numbers w × IsPair w.next) t (a, p) f.sets i u (nat_eq i n) refl e

  -- ---- an end that was made ----
  changed : (h : Holder) (e : State) (over : Bool) (c : Book) (notes : List EndNotice) → end_of h.id s.ends ≡ Some h
      → (let to : Holder = record { id = h.id; at = h.at; asked = h.asked; end = e; gone = over } in
      Onto h to → c.made ≡ with_notices (record { node = n; id = h.id }) notes net.book.made → (any_ends notes ≡ true → has_ended e.phase ≡ true) → Numbers (record s { ends = with_end to s.ends })
      → Fair (record { sets = slice_set net.sets n (record s { ends = with_end to s.ends }); book = c }) lost)
  changed h e over c notes there o made told numbers =
      let to : Holder = record { id = h.id; at = h.at; asked = h.asked; end = e; gone = over } in
      let x : Name = record { node = n; id = h.id } in
      let t : SetState = record s { ends = with_end to s.ends } in
      let new : Net = record { sets = slice_set net.sets n t; book = c } in
      let g : Grown net new = record {
        shape = subst (λ ms. SameNotes net.book.made ms) (sym made) (same_all_noticed x notes net.book.made);
        noted = λ z. ap (λ ms. has_note ms z) made ∙ same_notes x z notes net.book.made;
        partners = λ z. ap (λ ms. partner_in ms z) made ∙ same_partners x z notes net.book.made;
        was = λ z k q. stepped.was_stepped net n s here h e over c there o z k q (same_or x z);
        is = λ z k q. stepped.is_stepped net n s here h e over c there o z k q (same_or x z);
        owns = λ i u q. stepped.own_stays net n s here t refl i u (nat_eq i n) refl q;
      } in
      fair_grown net new lost f g lost (sets_now t numbers next)
      (overs_noticed net new lost f g x to notes (stepped.end_now net n s here h e over c there) made (f.ends x h (stepped.end_then net n s here h e over c there)) told) (losts_now net new lost f g)

  heeded_made : (h : Holder) (b : Bool) (d : List ℕ) (g : Effect)
      → (with_events net.book (events_at n s.own ((if b then Heeded h.id d ∷ [] else []) ++ told_by s h g))).made ≡ with_notices (record { node = n; id = h.id }) g.notes net.book.made
  heeded_made h true d g = (told_noted s n s.own h g (with_event net.book (record { node = n; own = s.own; told = Heeded h.id d }))).made
  heeded_made h false d g = (told_noted s n s.own h g net.book).made

  settles : (told : List CircuitTold) (to : SetState) → NoLoss told → Fair (record { sets = slice_set net.sets n to; book = with_events net.book (events_at n s.own told) }) lost
      → Fair (record { sets = slice_set net.sets n to; book = with_events net.book (events_at n s.own told) }) (lost_all lost (events_at n s.own told))
  settles told to none fair = subst (λ l. Fair (record { sets = slice_set net.sets n to; book = with_events net.book (events_at n s.own told) }) l) (sym (none_lost n s.own told lost none)) fair

  moves_so : (h : Holder) (heeded : Bool) (d : List ℕ) (g : Effect) → end_of h.id s.ends ≡ Some h → h.gone ≡ false → SameEnd h.end g.end → Ends h.end g → Says h heeded d g → Lives h.end g
      → P (goes_to s h (if heeded then Heeded h.id d ∷ [] else []) g)
  moves_so h heeded d g there held same ends says lives numbers ok fr =
      let told : List CircuitTold = (if heeded then Heeded h.id d ∷ [] else []) ++ told_by s h g in
      let o : Onto h (record { id = h.id; at = h.at; asked = h.asked; end = g.end; gone = is_over g.end }) = record { pair = same.pair; gone = λ e. let bad : true ≡ false = sym e ∙ held in cc; ended = ends.stays } in
      settles told (record s { ends = with_end (record { id = h.id; at = h.at; asked = h.asked; end = g.end; gone = is_over g.end }) s.ends })
      (no_append (if heeded then Heeded h.id d ∷ [] else []) (told_by s h g) (no_heeded heeded h.id d) (told_none s h g))
      (changed h g.end (is_over g.end) (with_events net.book (events_at n s.own told)) g.notes there o (heeded_made h heeded d g) ends.told numbers)

  leaves_so : (h : Holder) → end_of h.id s.ends ≡ Some h → h.gone ≡ false
      → P (record { set = record s { ends = with_end (record h { gone = true }) s.ends }; told = Gone h.id (facts_of h.end) ∷ [] })
  leaves_so h there held numbers ok fr =
      let told : List CircuitTold = Gone h.id (facts_of h.end) ∷ [] in
      let o : Onto h (record { id = h.id; at = h.at; asked = h.asked; end = h.end; gone = true }) = record { pair = refl; gone = λ e. refl; ended = λ e. e } in
      changed h h.end true (with_events net.book (events_at n s.own told)) [] there o refl (λ e. cc) numbers

  makes_so : (at : Callsign) (asked : Option Pair) (request : Option (List ℕ)) (g : Effect) → IsNew s asked request g → P (makes_end s at asked request g)
  makes_so at asked request g new numbers ok fr =
      let h : Holder = holder_of s at asked g in
      let t : SetState = (makes_end s at asked request g).set in
      let p : Pair = new_pair s in
      let y : Name = record { node = n; id = s.number } in
      let from : Option Name = requester net.book request in
      let b : Book = with_event net.book (record { node = n; own = s.own; told = Made s.number (new_pair s) at request }) in
      let few : length (held_pairs s.ends) ≤ 63 = room_is (length (held_pairs s.ends)) (or_false (nat_le 64 (length (held_pairs s.ends))) (nat_lt COUNT_MAX s.number) new.room) in
      let unused : is_used p (held_pairs s.ends) ≡ false = next_unused (held_pairs s.ends) s.next next few in
      let asks = λ (a : Name) (e : from ≡ Some a). asked_for net s request a f.passed new.foreign e in
      let first : Fair (record { sets = slice_set net.sets n t; book = b }) lost = new_fair net lost f n s t h p from b here refl new.pair refl refl numbers ok unused asks refl fr.0.1 in
      let there : end_at (record { sets = slice_set net.sets n t; book = b }) y ≡ Some h = end_here net lost f n s t h p from b here refl new.pair refl refl numbers ok unused asks refl fr.0.1 in
      settles (Made s.number (new_pair s) at request ∷ told_by s h g) t (told_none s h g)
      (told_fair (record { sets = slice_set net.sets n t; book = b }) lost first (with_events b (events_at n s.own (told_by s h g))) y h g.notes there (told_noted s n s.own h g b).made
      (λ e. let bad : true ≡ false = sym e ∙ new.told in cc))

  cases : Cases s P
  cases = record {
    rests = λ numbers ok fr. same_fair net lost f (slice_set net.sets n s) net.book (set_self net.sets n s here) refl;
    refuses = λ d numbers ok fr. same_fair net lost f (slice_set net.sets n s) (with_event net.book (record { node = n; own = s.own; told = Sent 0 None d })) (set_self net.sets n s here) refl;
    moves = moves_so;
    leaves = leaves_so;
    makes = makes_so;
  }

  -- ---- the node starts again ----
  module _ (pair : Pair) (more : ℕ) where
    abbrev again : SetState
    again = (after_restart s pair more).set

    abbrev told_again : List CircuitTold
    told_again = Restarted pair ∷ losses s.ends

    abbrev started : Net
    started = record { sets = slice_set net.sets n again; book = with_events net.book (events_at n s.own told_again) }

    made_again : (with_events net.book (events_at n s.own told_again)).made ≡ net.book.made
    made_again =
        let b : Book = record { places = suc net.book.places; made = net.book.made; sent = net.book.sent; heard = net.book.heard } in
        ap (λ (c : Book). c.made) (noted_losses n s.own s.ends b).2

    gone_onto : (j : Holder) (g : Bool) → (j.gone ≡ true → g ≡ true) → Onto j (gone_of j g)
    gone_onto j g later = record { pair = refl; gone = later; ended = λ e. e }

    was_again : (z : Name) (k : Holder) → end_at started z ≡ Some k → (j : Holder) × (end_at net z ≡ Some j) × Onto j k
    was_again z k e =
        let r = stepped.was_lost net n s here pair more (with_events net.book (events_at n s.own told_again)) z k (nat_eq z.node n) refl e in
        (r.0, r.1, subst (λ (i : Holder). Onto r.0 i) r.3 (gone_onto r.0 r.2 r.4))

    is_again : (z : Name) (j : Holder) → end_at net z ≡ Some j → (k : Holder) × (end_at started z ≡ Some k) × Onto j k
    is_again z j e =
        let r = stepped.is_lost_now net n s here pair more (with_events net.book (events_at n s.own told_again)) z j (nat_eq z.node n) refl e in
        (gone_of j r.0, r.1, gone_onto j r.0 r.2)

    grown : Grown net started
    grown = record {
      shape = subst (λ ms. SameNotes net.book.made ms) (sym made_again) (same_itself net.book.made);
      noted = λ z. ap (λ ms. has_note ms z) made_again;
      partners = λ z. ap (λ ms. partner_in ms z) made_again;
      was = was_again;
      is = is_again;
      owns = λ i u e. stepped.own_stays net n s here again refl i u (nat_eq i n) refl e;
    }

    overs_again : OversOk started
    overs_again z k e t = let w = grown.was z k e in w.2.ended (f.overs z w.0 w.1 (sym (ap (λ ms. any_ends (told_to ms z)) made_again) ∙ t))

    lost_end : (z : Name) (j : Holder) → InEnds j s.ends → z ≡ record { node = n; id = j.id } → (k : Holder) × (end_at started z ≡ Some k) × (k.gone ≡ true)
    lost_end z j i e =
        let r : end_of j.id (all_gone s.ends) ≡ Some (gone_of j true) = is_end j.id j s.ends (found j s.ends nums.once i) in
        let at : end_at started (record { node = n; id = j.id }) ≡ Some (gone_of j true) = ap (λ o. end_in o j.id) (set_same net.sets n s again here) ∙ r in
        (gone_of j true, subst (λ w. end_at started w ≡ Some (gone_of j true)) (sym e) at, refl)

    losts_again : LostOk started (lost_all lost (events_at n s.own told_again))
    losts_again z e = elim (lost_in n s.own s.ends lost z e) [ inl r ↦ losts_now net started lost f grown z r | inr r ↦ lost_end z r.0 r.1 r.2 ]

    starts_so : IsPair pair → P (after_restart s pair more)
    starts_so is numbers ok fr =
        fair_grown net started lost f grown (lost_all lost (events_at n s.own told_again)) (sets_now again numbers is) overs_again losts_again

  -- ---- the next pair is one ----
  abbrev Q : SetDone → Type 0
  Q done = IsPair done.set.next

  pair_cases : Cases s Q
  pair_cases = record {
    rests = next;
    refuses = λ d. next;
    moves = λ h heeded d g there held same ends says lives. next;
    leaves = λ h there held. next;
    makes = λ at asked request g new. following_ok (new_pair s) (next_ok 255 (held_pairs s.ends) s.next next);
  }

  pub act_fair : (a : Act) → IsAct a → FreshFrom net.book lost (events_at n s.own (set_step s a).told) → Fair (After (set_step s a)) (lost_all lost (events_at n s.own (set_step s a).told))
  act_fair (Connect dest now) is fr = step_cases s (one s nums) P cases (Connect dest now) tt (step_numbers s nums (Connect dest now)) (step_cases s (one s nums) Q pair_cases (Connect dest now) tt) fr
  act_fair (ConnectFor user dest now) is fr = step_cases s (one s nums) P cases (ConnectFor user dest now) tt (step_numbers s nums (ConnectFor user dest now)) (step_cases s (one s nums) Q pair_cases (ConnectFor user dest now) tt) fr
  act_fair (Comes d now) is fr = step_cases s (one s nums) P cases (Comes d now) tt (step_numbers s nums (Comes d now)) (step_cases s (one s nums) Q pair_cases (Comes d now) tt) fr
  act_fair (Calls id call now) is fr = step_cases s (one s nums) P cases (Calls id call now) tt (step_numbers s nums (Calls id call now)) (step_cases s (one s nums) Q pair_cases (Calls id call now) tt) fr
  act_fair (Discard id) is fr = step_cases s (one s nums) P cases (Discard id) tt (step_numbers s nums (Discard id)) (step_cases s (one s nums) Q pair_cases (Discard id) tt) fr
  act_fair (Restart pair more) is fr = starts_so pair more is (step_numbers s nums (Restart pair more)) is fr

-- ---- a run ----
step_case : (net : Net) (lost : List Name) (st : Step) (o : Option SetState) → Fair net lost → IsAct st.act → slice_get net.sets st.node ≡ o → FreshFrom net.book lost (told_at net.sets st.node o st.act)
    → Fair (record { sets = sets_at net.sets st.node o st.act; book = with_events net.book (told_at net.sets st.node o st.act) }) (lost_all lost (told_at net.sets st.node o st.act))
step_case net lost st None f act e fr = f
step_case net lost st (Some s) f act e fr = act_fair net lost f st.node s e st.act act fr

run_fair : (net : Net) (lost : List Name) (steps later : List Step) → Fair net lost → AreSteps (steps ++ later) → FreshFrom net.book lost (events_of net.sets (steps ++ later))
    → (gone : List Name) × Fair (net_run net steps) gone
run_fair net lost [] later f are fr = (lost, f)
run_fair net lost (st ∷ sts) later f are fr =
    let told : List Event = told_at net.sets st.node (slice_get net.sets st.node) st.act in
    let parts = fresh_parts net.book lost told (events_of (sets_at net.sets st.node (slice_get net.sets st.node) st.act) (sts ++ later)) fr in
    run_fair (net_step net st) (lost_all lost told) sts later (step_case net lost st (slice_get net.sets st.node) f are.0 refl parts.0) are.1 parts.1

no_end : (sets : List SetState) (x : Name) (h : Holder) (P : Type 0) → AreStarts sets → end_at (begins sets) x ≡ Some h → P
no_end sets x h P a e = let none : end_at (begins sets) x ≡ None = none_case sets x (slice_get sets x.node) a refl in let bad : None ≡ Some h = sym none ∙ e in cc

start_fair : (sets : List SetState) → AreStarts sets → Fair (begins sets) []
start_fair sets a = record {
  sets = λ n s e. let i : IsStart s = starts_at sets n s a e in (start_numbers s i, i.pair);
  notes = λ m i. absurd i;
  ends = λ x h e. no_end sets x h (false ≡ true) a e;
  passed = tt;
  overs = λ x h e t. no_end sets x h (has_ended h.end.phase ≡ true) a e;
  losts = λ x e. cc;
  partners = λ x y e. cc;
  one = λ x y z h j k ex lasts part ey ez held node same. no_end sets x h (z ≡ y) a ex;
}

pub pair_names_one : PairNamesOne
pair_names_one sets starts steps later are fresh = let r = run_fair (begins sets) [] steps later (start_fair sets starts) are fresh in r.1.one
