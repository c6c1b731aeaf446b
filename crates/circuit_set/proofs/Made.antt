-- A new end keeps what is kept of the run, and meets the end that has asked for it.
use Rattle.std.specs.Prelude.{◌≡◌, ◌≢◌, ℕ, suc, ◌+◌, ◌≤◌, ◌<◌, ◌⊎◌, Bool, true, false, ◌||◌, nat_eq, if◌then◌else◌, List, [], ◌∷◌, ◌++◌, slice_get, slice_set, Option, Some, None, refl, not, ◌&&◌}
use Rattle.std.proofs.Common.{sym, ◌∙◌, ap, subst, inl, inr, arith}
use Rattle.std.proofs.lemmas.Bool.Decides.{nat_tests}
use Rattle.std.proofs.lemmas.Bool.{ne_eqb}
use Rattle.ax_address.specs.Callsign.{Callsign, IsCallsign}
use Rattle.circuit_l4.specs.declared.pair.Pair.{Pair}
use Rattle.circuit_l4.specs.declared.role.Role.TheVariants.{Responder}
use Rattle.circuit_l4.specs.State.{Effect, State}
use Rattle.circuit_set.specs.Lines.{Elem}
use Rattle.circuit_set.specs.Circuits.{PairOk, tag_on}
use Rattle.circuit_table.specs.Events.{Name, same_name}
use Rattle.circuit_set.specs.NotedRuns.{Net, end_at, opened_window, told_to}
use Rattle.circuit_table.specs.Sets.{Holder, SetState, datagram_to, end_of}
use Rattle.circuit_set.specs.Books.{is_unknown, was_asked, Book, MadeNote, first_name, has, is_some_name, partner, partner_in}
use Rattle.circuit_table.specs.Runs.{end_in}
use Rattle.circuit_set.proofs.Bridge.{TopAt, heard_of, name_itself, same_names}
use Rattle.circuit_set.proofs.Pasts.{AllOf, AllSpelled, InPast, IsNew, Noted, Numbered, Past, after_outs, flights_of, flights_other, flights_same, has_kept, has_put, held_put, in_put, noted_put, outs_rise, put_past, tops_kept}
use Rattle.circuit_set.proofs.Asks.{AskOf}
use Rattle.circuit_set.proofs.Lonely.{New, meets, nobody, nobody_new, two_new}
use Rattle.circuit_set.proofs.Lookups.{asked_noted, InEnds, end_kept, end_new, in_pushed, has_note, not_same, set_other, set_same}
use Rattle.circuit_set.proofs.Noting.{BookAfter, all_noticed, none_noticed, same_askeds, same_notes, same_partners, with_notices}
use Rattle.circuit_set.proofs.Whole.{turned}
use Rattle.circuit_set.proofs.Written.{RoleSpeaks}
use Rattle.circuit_set.proofs.Invariant.{AloneOk, CircuitOk, EndInv, FitsIn, Kept, Lived, PairInv, SetInv, Tops, side_of}
use Rattle.circuit_set.proofs.Moved.{same_or, sent_by, sent_in, side_is}

-- the end whose request it is, and what both fit in
pub record AskedBy (net : Net) (x : Name) (e : State) : Type 0 where
  pub end : Holder
  pub there : end_at net x ≡ Some end
  pub alone : partner net.book x ≡ None
  pub window : ℕ
  pub fits : window ≤ 127
  pub of_x : FitsIn end.end window
  pub of_y : FitsIn e window

-- a new end, before its first step
pub record IsMade (net : Net) (s : SetState) (at : Callsign) (opener : Option Pair) (from : Option Name) (g : Effect) : Type 0 where
  pub new : (w other : ℕ) → FitsIn g.end w → New w (record { e = g.end; outs = tag_on g.end.receiving.got g.end.sending.sent other g.outs []; heard = []; notes = g.notes })
  pub window : ℕ
  pub fits : FitsIn g.end window
  pub lives : Lived g.end g.notes
  pub silent : Numbered (λ i. ⊥) g.outs
  pub spelled : AllSpelled (datagram_to s at) g.outs
  pub asks : AllOf (λ r o. AskOf g.end r o) g.outs
  pub some : 1 ≤ g.end.config.window
  pub most : g.end.config.window ≤ 127
  pub at_call : IsCallsign at.letters at.ssid
  pub role : RoleSpeaks g.end.role
  pub answers : (p : Pair) → opener ≡ Some p → g.end.role ≡ Responder
  pub asked : (x : Name) → from ≡ Some x → AskedBy net x g.end
  pub by_request : is_unknown from ≡ false → g.end.role ≡ Responder
  pub opens : g.end.role ≡ Responder → opened_window g.notes ≡ Some g.end.window

abbrev pub note_of : Name → Callsign → Pair → Option Name → MadeNote
note_of y own pair from = record { who = y; own = own; pair = pair; partner = from; told = [] }

same_holder : (i j : Holder) (o : Option Holder) → o ≡ Some i → o ≡ Some j → i ≡ j
same_holder i j o e q = let two : Some i ≡ Some j = sym e ∙ q in cc

none_flight_case : (y : Name) (p : Past) (ps : List Past) (b : Bool) → same_name p.who y ≡ b → (p.who ≡ y → ⊥) → flights_of y ps ≡ [] → (if b then p.flight ∷ flights_of y ps else flights_of y ps) ≡ []
none_flight_case y p ps true t h later = absurd (h (same_names p.who y t))
none_flight_case y p ps false t h later = later

no_flights : (y : Name) (ps : List Past) → ((p : Past) → InPast p ps → p.who ≡ y → ⊥) → flights_of y ps ≡ []
no_flights y [] h = refl
no_flights y (p ∷ ps) h = none_flight_case y p ps (same_name p.who y) refl (h p (inl refl)) (no_flights y ps (λ q i. h q (inr i)))

some_name : (x z : Name) (b : Bool) → same_name x z ≡ b → (x ≡ z) ⊎ (same_name x z ≡ false)
some_name x z true t = inl (same_names x z t)
some_name x z false t = inr t

module _ (net : Net) (k : Kept net) (n : ℕ) (s : SetState) (at : Callsign) (asked : Option Pair) (pair next : Pair) (from : Option Name) (g : Effect) (c : Book) (over : Bool)
    (here : slice_get net.sets n ≡ Some s) (m : IsMade net s at asked from g)
    (noted_so : BookAfter (record { node = n; id = s.number }) (datagram_to s at) g.outs g.notes
    (record { places = suc net.book.places; made = note_of (record { node = n; id = s.number }) s.own pair from ∷ net.book.made; sent = net.book.sent; heard = net.book.heard }) c) where
  abbrev y : Name
  y = record { node = n; id = s.number }

  abbrev to : Holder
  to = record { id = s.number; at = at; asked = asked; end = g.end; gone = over }

  abbrev t : SetState
  t = record s { next = next; number = s.number + 1; ends = s.ends ++ to ∷ [] }

  abbrev after : Net
  after = record { sets = slice_set net.sets n t; book = c }

  abbrev made0 : List MadeNote
  made0 = note_of y s.own pair from ∷ net.book.made

  other : ℕ
  other = sent_by net from

  past : List Past
  unfolding other
  past = put_past y (suc net.book.places) g.end.receiving.got g.end.sending.sent other g.outs k.past

  set_so : SetInv s
  set_so = k.sets n s here

  -- ---- the name is new ----
  no_end : end_at net y ≡ None
  no_end = ap (λ o. end_in o s.number) here ∙ set_so.fresh s.number (omega arith)

  unnoted_case : (b : Bool) → has_note net.book.made y ≡ b → b ≡ false
  unnoted_case true e = let h = k.made y e in let bad : Some h.0 ≡ None = sym h.1 ∙ no_end in cc
  unnoted_case false e = refl

  unnoted : has_note net.book.made y ≡ false
  unnoted = unnoted_case (has_note net.book.made y) refl

  noted_not : (P : Type 0) → has_note net.book.made y ≡ true → P
  noted_not P e = let bad : true ≡ false = sym e ∙ unnoted in cc

  unsent : (i : ℕ) → has y i net.book.sent ≡ true → ⊥
  unsent i e = noted_not ⊥ (k.senders y i e)

  no_partner_case : (o : Option Name) → partner net.book y ≡ o → o ≡ None
  no_partner_case None e = refl
  no_partner_case (Some z) e = noted_not (Some z ≡ None) (k.pairs y z e).mine

  no_partner : partner net.book y ≡ None
  no_partner = no_partner_case (partner net.book y) refl

  not_past : (p : Past) → InPast p k.past → p.who ≡ y → ⊥
  not_past p i e = elim (k.owners p i) [
    | inl o ↦ noted_not ⊥ (subst (λ w. has_note net.book.made w ≡ true) e o)
    | inr o ↦ (let id : p.who.id ≡ s.number = ap (λ (w : Name). w.id) e in let l : 1 ≤ s.number = set_so.number in absurd (omega arith))
  ]

  -- ---- the book ----
  made_is : c.made ≡ with_notices y g.notes made0
  made_is = noted_so.made

  partner_is : (z : Name) → partner c z ≡ partner_in made0 z
  partner_is z = ap (λ ms. partner_in ms z) made_is ∙ same_partners y z g.notes made0

  not_from : (x : Name) → from ≡ Some x → y ≡ x → ⊥
  not_from x e same = let a : AskedBy net x g.end = m.asked x e in let bad : Some a.end ≡ None = sym a.there ∙ subst (λ w. end_at net w ≡ None) same no_end in cc

  own_case : (o : Option Name) → from ≡ o → is_some_name o y ≡ false
  own_case None e = refl
  own_case (Some x) e = not_same x y (λ q. not_from x e (sym q))

  first_case : (o : Option Name) → first_name o None ≡ o
  first_case None = refl
  first_case (Some x) = refl

  partner_new : partner c y ≡ from
  partner_new =
      partner_is y ∙ ap (λ b. if b then Some y else first_name (if same_name y y then from else None) (partner_in net.book.made y)) (own_case from refl)
      ∙ ap (λ b. first_name (if b then from else None) (partner_in net.book.made y)) (name_itself y) ∙ ap (λ o. first_name from o) no_partner ∙ first_case from

  partner_asker : (x : Name) → from ≡ Some x → partner c x ≡ Some y
  partner_asker x e =
      partner_is x ∙ ap (λ o. if is_some_name o x then Some y else first_name (if same_name y x then from else None) (partner_in net.book.made x)) e
      ∙ ap (λ b. if b then Some y else first_name (if same_name y x then from else None) (partner_in net.book.made x)) (name_itself x)

  asker_case : (o : Option Name) (z : Name) → (o ≡ Some z → ⊥) → is_some_name o z ≡ false
  asker_case None z h = refl
  asker_case (Some x) z h = not_same x z (λ e. h (ap (λ w. Some w) e))

  partner_other : (z : Name) → (y ≡ z → ⊥) → (from ≡ Some z → ⊥) → partner c z ≡ partner net.book z
  partner_other z apart far =
      partner_is z ∙ ap (λ b. if b then Some y else first_name (if same_name y z then from else None) (partner_in net.book.made z)) (asker_case from z far)
      ∙ ap (λ b. first_name (if b then from else None) (partner_in net.book.made z)) (not_same y z apart)

  -- the end that has asked had no partner, and the new one is none of before
  pub partner_stays : (z v : Name) → partner net.book z ≡ Some v → partner c z ≡ Some v
  partner_stays z v e =
      partner_other z (λ same. noted_not ⊥ (subst (λ w. has_note net.book.made w ≡ true) (sym same) (k.pairs z v e).mine))
      (λ q. let a : AskedBy net z g.end = m.asked z q in let bad : None ≡ Some v = sym a.alone ∙ e in cc) ∙ e

  note_new : has_note c.made y ≡ true
  note_new = ap (λ ms. has_note ms y) made_is ∙ same_notes y y g.notes made0 ∙ ap (λ b. b || has_note net.book.made y) (name_itself y)

  note_other : (z : Name) → (y ≡ z → ⊥) → has_note c.made z ≡ has_note net.book.made z
  note_other z apart = ap (λ ms. has_note ms z) made_is ∙ same_notes y z g.notes made0 ∙ ap (λ b. b || has_note net.book.made z) (not_same y z apart)

  unasked_case : (b : Bool) → was_asked net.book.made y ≡ b → b ≡ false
  unasked_case true e = noted_not (true ≡ false) (asked_noted net.book.made y e)
  unasked_case false e = refl

  unknown_not : (o : Option Name) → not (is_unknown o) ≡ true → is_unknown o ≡ false
  unknown_not None e = cc
  unknown_not (Some z) e = refl

  or_none : (a : Bool) → (a || false) ≡ a
  or_none true = refl
  or_none false = refl

  asked_new : was_asked c.made y ≡ not (is_unknown from)
  asked_new =
      ap (λ ms. was_asked ms y) made_is ∙ same_askeds y y g.notes made0 ∙ ap (λ b. (b && not (is_unknown from)) || was_asked net.book.made y) (name_itself y)
      ∙ ap (λ b. not (is_unknown from) || b) (unasked_case (was_asked net.book.made y) refl) ∙ or_none (not (is_unknown from))

  asked_other : (z : Name) → (y ≡ z → ⊥) → was_asked c.made z ≡ was_asked net.book.made z
  asked_other z apart =
      ap (λ ms. was_asked ms z) made_is ∙ same_askeds y z g.notes made0 ∙ ap (λ b. (b && not (is_unknown from)) || was_asked net.book.made z) (not_same y z apart)

  told_new : told_to c.made y ≡ g.notes
  told_new =
      ap (λ ms. told_to ms y) made_is ∙ all_noticed y g.notes made0 (ap (λ b. b || has_note net.book.made y) (name_itself y))
      ∙ ap (λ b. (if b then [] else told_to net.book.made y) ++ g.notes) (name_itself y)

  told_other : (z : Name) → (y ≡ z → ⊥) → told_to c.made z ≡ told_to net.book.made z
  told_other z apart = ap (λ ms. told_to ms z) made_is ∙ none_noticed y z g.notes made0 apart ∙ ap (λ b. if b then [] else told_to net.book.made z) (not_same y z apart)

  heard_is : (z : Name) → heard_of z c.heard ≡ heard_of z net.book.heard
  heard_is z = ap (λ hs. heard_of z hs) noted_so.heard

  unheard : heard_of y c.heard ≡ []
  unheard = heard_is y ∙ k.hearers y unnoted

  -- ---- ends by name ----
  end_here : end_at after y ≡ Some to
  end_here =
      ap (λ o. end_in o s.number) (set_same net.sets n s t here) ∙ end_new s.number to s.ends (set_so.fresh s.number (omega arith))
      ∙ ap (λ b. if b then Some to else None) (let e : nat_eq s.number s.number ≡ true = grind (arith, nat_tests) in e)

  old_case : (id : ℕ) (o : Option Holder) → end_of id s.ends ≡ o → (s.number ≡ id → ⊥) → end_of id (s.ends ++ to ∷ []) ≡ o
  old_case id (Some h) e apart = end_kept id to h s.ends e
  old_case id None e apart = end_new id to s.ends e ∙ ap (λ b. if b then Some to else None) (ne_eqb s.number id apart)

  end_other_case : (i id : ℕ) (b : Bool) → nat_eq i n ≡ b → (y ≡ record { node = i; id = id } → ⊥) → end_in (slice_get (slice_set net.sets n t) i) id ≡ end_in (slice_get net.sets i) id
  end_other_case i id true e apart =
      let same : i ≡ n = grind (arith, nat_tests) in
      let far : s.number ≡ id → ⊥ = λ q. apart (subst (λ w. y ≡ record { node = w; id = id }) (sym same) (ap (λ w. (let z : Name = record { node = n; id = w } in z)) q)) in
      ap (λ w. end_in (slice_get (slice_set net.sets n t) w) id) same ∙ ap (λ o. end_in o id) (set_same net.sets n s t here) ∙ old_case id (end_of id s.ends) refl far
      ∙ sym (ap (λ o. end_in o id) here) ∙ ap (λ w. end_in (slice_get net.sets w) id) (sym same)
  end_other_case i id false e apart = ap (λ o. end_in o id) (set_other net.sets n i t (let far : i ≢ n = grind (arith, nat_tests) in far))

  end_other : (z : Name) → (y ≡ z → ⊥) → end_at after z ≡ end_at net z
  end_other z apart = end_other_case z.node z.id (nat_eq z.node n) refl apart

  -- ---- sides ----
  side_new : side_of c past y g.end ≡ record { e = g.end; outs = tag_on g.end.receiving.got g.end.sending.sent other g.outs []; heard = []; notes = g.notes }
  unfolding past
  side_new =
      side_is g.end (flights_of y past) (tag_on g.end.receiving.got g.end.sending.sent other g.outs []) (heard_of y c.heard) [] (told_to c.made y) g.notes
      (flights_same y (suc net.book.places) g.end.receiving.got g.end.sending.sent other g.outs k.past ∙ ap (λ fs. tag_on g.end.receiving.got g.end.sending.sent other g.outs fs) (no_flights y k.past not_past))
      unheard told_new

  side_other : (z : Name) (e : State) → (y ≡ z → ⊥) → side_of c past z e ≡ side_of net.book k.past z e
  unfolding past
  side_other z e apart =
      side_is e (flights_of z past) (flights_of z k.past) (heard_of z c.heard) (heard_of z net.book.heard) (told_to c.made z) (told_to net.book.made z)
      (flights_other y z (suc net.book.places) g.end.receiving.got g.end.sending.sent other g.outs k.past apart) (heard_is z) (told_other z apart)

  new_so : (w : ℕ) → FitsIn g.end w → New w (side_of c past y g.end)
  new_so w fits = subst (λ z. New w z) (sym side_new) (m.new w other fits)

  met : (x : Name) → from ≡ Some x → (a : AskedBy net x g.end) → PairOk a.window (side_of c past x a.end.end) (side_of c past y g.end)
  met x e a =
      let o : AloneOk net.book k.past x a.end.end = (k.ends x a.end a.there).alone a.alone in
      meets a.window (side_of c past x a.end.end) (side_of c past y g.end) a.of_x.some
      (subst (λ z. PairOk a.window z (nobody a.window)) (sym (side_other x a.end.end (not_from x e))) (o.kept a.window a.of_x)) (new_so a.window a.of_y)

  -- ---- what was sent ----
  sent_then : (z : Name) (i : ℕ) → has z i c.sent ≡ true → has z i net.book.sent ≡ true
  sent_then z i e = elim (has_put y z (suc net.book.places) i (datagram_to s at) g.outs net.book.sent (λ j. ⊥) m.silent (ap (λ ss. has z i ss) (sym noted_so.sent) ∙ e)) [ inl o ↦ o | inr o ↦ absurd o.1 ]

  sent_still : (z : Name) (i : ℕ) → has z i net.book.sent ≡ true → has z i c.sent ≡ true
  sent_still z i e = ap (λ ss. has z i ss) noted_so.sent ∙ has_kept y z (suc net.book.places) i (datagram_to s at) g.outs net.book.sent e

  past_noted : Noted past c.sent
  unfolding past
  past_noted = subst (λ ss. Noted past ss) (sym noted_so.sent) (noted_put y (suc net.book.places) g.end.receiving.got g.end.sending.sent other (datagram_to s at) g.outs k.past net.book.sent k.noted m.spelled)

  placed_so : (p : Past) → InPast p past → p.place < c.places
  unfolding past
  placed_so p e =
      let up : after_outs g.outs (suc net.book.places) ≤ c.places = noted_so.places in
      let first : suc net.book.places ≤ after_outs g.outs (suc net.book.places) = outs_rise g.outs (suc net.book.places) in
      elim (in_put y (suc net.book.places) g.end.receiving.got g.end.sending.sent other g.outs p k.past e) [
        | inl i ↦ (let l : p.place < net.book.places = k.placed p i in omega arith)
        | inr i ↦ (let l : p.place < after_outs g.outs (suc net.book.places) = i.under in omega arith)
      ]

  top_then : (z : Name) (i top : ℕ) → i < suc net.book.places → TopAt z i top net.book.sent → TopAt z i top c.sent
  top_then z i top l h = subst (λ ss. TopAt z i top ss) (sym noted_so.sent) (tops_kept y z (suc net.book.places) i top (datagram_to s at) g.outs net.book.sent l h)

  -- no fragment of the new end is sent yet
  top_none : (i top : ℕ) → TopAt y i top c.sent
  top_none i top j e late = absurd (unsent j (sent_then y j e))

  old_top_at : (p : Past) → InPast p k.past → (z : Name) → partner c p.who ≡ Some z → (y ≡ p.who → ⊥) → (x : Name) → from ≡ Some x → (x ≡ p.who) ⊎ (x ≡ p.who → ⊥) → TopAt z p.place p.flight.other c.sent
  old_top_at p i z e apart x q (inl same) =
      let two : Some y ≡ Some z = sym (subst (λ w. partner c w ≡ Some y) same (partner_asker x q)) ∙ e in
      let is : y ≡ z = cc in
      subst (λ w. TopAt w p.place p.flight.other c.sent) is (top_none p.place p.flight.other)
  old_top_at p i z e apart x q (inr far) =
      let l : p.place < net.book.places = k.placed p i in
      top_then z p.place p.flight.other (omega arith) ((k.tops p i).other z (sym (partner_other p.who apart (λ r. far (let two : Some x ≡ Some p.who = sym q ∙ r in cc))) ∙ e))

  old_top : (p : Past) → InPast p k.past → (z : Name) → partner c p.who ≡ Some z → (y ≡ p.who) ⊎ (y ≡ p.who → ⊥) → (o : Option Name) → from ≡ o → TopAt z p.place p.flight.other c.sent
  old_top p i z e (inl same) o q = absurd (not_past p i (sym same))
  old_top p i z e (inr apart) None q =
      let l : p.place < net.book.places = k.placed p i in
      top_then z p.place p.flight.other (omega arith) ((k.tops p i).other z (sym (partner_other p.who apart (λ r. let bad : None ≡ Some p.who = sym q ∙ r in cc)) ∙ e))
  old_top p i z e (inr apart) (Some x) q = old_top_at p i z e apart x q (same_or x p.who)

  tops_old : (p : Past) → InPast p k.past → Tops c p
  tops_old p i =
      let l : p.place < net.book.places = k.placed p i in
      record { own = top_then p.who p.place p.flight.own (omega arith) (k.tops p i).own; other = λ z e. old_top p i z e (same_or y p.who) from refl }

  other_is : (x : Name) → from ≡ Some x → (a : AskedBy net x g.end) → other ≡ a.end.end.sending.sent
  unfolding other
  other_is x e a = ap (λ o. sent_by net o) e ∙ ap (λ o. sent_in o) a.there

  tops_new : (p : Past) → IsNew y (suc net.book.places) (after_outs g.outs (suc net.book.places)) g.end.sending.sent other p → Tops c p
  tops_new p i = record {
    own = subst (λ w. TopAt w p.place p.flight.own c.sent) (sym i.who) (top_none p.place p.flight.own);
    other = λ z e j r late.
        let q : from ≡ Some z = sym partner_new ∙ subst (λ w. partner c w ≡ Some z) i.who e in
        let a : AskedBy net z g.end = m.asked z q in
        let l : j < a.end.end.sending.sent = (k.ends z a.end a.there).below j (sent_then z j r) in
        let same : other ≡ a.end.end.sending.sent = other_is z q a in
        let is : p.flight.other ≡ other = i.other_is in
        omega arith;
  }

  tops_so : (p : Past) → InPast p past → Tops c p
  unfolding past
  tops_so p e = elim (in_put y (suc net.book.places) g.end.receiving.got g.end.sending.sent other g.outs p k.past e) [ inl i ↦ tops_old p i | inr i ↦ tops_new p i ]

  -- ---- the ends ----
  inv_new : EndInv after past y to
  unfolding past
  inv_new = record {
    number = refl;
    note = note_new;
    alone = λ e. record {
      none_heard = unheard;
      window = m.window;
      fits = m.fits;
      kept = λ w fits. two_new w (side_of c past y g.end) (nobody w) (new_so w fits) (nobody_new w fits.some);
    };
    paired = λ x e.
        let q : from ≡ Some x = sym partner_new ∙ e in
        let a : AskedBy net x g.end = m.asked x q in
        record {
          end = a.end;
          there = end_other x (not_from x q) ∙ a.there;
          window = a.window;
          fits = a.fits;
          kept = turned a.window (side_of c past x a.end.end) (side_of c past y g.end) (met x q a);
        };
    lives = subst (λ ns. Lived g.end ns) (sym told_new) m.lives;
    below = λ i e. absurd (unsent i (sent_then y i e));
    some = m.some;
    most = m.most;
    at = m.at_call;
    role = m.role;
    answers = m.answers;
    asked = λ e. m.by_request (unknown_not from (sym asked_new ∙ e));
    opens = λ r. ap opened_window told_new ∙ m.opens r;
    asks = λ p e who.
        held_put y (suc net.book.places) g.end.receiving.got g.end.sending.sent other g.outs p k.past (λ r o. AskOf g.end r o) m.asks (λ i w. absurd (not_past p i w)) e who;
  }

  old_asks : (z : Name) (j : Holder) → EndInv net k.past z j → (y ≡ z → ⊥) → (p : Past) → InPast p past → p.who ≡ z → AskOf j.end p.flight.out p.flight.number
  unfolding past
  old_asks z j o apart p e who = elim (in_put y (suc net.book.places) g.end.receiving.got g.end.sending.sent other g.outs p k.past e) [ inl i ↦ o.asks p i who | inr i ↦ absurd (apart (sym i.who ∙ who)) ]

  -- the end that has asked
  asker_alone : (x : Name) → from ≡ Some x → (P : Type 0) → partner c x ≡ None → P
  asker_alone x q P e = let bad : Some y ≡ None = sym (partner_asker x q) ∙ e in cc

  asker_paired : (x z : Name) (j : Holder) → from ≡ Some x → end_at net x ≡ Some j → partner c x ≡ Some z → CircuitOk after past x z j.end
  asker_paired x z j q e p =
      let a : AskedBy net x g.end = m.asked x q in
      let same : a.end ≡ j = same_holder a.end j (end_at net x) a.there e in
      let two : Some y ≡ Some z = sym (partner_asker x q) ∙ p in
      let is : y ≡ z = cc in
      subst (λ w. CircuitOk after past x w j.end) is
      (record { end = to; there = end_here; window = a.window; fits = a.fits; kept = subst (λ (i : Holder). PairOk a.window (side_of c past x i.end) (side_of c past y g.end)) same (met x q a) })

  -- an end that has nothing to do with it
  far_alone : (z : Name) (j : Holder) → EndInv net k.past z j → (y ≡ z → ⊥) → (from ≡ Some z → ⊥) → partner c z ≡ None → AloneOk c past z j.end
  far_alone z j o apart far e =
      let a : AloneOk net.book k.past z j.end = o.alone (sym (partner_other z apart far) ∙ e) in
      record {
        none_heard = heard_is z ∙ a.none_heard;
        window = a.window;
        fits = a.fits;
        kept = λ w fits. subst (λ i. PairOk w i (nobody w)) (sym (side_other z j.end apart)) (a.kept w fits);
      }

  far_paired : (z v : Name) (j : Holder) → EndInv net k.past z j → (y ≡ z → ⊥) → (from ≡ Some z → ⊥) → partner c z ≡ Some v → CircuitOk after past z v j.end
  far_paired z v j o apart far e =
      let old : partner net.book z ≡ Some v = sym (partner_other z apart far) ∙ e in
      let q : CircuitOk net k.past z v j.end = o.paired v old in
      let beyond : y ≡ v → ⊥ = λ same. let back : partner net.book v ≡ Some z = (k.pairs z v old).back in noted_not ⊥ (subst (λ w. has_note net.book.made w ≡ true) (sym same) (k.pairs v z back).mine) in
      record {
        end = q.end;
        there = end_other v beyond ∙ q.there;
        window = q.window;
        fits = q.fits;
        kept = subst (λ w. PairOk q.window (side_of c past z j.end) w) (sym (side_other v q.end.end beyond))
            (subst (λ w. PairOk q.window w (side_of net.book k.past v q.end.end)) (sym (side_other z j.end apart)) q.kept);
      }

  record Apart (z : Name) (j : Holder) : Type 0 where
    alone : partner c z ≡ None → AloneOk c past z j.end
    paired : (v : Name) → partner c z ≡ Some v → CircuitOk after past z v j.end

  apart_at : (z : Name) (j : Holder) → end_at net z ≡ Some j → EndInv net k.past z j → (y ≡ z → ⊥) → (x : Name) → from ≡ Some x → (x ≡ z) ⊎ (x ≡ z → ⊥) → Apart z j
  apart_at z j e o apart x q (inl same) =
      let mine : from ≡ Some z = q ∙ ap (λ w. Some w) same in
      record { alone = λ p. asker_alone z mine (AloneOk c past z j.end) p; paired = λ v p. asker_paired z v j mine e p }
  apart_at z j e o apart x q (inr far) =
      let beyond : from ≡ Some z → ⊥ = λ r. far (let two : Some x ≡ Some z = sym q ∙ r in cc) in
      record { alone = far_alone z j o apart beyond; paired = λ v p. far_paired z v j o apart beyond p }

  apart_of : (z : Name) (j : Holder) → end_at net z ≡ Some j → EndInv net k.past z j → (y ≡ z → ⊥) → (o2 : Option Name) → from ≡ o2 → Apart z j
  apart_of z j e o apart None q =
      let far : from ≡ Some z → ⊥ = λ r. let bad : None ≡ Some z = sym q ∙ r in cc in
      record { alone = far_alone z j o apart far; paired = λ v p. far_paired z v j o apart far p }
  apart_of z j e o apart (Some x) q = apart_at z j e o apart x q (same_or x z)

  inv_other : (z : Name) (j : Holder) → end_at net z ≡ Some j → (y ≡ z → ⊥) → EndInv after past z j
  inv_other z j e apart =
      let o : EndInv net k.past z j = k.ends z j e in
      let r : Apart z j = apart_of z j e o apart from refl in
      record {
        number = o.number;
        note = note_other z apart ∙ o.note;
        alone = r.alone;
        paired = r.paired;
        lives = subst (λ ns. Lived j.end ns) (sym (told_other z apart)) o.lives;
        below = λ i q. o.below i (sent_then z i q);
        some = o.some;
        most = o.most;
        at = o.at;
        role = o.role;
        answers = o.answers;
        asked = λ e. o.asked (sym (asked_other z apart) ∙ e);
        opens = λ r. ap opened_window (told_other z apart) ∙ o.opens r;
        asks = old_asks z j o apart;
      }

  inv_case : (z : Name) (j : Holder) → end_at after z ≡ Some j → (y ≡ z) ⊎ (y ≡ z → ⊥) → EndInv after past z j
  inv_case z j e (inl same) =
      let there_y : end_at after y ≡ Some j = subst (λ w. end_at after w ≡ Some j) (sym same) e in
      let is : to ≡ j = same_holder to j (end_at after y) end_here there_y in
      subst (λ w. EndInv after past w j) same (subst (λ i. EndInv after past y i) is inv_new)
  inv_case z j e (inr apart) = inv_other z j (sym (end_other z apart) ∙ e) apart

  -- ---- partners ----
  asker_unheard : (x : Name) → from ≡ Some x → heard_of x c.heard ≡ []
  asker_unheard x q = let a : AskedBy net x g.end = m.asked x q in heard_is x ∙ ((k.ends x a.end a.there).alone a.alone).none_heard

  no_elem : (P : Type 0) (i : ℕ) (xs : List ℕ) → xs ≡ [] → Elem i xs → P
  no_elem P i xs e h = absurd (subst (λ ys. Elem i ys) e h)

  asker_noted : (x : Name) → from ≡ Some x → has_note c.made x ≡ true
  asker_noted x q = let a : AskedBy net x g.end = m.asked x q in note_other x (not_from x q) ∙ (k.ends x a.end a.there).note

  pair_far : (z v : Name) → partner c z ≡ Some v → (y ≡ z → ⊥) → (from ≡ Some z → ⊥) → PairInv after z v
  pair_far z v e apart far =
      let old : partner net.book z ≡ Some v = sym (partner_other z apart far) ∙ e in
      let o : PairInv net z v = k.pairs z v old in
      let beyond : y ≡ v → ⊥ = λ same. noted_not ⊥ (subst (λ w. has_note net.book.made w ≡ true) (sym same) (k.pairs v z o.back).mine) in
      let farther : from ≡ Some v → ⊥ = λ q. let a : AskedBy net v g.end = m.asked v q in let bad : None ≡ Some z = sym a.alone ∙ o.back in cc in
      record {
        mine = note_other z apart ∙ o.mine;
        back = partner_other v beyond farther ∙ o.back;
        apart = o.apart;
        heard = λ i h. sent_still v i (o.heard i (subst (λ xs. Elem i xs) (heard_is z) h));
      }

  pair_new : (v : Name) → partner c y ≡ Some v → PairInv after y v
  pair_new v e =
      let q : from ≡ Some v = sym partner_new ∙ e in
      record {
        mine = note_new;
        back = partner_asker v q;
        apart = not_from v q;
        heard = λ i h. no_elem (has v i c.sent ≡ true) i (heard_of y c.heard) unheard h;
      }

  pair_asker : (x v : Name) → from ≡ Some x → partner c x ≡ Some v → PairInv after x v
  pair_asker x v q e =
      let two : Some y ≡ Some v = sym (partner_asker x q) ∙ e in
      let is : y ≡ v = cc in
      record {
        mine = asker_noted x q;
        back = subst (λ w. partner c w ≡ Some x) is (partner_new ∙ q);
        apart = λ same. not_from x q (is ∙ sym same);
        heard = λ i h. no_elem (has v i c.sent ≡ true) i (heard_of x c.heard) (asker_unheard x q) h;
      }

  pair_at : (z v : Name) → partner c z ≡ Some v → (y ≡ z → ⊥) → (x : Name) → from ≡ Some x → (x ≡ z) ⊎ (x ≡ z → ⊥) → PairInv after z v
  pair_at z v e apart x q (inl same) = pair_asker z v (q ∙ ap (λ w. Some w) same) e
  pair_at z v e apart x q (inr far) = pair_far z v e apart (λ r. far (let two : Some x ≡ Some z = sym q ∙ r in cc))

  pair_case : (z v : Name) → partner c z ≡ Some v → (y ≡ z) ⊎ (y ≡ z → ⊥) → (o : Option Name) → from ≡ o → PairInv after z v
  pair_case z v e (inl same) o q = subst (λ w. PairInv after w v) same (pair_new v (subst (λ w. partner c w ≡ Some v) (sym same) e))
  pair_case z v e (inr apart) None q = pair_far z v e apart (λ r. let bad : None ≡ Some z = sym q ∙ r in cc)
  pair_case z v e (inr apart) (Some x) q = pair_at z v e apart x q (same_or x z)

  -- ---- all together ----
  owner_so : (p : Past) → InPast p past → (has_note c.made p.who ≡ true) ⊎ (p.who.id ≡ 0)
  unfolding past
  owner_so p e = elim (in_put y (suc net.book.places) g.end.receiving.got g.end.sending.sent other g.outs p k.past e) [
    | inl i ↦ elim (k.owners p i) [ inl o ↦ inl (note_other p.who (λ w. not_past p i (sym w)) ∙ o) | inr o ↦ inr o ]
    | inr i ↦ inl (subst (λ w. has_note c.made w ≡ true) (sym i.who) note_new)
  ]

  hearer_so : (z : Name) → has_note c.made z ≡ false → heard_of z c.heard ≡ []
  hearer_so z e =
      let apart : y ≡ z → ⊥ = λ same. let bad : true ≡ false = sym note_new ∙ subst (λ w. has_note c.made w ≡ false) (sym same) e in cc in
      heard_is z ∙ k.hearers z (sym (note_other z apart) ∙ e)

  made_so : (z : Name) → has_note c.made z ≡ true → (y ≡ z) ⊎ (y ≡ z → ⊥) → (j : Holder) × (end_at after z ≡ Some j)
  made_so z e (inl same) = (to, subst (λ w. end_at after w ≡ Some to) same end_here)
  made_so z e (inr apart) = let old : (j : Holder) × (end_at net z ≡ Some j) = k.made z (sym (note_other z apart) ∙ e) in (old.0, end_other z apart ∙ old.1)

  sender_so : (z : Name) (i : ℕ) → has z i c.sent ≡ true → (y ≡ z) ⊎ (y ≡ z → ⊥) → has_note c.made z ≡ true
  sender_so z i e (inl same) = subst (λ w. has_note c.made w ≡ true) same note_new
  sender_so z i e (inr apart) = note_other z apart ∙ k.senders z i (sent_then z i e)

  one_case : (j : Holder) → InEnds j s.ends ⊎ (j ≡ to) → end_of j.id (s.ends ++ to ∷ []) ≡ Some j
  one_case j (inl e) = end_kept j.id to j s.ends (set_so.one j e)
  one_case j (inr e) =
      subst (λ i. end_of i.id (s.ends ++ to ∷ []) ≡ Some i) (sym e)
      (end_new s.number to s.ends (set_so.fresh s.number (omega arith)) ∙ ap (λ b. if b then Some to else None) (let q : nat_eq s.number s.number ≡ true = grind (arith, nat_tests) in q))

  set_inv : SetInv t
  set_inv = record {
    own = set_so.own;
    user = set_so.user;
    some = set_so.some;
    most = set_so.most;
    number = omega arith;
    one = λ j e. one_case j (in_pushed j to s.ends e);
    zero = old_case 0 None set_so.zero (λ e. let l : 1 ≤ s.number = set_so.number in absurd (omega arith));
    fresh = λ id l. old_case id None (set_so.fresh id (omega arith)) (λ e. absurd (omega arith));
  }

  sets_so : (i : ℕ) (u : SetState) → slice_get (slice_set net.sets n t) i ≡ Some u → (b : Bool) → nat_eq i n ≡ b → SetInv u
  sets_so i u e true q =
      let same : i ≡ n = grind (arith, nat_tests) in
      let is : Some t ≡ Some u = sym (set_same net.sets n s t here) ∙ subst (λ w. slice_get (slice_set net.sets n t) w ≡ Some u) same e in
      let two : t ≡ u = cc in
      subst SetInv two set_inv
  sets_so i u e false q = let apart : i ≢ n = grind (arith, nat_tests) in k.sets i u (sym (set_other net.sets n i t apart) ∙ e)

  pub made : Kept after
  made = record {
    past = past;
    noted = past_noted;
    placed = placed_so;
    tops = tops_so;
    senders = λ z i e. sender_so z i e (same_or y z);
    owners = owner_so;
    hearers = hearer_so;
    made = λ z e. made_so z e (same_or y z);
    ends = λ z j e. inv_case z j e (same_or y z);
    pairs = λ z v e. pair_case z v e (same_or y z) from refl;
    sets = λ i u e. sets_so i u e (nat_eq i n) refl;
  }
