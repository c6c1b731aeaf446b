-- A step of one end keeps what is kept of the run.
use Rattle.std.specs.Prelude.{◌≡◌, ◌≢◌, ℕ, ◌≤◌, ◌<◌, ◌⊎◌, Bool, true, false, nat_eq, List, [], ◌∷◌, ◌++◌, slice_get, slice_set, Option, Some, None, refl}
use Rattle.std.proofs.Common.{sym, ◌∙◌, ap, subst, inl, inr, arith}
use Rattle.std.proofs.lemmas.Bool.Decides.{nat_tests}
use Rattle.circuit_l4.specs.declared.transport.Transport.{Transport}
use Rattle.circuit_l4.specs.declared.transport.Transport.TheVariants.{Request, Accept, Refuse, Disconnect, Disconnected, Info, InfoAck}
use Rattle.circuit_l4.specs.declared.config.EndConfig.{EndConfig}
use Rattle.circuit_l4.specs.declared.notice.EndNotice.{EndNotice}
use Rattle.circuit_l4.specs.declared.role.Role.TheVariants.{Responder}
use Rattle.circuit_l4.specs.State.{Effect, Out, State}
use Rattle.circuit_l4.specs.Table.{common_window}
use Rattle.circuit_set.specs.Lines.{Elem}
use Rattle.circuit_set.specs.Circuits.{Facts, Flight, PairOk, Side, now_at, tag_on}
use Rattle.circuit_table.specs.Events.{Name, same_name}
use Rattle.circuit_set.specs.NotedRuns.{Net, end_at, opened_window, told_to}
use Rattle.circuit_table.specs.Sets.{Holder, SetState, datagram_to, end_of, with_end}
use Rattle.circuit_set.specs.Books.{was_asked, Book, has, partner, partner_in}
use Rattle.circuit_table.specs.Runs.{end_in}
use Rattle.circuit_set.proofs.Bridge.{TopAt, heard_of, name_itself, same_names}
use Rattle.circuit_set.proofs.Pasts.{AllOf, AllSpelled, InPast, IsNew, Noted, Numbered, Past, flights_of, flights_other, flights_same, after_outs, has_kept, held_put, has_put, in_put, noted_put, put_past, put_sents, outs_rise, tops_kept}
use Rattle.circuit_set.proofs.Asks.{AskOf, Asks}
use Rattle.circuit_set.proofs.Lonely.{nobody}
use Rattle.circuit_set.proofs.Lookups.{window_stays, has_note, set_other, set_same}
use Rattle.circuit_set.proofs.Lookups as lookups
use Rattle.circuit_set.proofs.Noting.{BookAfter, all_noticed, end_at_other, end_at_same, none_noticed, same_askeds, same_notes, same_partners, with_notices}
use Rattle.circuit_set.proofs.Whole.{turned}
use Rattle.circuit_set.proofs.Written.{OutFacts, RoleSpeaks, all_spelled, new_outs, numbered}
use Rattle.circuit_set.proofs.Invariant.{AloneOk, CircuitOk, EndInv, FitsIn, Kept, Lived, Move, PairInv, SetInv, Tops, side_of}

abbrev pub sent_in : Option Holder → ℕ
sent_in None = 0
sent_in (Some k) = k.end.sending.sent

-- how many fragments the partner has sent
abbrev pub sent_by : Net → Option Name → ℕ
sent_by net None = 0
sent_by net (Some y) = sent_in (end_at net y)

pub side_is : (e : State) (o p : List Flight) (h i : List ℕ) (n m : List EndNotice) → o ≡ p → h ≡ i → n ≡ m
    → (let s : Side = record { e = e; outs = o; heard = h; notes = n } in s) ≡ record { e = e; outs = p; heard = i; notes = m }
side_is e o p h i n m a b c = rw (a, b, c) refl

apart_by : (x z : Name) → same_name x z ≡ false → x ≡ z → ⊥
apart_by x z t e = let u : same_name x z ≡ true = subst (λ k. same_name x k ≡ true) e (name_itself x) in let v : true ≡ false = sym u ∙ t in cc

same_or_case : (x z : Name) (b : Bool) → same_name x z ≡ b → (x ≡ z) ⊎ (x ≡ z → ⊥)
same_or_case x z true t = inl (same_names x z t)
same_or_case x z false t = inr (apart_by x z t)

pub same_or : (x z : Name) → (x ≡ z) ⊎ (x ≡ z → ⊥)
same_or x z = same_or_case x z (same_name x z) refl

-- a request of the same end
ask_by : (s t : State) (r : Transport) (o : Option ℕ) → t.role ≡ s.role → t.config ≡ s.config → t.pair ≡ s.pair → AskOf s r o → AskOf t r o
ask_by s t (Info to tx rx flags text) o e f p a = a
ask_by s t (Request pair window user node) o e f p a = (e ∙ a.0, a.1 ∙ sym (ap (λ (k : EndConfig). k.window) f), a.2, a.3 ∙ sym p)
ask_by s t (InfoAck to rx flags) o e f p a = a
ask_by s t (Accept to own window) o e f p a = (a.0 ∙ sym p, a.1)
ask_by s t (Disconnect to) o e f p a = a
ask_by s t (Disconnected to) o e f p a = a
ask_by s t (Refuse to) o e f p a = a

-- the net after the step
module _ (net : Net) (k : Kept net) (n : ℕ) (s : SetState) (h : Holder) (g : Effect) (b : Book) (c : Book) (over : Bool) (here : slice_get net.sets n ≡ Some s) (there : end_of h.id s.ends ≡ Some h)
    (m : Move net k.past (record { node = n; id = h.id }) h g b) (noted_so : BookAfter (record { node = n; id = h.id }) (datagram_to s h.at) g.outs g.notes b c) where
  abbrev x : Name
  x = record { node = n; id = h.id }

  abbrev f : Transport → List ℕ
  f = datagram_to s h.at

  abbrev to : Holder
  to = record h { end = g.end; gone = over }

  abbrev t : SetState
  t = record s { ends = with_end to s.ends }

  abbrev after : Net
  after = record { sets = slice_set net.sets n t; book = c }

  other : ℕ
  other = sent_by net (partner net.book x)

  past : List Past
  unfolding other
  past = put_past x b.places g.end.receiving.got g.end.sending.sent other g.outs k.past

  sent_is : c.sent ≡ put_sents x b.places f g.outs net.book.sent
  sent_is = noted_so.sent ∙ ap (λ ss. put_sents x b.places f g.outs ss) m.sent

  made_is : c.made ≡ with_notices x g.notes net.book.made
  made_is = noted_so.made ∙ ap (λ ms. with_notices x g.notes ms) m.made

  partner_is : (z : Name) → partner c z ≡ partner net.book z
  partner_is z = ap (λ ms. partner_in ms z) made_is ∙ same_partners x z g.notes net.book.made

  asked_is : (z : Name) → was_asked c.made z ≡ was_asked net.book.made z
  asked_is z = ap (λ ms. was_asked ms z) made_is ∙ same_askeds x z g.notes net.book.made

  old_inv : EndInv net k.past x h
  old_inv = k.ends x h (ap (λ o. end_in o h.id) here ∙ there)

  end_here : end_at after x ≡ Some to
  end_here = end_at_same net.sets c n s t to h here refl there

  end_other : (z : Name) → (x ≡ z → ⊥) → end_at after z ≡ end_at net z
  end_other z apart = end_at_other net.sets net.book c n s t to z here refl apart

  -- the window of an end that a request has opened stays
  window_kept : (o : Option Name) → partner net.book x ≡ o → g.end.role ≡ Responder → g.end.window ≡ h.end.window
  window_kept None e r =
      let a : AloneOk net.book k.past x h.end = old_inv.alone e in
      let p : PairOk a.window (now_at (side_of net.book k.past x h.end) (nobody a.window) g (heard_of x b.heard)) (nobody a.window) = (m.alone e).1 a.window a.fits in
      p.end_mine.answers r ∙ sym (a.fits.is (sym m.role ∙ r))
  window_kept (Some y) e r =
      let q : CircuitOk net k.past x y h.end = old_inv.paired y e in
      let p : PairOk q.window (now_at (side_of net.book k.past x h.end) (side_of net.book k.past y q.end.end) g (heard_of x b.heard)) (side_of net.book k.past y q.end.end) = m.paired y e q in
      p.end_mine.answers r ∙ sym (q.kept.end_mine.answers (sym m.role ∙ r))

  -- the side of the end that stepped
  side_here : (o : Side) → other ≡ o.e.sending.sent → side_of c past x g.end ≡ now_at (side_of net.book k.past x h.end) o g (heard_of x b.heard)
  unfolding past
  side_here o e =
      side_is g.end (flights_of x past) (tag_on g.end.receiving.got g.end.sending.sent o.e.sending.sent g.outs (flights_of x k.past)) (heard_of x c.heard) (heard_of x b.heard) (told_to c.made x) (told_to net.book.made x ++ g.notes)
      (flights_same x b.places g.end.receiving.got g.end.sending.sent other g.outs k.past ∙ ap (λ i. tag_on g.end.receiving.got g.end.sending.sent i g.outs (flights_of x k.past)) e)
      (ap (λ hs. heard_of x hs) noted_so.heard)
      (ap (λ ms. told_to ms x) made_is ∙ all_noticed x g.notes net.book.made old_inv.note)

  -- the side of any other end
  side_other : (z : Name) (e : State) → (x ≡ z → ⊥) → side_of c past z e ≡ side_of net.book k.past z e
  unfolding past
  side_other z e apart =
      side_is e (flights_of z past) (flights_of z k.past) (heard_of z c.heard) (heard_of z net.book.heard) (told_to c.made z) (told_to net.book.made z)
      (flights_other x z b.places g.end.receiving.got g.end.sending.sent other g.outs k.past apart)
      (ap (λ hs. heard_of z hs) noted_so.heard ∙ m.heard_other z apart)
      (ap (λ ms. told_to ms z) made_is ∙ none_noticed x z g.notes net.book.made apart)

  -- ---- the circuit of the end that stepped ----
  other_none : partner net.book x ≡ None → other ≡ 0
  unfolding other
  other_none e = ap (λ o. sent_by net o) e

  other_some : (y : Name) → partner net.book x ≡ Some y → (q : CircuitOk net k.past x y h.end) → other ≡ q.end.end.sending.sent
  unfolding other
  other_some y e q = ap (λ o. sent_by net o) e ∙ ap (λ o. sent_in o) q.there

  alone_here : (w : ℕ) → partner net.book x ≡ None → FitsIn h.end w → PairOk w (side_of c past x g.end) (nobody w)
  alone_here w e fits = subst (λ z. PairOk w z (nobody w)) (sym (side_here (nobody w) (other_none e))) ((m.alone e).1 w fits)

  paired_here : (y : Name) → partner net.book x ≡ Some y → (q : CircuitOk net k.past x y h.end) → (x ≡ y → ⊥) → PairOk q.window (side_of c past x g.end) (side_of c past y q.end.end)
  paired_here y e q apart =
      subst (λ z. PairOk q.window (side_of c past x g.end) z) (sym (side_other y q.end.end apart))
      (subst (λ z. PairOk q.window z (side_of net.book k.past y q.end.end)) (sym (side_here (side_of net.book k.past y q.end.end) (other_some y e q))) (m.paired y e q))

  -- ---- what was put out ----
  outs_here : (w : ℕ) (o : Side) → PairOk w (side_of c past x g.end) o → OutFacts w (side_of c past x g.end) o g.end.receiving.got g.end.sending.sent other g.outs
  unfolding past
  outs_here w o p =
      (new_outs w (side_of c past x g.end) o g.end.receiving.got g.end.sending.sent other g.outs (flights_of x k.past)
      (subst (λ fs. Facts w (side_of c past x g.end) o fs) (flights_same x b.places g.end.receiving.got g.end.sending.sent other g.outs k.past) p.mine)).0

  role_here : RoleSpeaks g.end.role
  role_here = subst RoleSpeaks (sym m.role) old_inv.role

  record Puts : Type 0 where
    numbers : Numbered (λ i. i < g.end.sending.sent) g.outs
    spelled : AllSpelled f g.outs

  puts_by : (w : ℕ) (o : Side) → PairOk w (side_of c past x g.end) o → Puts
  puts_by w o p = record {
    numbers = numbered w (side_of c past x g.end) o g.end.receiving.got g.end.sending.sent other g.outs h.end (outs_here w o p) m.asks;
    spelled = all_spelled w (side_of c past x g.end) o g.end.receiving.got g.end.sending.sent other g.outs h.end s h.at (outs_here w o p) m.asks old_inv.role (k.sets n s here).own old_inv.at;
  }

  puts_case : (o : Option Name) → partner net.book x ≡ o → Puts
  puts_case None e = let a : AloneOk net.book k.past x h.end = old_inv.alone e in puts_by a.window (nobody a.window) (alone_here a.window e a.fits)
  puts_case (Some y) e =
      let q : CircuitOk net k.past x y h.end = old_inv.paired y e in puts_by q.window (side_of c past y q.end.end) (paired_here y e q (k.pairs x y e).apart)

  puts : Puts
  puts = puts_case (partner net.book x) refl

  past_noted : Noted past c.sent
  unfolding past
  past_noted = subst (λ ss. Noted past ss) (sym sent_is) (noted_put x b.places g.end.receiving.got g.end.sending.sent other f g.outs k.past net.book.sent k.noted puts.spelled)

  -- ---- the ends ----
  note_is : (z : Name) → has_note c.made z ≡ has_note net.book.made z
  note_is z = ap (λ ms. has_note ms z) made_is ∙ same_notes x z g.notes net.book.made

  sent_then : (z : Name) (i : ℕ) → has z i c.sent ≡ true → (has z i net.book.sent ≡ true) ⊎ ((x ≡ z) × (i < g.end.sending.sent))
  sent_then z i e = has_put x z b.places i f g.outs net.book.sent (λ j. j < g.end.sending.sent) puts.numbers (ap (λ ss. has z i ss) (sym sent_is) ∙ e)

  sent_still : (z : Name) (i : ℕ) → has z i net.book.sent ≡ true → has z i c.sent ≡ true
  sent_still z i e = ap (λ ss. has z i ss) sent_is ∙ has_kept x z b.places i f g.outs net.book.sent e

  below_here : (i : ℕ) → has x i c.sent ≡ true → i < g.end.sending.sent
  below_here i e =
      let more : h.end.sending.sent ≤ g.end.sending.sent = m.sent_grows in
      elim (sent_then x i e) [ inl o ↦ (let l : i < h.end.sending.sent = old_inv.below i o in omega arith) | inr o ↦ o.1 ]

  fits_back : (w v : ℕ) → PairOk v (side_of c past x g.end) (nobody v) → FitsIn h.end v → FitsIn g.end w → FitsIn h.end w
  fits_back w v p old new = record {
    some = new.some;
    own = ap (λ (k : EndConfig). common_window k.window w) (sym m.config) ∙ new.own;
    is = λ r. old.is r ∙ sym (p.end_mine.answers (m.role ∙ r)) ∙ new.is (m.role ∙ r);
  }

  alone_inv : partner c x ≡ None → AloneOk c past x g.end
  alone_inv e =
      let none : partner net.book x ≡ None = sym (partner_is x) ∙ e in
      let a : AloneOk net.book k.past x h.end = old_inv.alone none in
      let p : PairOk a.window (side_of c past x g.end) (nobody a.window) = alone_here a.window none a.fits in
      record {
        none_heard = ap (λ hs. heard_of x hs) noted_so.heard ∙ (m.alone none).0;
        window = a.window;
        fits = record { some = a.fits.some; own = ap (λ (k : EndConfig). common_window k.window a.window) m.config ∙ a.fits.own; is = λ r. p.end_mine.answers r };
        kept = λ w fits. alone_here w none (fits_back w a.window p a.fits fits);
      }

  paired_inv : (y : Name) → partner c x ≡ Some y → CircuitOk after past x y g.end
  paired_inv y e =
      let some : partner net.book x ≡ Some y = sym (partner_is x) ∙ e in
      let q : CircuitOk net k.past x y h.end = old_inv.paired y some in
      let apart : x ≡ y → ⊥ = (k.pairs x y some).apart in
      record { end = q.end; there = end_other y apart ∙ q.there; window = q.window; fits = q.fits; kept = paired_here y some q apart }

  ask_same : (r : Transport) (o : Option ℕ) → AskOf h.end r o → AskOf g.end r o
  ask_same r o a = ask_by h.end g.end r o m.role m.config m.pair a

  all_asked : (os : List Out) → Asks h.end os → AllOf (λ r o. AskOf g.end r o) os
  all_asked [] a = tt
  all_asked (o ∷ os) a = (ask_same o.0 o.1 a.0, all_asked os a.1)

  inv_here : EndInv after past x to
  unfolding past
  inv_here = record {
    number = refl;
    note = note_is x ∙ old_inv.note;
    alone = alone_inv;
    paired = paired_inv;
    lives = subst (λ ns. Lived g.end ns) (sym (ap (λ ms. told_to ms x) made_is ∙ all_noticed x g.notes net.book.made old_inv.note)) m.lives;
    below = below_here;
    some = let a : 1 ≤ h.end.config.window = old_inv.some in let e : g.end.config.window ≡ h.end.config.window = ap (λ (k : EndConfig). k.window) m.config in omega arith;
    most = let a : h.end.config.window ≤ 127 = old_inv.most in let e : g.end.config.window ≡ h.end.config.window = ap (λ (k : EndConfig). k.window) m.config in omega arith;
    at = old_inv.at;
    role = role_here;
    answers = λ p e. m.role ∙ old_inv.answers p e;
    asked = λ e. m.role ∙ old_inv.asked (sym (asked_is x) ∙ e);
    opens = λ r.
        ap (λ ms. opened_window (told_to ms x)) made_is ∙ ap opened_window (all_noticed x g.notes net.book.made old_inv.note)
        ∙ window_stays (told_to net.book.made x) g.notes h.end.window (old_inv.opens (sym m.role ∙ r)) ∙ ap (λ w. Some w) (sym (window_kept (partner net.book x) refl r));
    asks = λ p e who.
        held_put x b.places g.end.receiving.got g.end.sending.sent other g.outs p k.past (λ r o. AskOf g.end r o) (all_asked g.outs m.asks)
        (λ i w. ask_same p.flight.out p.flight.number (old_inv.asks p i w)) e who;
  }

  -- ---- the other ends ----
  same_holder : (i j : Holder) (o : Option Holder) → o ≡ Some i → o ≡ Some j → i ≡ j
  same_holder i j o e q = let two : Some i ≡ Some j = sym e ∙ q in cc

  here_is : end_at net x ≡ Some h
  here_is = ap (λ o. end_in o h.id) here ∙ there

  -- the circuit of an end whose partner stepped
  partner_stepped : (z : Name) (j : Holder) → end_at net z ≡ Some j → partner net.book z ≡ Some x → (x ≡ z → ⊥) → CircuitOk after past z x j.end
  partner_stepped z j e q apart =
      let back : partner net.book x ≡ Some z = (k.pairs z x q).back in
      let r : CircuitOk net k.past x z h.end = old_inv.paired z back in
      let same : r.end ≡ j = same_holder r.end j (end_at net z) r.there e in
      let p : PairOk r.window (side_of c past x g.end) (side_of c past z r.end.end) = paired_here z back r apart in
      record {
        end = to;
        there = end_here;
        window = r.window;
        fits = r.fits;
        kept = subst (λ (i : Holder). PairOk r.window (side_of c past z i.end) (side_of c past x g.end)) same (turned r.window (side_of c past x g.end) (side_of c past z r.end.end) p);
      }

  -- of one whose partner didn't
  others : (z y : Name) (j : Holder) → CircuitOk net k.past z y j.end → (x ≡ z → ⊥) → (x ≡ y → ⊥) → CircuitOk after past z y j.end
  others z y j q apart far = record {
    end = q.end;
    there = end_other y far ∙ q.there;
    window = q.window;
    fits = q.fits;
    kept = subst (λ o. PairOk q.window (side_of c past z j.end) o) (sym (side_other y q.end.end far))
        (subst (λ o. PairOk q.window o (side_of net.book k.past y q.end.end)) (sym (side_other z j.end apart)) q.kept);
  }

  circuit_case : (z y : Name) (j : Holder) → end_at net z ≡ Some j → partner net.book z ≡ Some y → CircuitOk net k.past z y j.end → (x ≡ z → ⊥) → (x ≡ y) ⊎ (x ≡ y → ⊥) → CircuitOk after past z y j.end
  circuit_case z y j e q r apart (inl same) = subst (λ w. CircuitOk after past z w j.end) same (partner_stepped z j e (q ∙ ap (λ w. Some w) (sym same)) apart)
  circuit_case z y j e q r apart (inr far) = others z y j r apart far

  inv_other : (z : Name) (j : Holder) → end_at net z ≡ Some j → (x ≡ z → ⊥) → EndInv after past z j
  unfolding past
  inv_other z j e apart =
      let o : EndInv net k.past z j = k.ends z j e in
      record {
        number = o.number;
        note = note_is z ∙ o.note;
        alone = λ q.
            let a : AloneOk net.book k.past z j.end = o.alone (sym (partner_is z) ∙ q) in
            record {
              none_heard = ap (λ hs. heard_of z hs) noted_so.heard ∙ m.heard_other z apart ∙ a.none_heard;
              window = a.window;
              fits = a.fits;
              kept = λ w fits. subst (λ i. PairOk w i (nobody w)) (sym (side_other z j.end apart)) (a.kept w fits);
            };
        paired = λ y q. circuit_case z y j e (sym (partner_is z) ∙ q) (o.paired y (sym (partner_is z) ∙ q)) apart (same_or x y);
        lives = subst (λ ns. Lived j.end ns) (sym (ap (λ ms. told_to ms z) made_is ∙ none_noticed x z g.notes net.book.made apart)) o.lives;
        below = λ i q. elim (sent_then z i q) [ inl r ↦ o.below i r | inr r ↦ absurd (apart r.0) ];
        some = o.some;
        most = o.most;
        at = o.at;
        role = o.role;
        answers = o.answers;
        asked = λ e. o.asked (sym (asked_is z) ∙ e);
        opens = λ r. ap (λ ms. opened_window (told_to ms z)) made_is ∙ ap opened_window (none_noticed x z g.notes net.book.made apart) ∙ o.opens r;
        asks = λ p q who. elim (in_put x b.places g.end.receiving.got g.end.sending.sent other g.outs p k.past q) [ inl i ↦ o.asks p i who | inr i ↦ absurd (apart (sym i.who ∙ who)) ];
      }

  inv_case : (z : Name) (j : Holder) → end_at after z ≡ Some j → (x ≡ z) ⊎ (x ≡ z → ⊥) → EndInv after past z j
  inv_case z j e (inl same) =
      let there_x : end_at after x ≡ Some j = subst (λ w. end_at after w ≡ Some j) (sym same) e in
      let is : to ≡ j = same_holder to j (end_at after x) end_here there_x in
      subst (λ w. EndInv after past w j) same (subst (λ i. EndInv after past x i) is inv_here)
  inv_case z j e (inr apart) = inv_other z j (sym (end_other z apart) ∙ e) apart

  -- ---- what was put out before and now ----
  placed_so : (p : Past) → InPast p past → p.place < c.places
  unfolding past
  placed_so p e =
      let up : after_outs g.outs b.places ≤ c.places = noted_so.places in
      let first : b.places ≤ after_outs g.outs b.places = outs_rise g.outs b.places in
      let old : net.book.places ≤ b.places = m.places in
      elim (in_put x b.places g.end.receiving.got g.end.sending.sent other g.outs p k.past e) [
        | inl i ↦ (let l : p.place < net.book.places = k.placed p i in omega arith)
        | inr i ↦ (let l : p.place < after_outs g.outs b.places = i.under in omega arith)
      ]

  top_then : (z : Name) (i top : ℕ) → i < b.places → TopAt z i top net.book.sent → TopAt z i top c.sent
  top_then z i top l h = subst (λ ss. TopAt z i top ss) (sym sent_is) (tops_kept x z b.places i top f g.outs net.book.sent l h)

  tops_old : (p : Past) → InPast p k.past → Tops c p
  tops_old p i =
      let l : p.place < net.book.places = k.placed p i in
      let old : net.book.places ≤ b.places = m.places in
      record {
        own = top_then p.who p.place p.flight.own (omega arith) (k.tops p i).own;
        other = λ y e. top_then y p.place p.flight.other (omega arith) ((k.tops p i).other y (sym (partner_is p.who) ∙ e));
      }

  other_below : (y : Name) (q : CircuitOk net k.past x y h.end) → partner net.book x ≡ Some y → (i : ℕ) → has y i c.sent ≡ true → i < other
  other_below y q e i r =
      let same : other ≡ q.end.end.sending.sent = other_some y e q in
      elim (sent_then y i r) [ inl o ↦ (let l : i < q.end.end.sending.sent = (k.ends y q.end q.there).below i o in omega arith) | inr o ↦ absurd ((k.pairs x y e).apart o.0) ]

  tops_new : (p : Past) → IsNew x b.places (after_outs g.outs b.places) g.end.sending.sent other p → Tops c p
  tops_new p i = record {
    own = λ n r late. let l : n < g.end.sending.sent = below_here n (subst (λ w. has w n c.sent ≡ true) i.who r) in let e : p.flight.own ≡ g.end.sending.sent = i.own_is in omega arith;
    other = λ y q n r late.
        let some : partner net.book x ≡ Some y = sym (partner_is x) ∙ subst (λ w. partner c w ≡ Some y) i.who q in
        let l : n < other = other_below y (old_inv.paired y some) some n r in
        let e : p.flight.other ≡ other = i.other_is in
        omega arith;
  }

  tops_so : (p : Past) → InPast p past → Tops c p
  unfolding past
  tops_so p e = elim (in_put x b.places g.end.receiving.got g.end.sending.sent other g.outs p k.past e) [ inl i ↦ tops_old p i | inr i ↦ tops_new p i ]

  -- ---- all together ----
  heard_case : (y z : Name) → partner net.book y ≡ Some z → (x ≡ y) ⊎ (x ≡ y → ⊥) → (i : ℕ) → Elem i (heard_of y c.heard) → has z i c.sent ≡ true
  heard_case y z q (inl same) i e =
      let mine : partner net.book x ≡ Some z = subst (λ w. partner net.book w ≡ Some z) (sym same) q in
      let there_x : Elem i (heard_of x b.heard) = subst (λ w. Elem i (heard_of w b.heard)) (sym same) (subst (λ hs. Elem i (heard_of y hs)) noted_so.heard e) in
      sent_still z i (m.heard_sent z mine i there_x)
  heard_case y z q (inr apart) i e =
      let old : Elem i (heard_of y net.book.heard) = subst (λ xs. Elem i xs) (m.heard_other y apart) (subst (λ hs. Elem i (heard_of y hs)) noted_so.heard e) in
      sent_still z i ((k.pairs y z q).heard i old)

  pair_inv : (y z : Name) → partner c y ≡ Some z → PairInv after y z
  pair_inv y z q =
      let old : partner net.book y ≡ Some z = sym (partner_is y) ∙ q in
      record {
        mine = note_is y ∙ (k.pairs y z old).mine;
        back = partner_is z ∙ (k.pairs y z old).back;
        apart = (k.pairs y z old).apart;
        heard = λ i e. heard_case y z old (same_or x y) i e;
      }

  made_so : (z : Name) → has_note c.made z ≡ true → (x ≡ z) ⊎ (x ≡ z → ⊥) → (j : Holder) × (end_at after z ≡ Some j)
  made_so z e (inl same) = (to, subst (λ w. end_at after w ≡ Some to) same end_here)
  made_so z e (inr apart) = let old : (j : Holder) × (end_at net z ≡ Some j) = k.made z (sym (note_is z) ∙ e) in (old.0, end_other z apart ∙ old.1)

  one_case : (j : Holder) → (j ≡ to) ⊎ (lookups.InEnds j s.ends × (j.id ≡ h.id → ⊥)) → end_of j.id (with_end to s.ends) ≡ Some j
  one_case j (inl e) = subst (λ i. end_of i.id (with_end to s.ends) ≡ Some i) (sym e) (lookups.end_same to h s.ends there)
  one_case j (inr e) = lookups.end_other j.id to s.ends e.1 ∙ (k.sets n s here).one j e.0

  set_inv : SetInv t
  set_inv =
      let o : SetInv s = k.sets n s here in
      record {
        own = o.own;
        user = o.user;
        some = o.some;
        most = o.most;
        number = o.number;
        one = λ j e. one_case j (lookups.in_changed j to s.ends e);
        zero = lookups.end_other 0 to s.ends (λ e. let two : end_of h.id s.ends ≡ None = subst (λ i. end_of i s.ends ≡ None) e o.zero in let bad : Some h ≡ None = sym there ∙ two in cc) ∙ o.zero;
        fresh = λ id l. lookups.end_other id to s.ends (λ e. let two : end_of h.id s.ends ≡ None = subst (λ i. end_of i s.ends ≡ None) e (o.fresh id l) in let bad : Some h ≡ None = sym there ∙ two in cc) ∙ o.fresh id l;
      }

  sets_so : (i : ℕ) (u : SetState) → slice_get (slice_set net.sets n t) i ≡ Some u → (b2 : Bool) → nat_eq i n ≡ b2 → SetInv u
  sets_so i u e true q =
      let same : i ≡ n = grind (arith, nat_tests) in
      let is : Some t ≡ Some u = sym (set_same net.sets n s t here) ∙ subst (λ w. slice_get (slice_set net.sets n t) w ≡ Some u) same e in
      let two : t ≡ u = cc in
      subst SetInv two set_inv
  sets_so i u e false q = let apart : i ≢ n = grind (arith, nat_tests) in k.sets i u (sym (set_other net.sets n i t apart) ∙ e)

  owner_so : (p : Past) → InPast p past → (has_note c.made p.who ≡ true) ⊎ (p.who.id ≡ 0)
  unfolding past
  owner_so p e = elim (in_put x b.places g.end.receiving.got g.end.sending.sent other g.outs p k.past e) [
    | inl i ↦ elim (k.owners p i) [ inl o ↦ inl (note_is p.who ∙ o) | inr o ↦ inr o ]
    | inr i ↦ inl (subst (λ w. has_note c.made w ≡ true) (sym i.who) (note_is x ∙ old_inv.note))
  ]

  unnoted : (z : Name) → has_note net.book.made z ≡ false → x ≡ z → ⊥
  unnoted z e same = let t1 : has_note net.book.made z ≡ true = subst (λ w. has_note net.book.made w ≡ true) same old_inv.note in let bad : true ≡ false = sym t1 ∙ e in cc

  hearer_so : (z : Name) → has_note c.made z ≡ false → heard_of z c.heard ≡ []
  hearer_so z e =
      let old : has_note net.book.made z ≡ false = sym (note_is z) ∙ e in
      ap (λ hs. heard_of z hs) noted_so.heard ∙ m.heard_other z (unnoted z old) ∙ k.hearers z old

  pub moved : Kept after
  moved = record {
    past = past;
    noted = past_noted;
    placed = placed_so;
    tops = tops_so;
    owners = owner_so;
    hearers = hearer_so;
    senders = λ z i e. elim (sent_then z i e) [ inl o ↦ note_is z ∙ k.senders z i o | inr o ↦ subst (λ w. has_note c.made w ≡ true) o.0 (note_is x ∙ old_inv.note) ];
    made = λ z e. made_so z e (same_or x z);
    ends = λ z j e. inv_case z j e (same_or x z);
    pairs = pair_inv;
    sets = λ i u e. sets_so i u e (nat_eq i n) refl;
  }
