-- A refusal, which no end sends, changes no end and no circuit.
use Rattle.std.specs.Prelude.{◌≡◌, ℕ, suc, ◌<◌, ◌⊎◌, true, ◌||◌, if◌then◌else◌, List, ◌∷◌, slice_get, Some, None, refl}
use Rattle.std.proofs.Common.{sym, ◌∙◌, ap, subst, inl, inr, arith}
use Rattle.std.proofs.Math.Bool.{and-false}
use Rattle.circuit_l4.specs.declared.transport.Transport.{Transport}
use Rattle.circuit_l4.specs.State.{State}
use Rattle.circuit_set.specs.Circuits.{PairOk}
use Rattle.circuit_table.specs.Events.{Name, same_name}
use Rattle.circuit_set.specs.NotedRuns.{Net, end_at}
use Rattle.circuit_table.specs.Sets.{Holder, SetState}
use Rattle.circuit_set.specs.Books.{Book, SentNote, has, partner}
use Rattle.circuit_table.specs.Runs.{end_in}
use Rattle.circuit_set.proofs.Bridge.{TopAt, heard_of, top_kept}
use Rattle.circuit_set.proofs.Copies.{Spelled}
use Rattle.circuit_set.proofs.Lookups.{has_note, not_same}
use Rattle.circuit_set.proofs.Pasts.{InPast, Past, flights_of}
use Rattle.circuit_set.proofs.Lonely.{nobody}
use Rattle.circuit_set.proofs.Invariant.{AloneOk, CircuitOk, EndInv, Kept, PairInv, Tops, side_of}
use Rattle.circuit_set.proofs.Moved.{side_is}
use Rattle.circuit_set.proofs.Asks.{AskOf}

module _ (net : Net) (k : Kept net) (n : ℕ) (s : SetState) (t : Transport) (d : List ℕ) (here : slice_get net.sets n ≡ Some s) (spelled : Spelled d t) where
  abbrev x : Name
  x = record { node = n; id = 0 }

  abbrev note : SentNote
  note = record { who = x; place = net.book.places; number = None; datagram = d }

  abbrev c : Book
  c = record { places = suc net.book.places; made = net.book.made; sent = note ∷ net.book.sent; heard = net.book.heard }

  abbrev after : Net
  after = record { sets = net.sets; book = c }

  abbrev new : Past
  new = record { who = x; place = net.book.places; flight = record { out = t; number = None; upto = 0; own = 0; other = 0 } }

  abbrev past : List Past
  past = new ∷ k.past

  no_end : end_at net x ≡ None
  no_end = ap (λ o. end_in o 0) here ∙ (k.sets n s here).zero

  noted_not : (P : Type 0) → has_note net.book.made x ≡ true → P
  noted_not P e = let h = k.made x e in let bad : Some h.0 ≡ None = sym h.1 ∙ no_end in cc

  sent_is : (z : Name) (i : ℕ) → has z i c.sent ≡ has z i net.book.sent
  sent_is z i = ap (λ b. b || has z i net.book.sent) (and-false (same_name x z))

  not_end : (z : Name) (j : Holder) → end_at net z ≡ Some j → x ≡ z → ⊥
  not_end z j e same = let bad : Some j ≡ None = sym e ∙ subst (λ w. end_at net w ≡ None) same no_end in cc

  side_same : (z : Name) (e : State) → (x ≡ z → ⊥) → side_of c past z e ≡ side_of net.book k.past z e
  side_same z e apart =
      side_is e (flights_of z past) (flights_of z k.past) (heard_of z c.heard) (heard_of z net.book.heard) _ _ (ap (λ b. if b then new.flight ∷ flights_of z k.past else flights_of z k.past) (not_same x z apart)) refl refl

  alone_so : (z : Name) (j : Holder) → end_at net z ≡ Some j → AloneOk net.book k.past z j.end → AloneOk c past z j.end
  alone_so z j e a = record {
    none_heard = a.none_heard;
    window = a.window;
    fits = a.fits;
    kept = λ w fits. subst (λ i. PairOk w i (nobody w)) (sym (side_same z j.end (not_end z j e))) (a.kept w fits);
  }

  paired_so : (z v : Name) (j : Holder) → end_at net z ≡ Some j → CircuitOk net k.past z v j.end → CircuitOk after past z v j.end
  paired_so z v j e q = record {
    end = q.end;
    there = q.there;
    window = q.window;
    fits = q.fits;
    kept = subst (λ w. PairOk q.window (side_of c past z j.end) w) (sym (side_same v q.end.end (not_end v q.end q.there)))
        (subst (λ w. PairOk q.window w (side_of net.book k.past v q.end.end)) (sym (side_same z j.end (not_end z j e))) q.kept);
  }

  asks_so : (z : Name) (j : Holder) → end_at net z ≡ Some j → EndInv net k.past z j → (p : Past) → InPast p past → p.who ≡ z → AskOf j.end p.flight.out p.flight.number
  asks_so z j e o p (inl i) who = absurd (not_end z j e (sym (ap (λ (q : Past). q.who) i) ∙ who))
  asks_so z j e o p (inr i) who = o.asks p i who

  inv_so : (z : Name) (j : Holder) → end_at net z ≡ Some j → EndInv after past z j
  inv_so z j e =
      let o : EndInv net k.past z j = k.ends z j e in
      record {
        number = o.number;
        note = o.note;
        alone = λ q. alone_so z j e (o.alone q);
        paired = λ v q. paired_so z v j e (o.paired v q);
        lives = o.lives;
        below = λ i q. o.below i (sym (sent_is z i) ∙ q);
        some = o.some;
        most = o.most;
        at = o.at;
        role = o.role;
        answers = o.answers;
        asked = o.asked;
        opens = o.opens;
        asks = asks_so z j e o;
      }

  placed_so : (p : Past) → InPast p past → p.place < c.places
  placed_so p (inl i) = let e : p.place ≡ net.book.places = ap (λ (q : Past). q.place) i in omega arith
  placed_so p (inr i) = let l : p.place < net.book.places = k.placed p i in omega arith

  unsent : (z : Name) (i : ℕ) → x ≡ z → has z i c.sent ≡ true → ⊥
  unsent z i same e = noted_not ⊥ (subst (λ w. has_note net.book.made w ≡ true) (sym same) (k.senders z i (sym (sent_is z i) ∙ e)))

  no_partner : (P : Type 0) (z v : Name) → x ≡ z → partner net.book z ≡ Some v → P
  no_partner P z v same e = noted_not P (subst (λ w. has_note net.book.made w ≡ true) (sym same) (k.pairs z v e).mine)

  tops_so : (p : Past) → InPast p past → Tops c p
  tops_so p (inl i) =
      let who : x ≡ p.who = sym (ap (λ (q : Past). q.who) i) in
      record { own = λ j e late. absurd (unsent p.who j who e); other = λ v e. no_partner (TopAt v p.place p.flight.other c.sent) p.who v who e }
  tops_so p (inr i) =
      let l : p.place < net.book.places = k.placed p i in
      record {
        own = top_kept p.who p.place p.flight.own note net.book.sent l (k.tops p i).own;
        other = λ v e. top_kept v p.place p.flight.other note net.book.sent l ((k.tops p i).other v e);
      }

  owner_so : (p : Past) → InPast p past → (has_note net.book.made p.who ≡ true) ⊎ (p.who.id ≡ 0)
  owner_so p (inl i) = inr (ap (λ (q : Past). q.who.id) i)
  owner_so p (inr i) = k.owners p i

  pub refused : Kept after
  refused = record {
    past = past;
    noted = (record { who = refl; place = refl; number = refl; spelled = spelled }, k.noted);
    placed = placed_so;
    tops = tops_so;
    senders = λ z i e. k.senders z i (sym (sent_is z i) ∙ e);
    owners = owner_so;
    hearers = k.hearers;
    made = k.made;
    ends = inv_so;
    pairs = λ z v e. let o : PairInv net z v = k.pairs z v e in record { mine = o.mine; back = o.back; apart = o.apart; heard = λ i h. sent_is v i ∙ o.heard i h };
    sets = k.sets;
  }
