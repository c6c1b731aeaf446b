-- Each step keeps what is known of the run, also one by which a node starts again.
use Rattle.std.specs.Prelude.{◌≡◌, ◌≢◌, ℕ, suc, ◌⊎◌, Bool, true, false, ◌&&◌, nat_eq, if◌then◌else◌, List, [], ◌∷◌, ◌++◌, drop, slice_get, slice_set, Option, Some, None, Result, Ok, Err, refl}
use Rattle.std.specs.List.{AllByRecursion}
use Rattle.std.proofs.Common.{sym, ◌∙◌, ap, subst, inl, inr, arith}
use Rattle.std.proofs.lemmas.Bool.Decides.{nat_tests}
use Rattle.radio_base.proofs.Each.{each_map}
use Rattle.ax_address.specs.Callsign.{Callsign, IsCallsign}
use Rattle.ax_address.proofs.SameCalls.{same_call-true}
use Rattle.l3_datagram.specs.declared.datagram.DatagramHead.{DatagramHead}
use Rattle.l3_datagram.specs.declared.datagram.DatagramRefusal.{DatagramRefusal}
use Rattle.l3_datagram.specs.Datagrams.{head_at}
use Rattle.circuit_l4.specs.declared.pair.Pair.{Pair}
use Rattle.circuit_l4.specs.declared.transport.Transport.TheVariants.{Refuse}
use Rattle.circuit_l4.specs.declared.notice.EndNotice.{EndNotice}
use Rattle.circuit_l4.specs.declared.role.Role.TheVariants.{Responder}
use Rattle.circuit_l4.specs.State.{Effect, State}
use Rattle.circuit_l4.specs.Opening.{facts_of}
use Rattle.circuit_set.specs.Books.{Book, MadeNote, asked_by, has_sent, if_asked, is_unknown, made_last, with_event, with_events, partner, requester}
use Rattle.circuit_table.specs.Events.{Name}
use Rattle.circuit_set.specs.NotedRuns.{Net, begins, end_at}
use Rattle.circuit_set.specs.Facing.{IsCallOf}
use Rattle.circuit_table.specs.Givings.{IsUp}
use Rattle.circuit_set.specs.Returning.{CallsDiffer}
use Rattle.circuit_table.specs.Runs.{AreStarts, IsAct, IsStart, events_at}
use Rattle.circuit_table.specs.Sets.{Act, Connect, ConnectFor, Comes, Calls, Discard, Restart, Made, Sent, Heeded, Gone, Restarted, Holder, SetDone, SetState, datagram_to, end_of, goes_to, has_ended, holder_of, is_over, losses, makes_end, new_pair, after_restart, set_step, told_by, with_end}
use Rattle.circuit_l4.specs.Transports.{pair_at}
use Rattle.circuit_set.proofs.Acts.{set_self}
use Rattle.circuit_set.proofs.Asks.{Asks}
use Rattle.circuit_set.proofs.Cases.{AskedFor, IsNew, Lives, MadeBy, Opener, Says, step_every}
use Rattle.circuit_set.proofs.Ended.{Ends}
use Rattle.circuit_set.proofs.Given.{Numbers, none_of, one}
use Rattle.circuit_set.proofs.Knowing.{Asker, EndOk, Forth, Known, Lasts, MadeOk, Opened, Sender, SentOk, asker_of, lasts_itself, made_then, outs_sent, own_then, sender_of, sent_then}
use Rattle.circuit_set.proofs.Lookups.{set_other, set_same}
use Rattle.circuit_set.proofs.Moved.{same_or}
use Rattle.circuit_set.proofs.Noting.{told_noted, with_notices}
use Rattle.circuit_set.proofs.Pasts.{put_sents}
use Rattle.circuit_set.proofs.Restarts.{gone_of, noted_losses}
use Rattle.circuit_set.proofs.Safe.{none_case, starts_at}
use Rattle.circuit_set.proofs.Stepped as stepped
use Rattle.circuit_set.proofs.Stepped.{same_holder}
use Rattle.circuit_table.proofs.Names.{SameEnd}
use Rattle.circuit_table.proofs.Origins.{origin_read}
use Rattle.circuit_set.proofs.Unrepeated.{each_noticed}
use Rattle.circuit_set.proofs.Written.{RoleSpeaks}

and_first : (a b : Bool) → (a && b) ≡ true → a ≡ true
and_first true b e = refl
and_first false b e = cc

all_noticed : (P : MadeNote → Type 0) → ((m : MadeNote) (ts : List EndNotice) → P m → P (record m { told = ts })) → (x : Name) (ns : List EndNotice) (ms : List MadeNote) → AllByRecursion P ms → AllByRecursion P (with_notices x ns ms)
all_noticed P keep x [] ms a = a
all_noticed P keep x (n ∷ ns) ms a = all_noticed P keep x ns _ (each_noticed P keep x n ms a)

made_keeps : (net : Net) (m : MadeNote) (ts : List EndNotice) → MadeOk net m → MadeOk net (record m { told = ts })
made_keeps net m ts o = record {
  note = record { end = o.note.end; there = o.note.there; pair = o.note.pair; set = o.note.set; here = o.note.here; own = o.note.own };
  alone = o.alone;
  opened = λ x e. (let p : Opened net m x = o.opened x e in record { asker = p.asker; there = p.there; end = p.end; here = p.here; pair = p.pair; from = p.from; to = p.to });
}

-- ---- who has asked, as it is noted ----
asked_case : (b : Book) (d : List ℕ) (x z : Name) (t : Bool) → (has_sent b.sent z d && is_unknown (partner b z)) ≡ t → (if t then Some z else None) ≡ Some x → has_sent b.sent x d ≡ true
asked_case b d x z true t e =
    let same : z ≡ x = cc in
    subst (λ w. has_sent b.sent w d ≡ true) same (and_first (has_sent b.sent z d) (is_unknown (partner b z)) t)
asked_case b d x z false t e = cc

asked_sent : (b : Book) (d : List ℕ) (x : Name) (o : Option Name) → if_asked b d o ≡ Some x → has_sent b.sent x d ≡ true
asked_sent b d x None e = cc
asked_sent b d x (Some z) e = asked_case b d x z (has_sent b.sent z d && is_unknown (partner b z)) refl e

by_sent : (b : Book) (d : List ℕ) (x : Name) (r : Result DatagramHead DatagramRefusal) → asked_by b d r ≡ Some x → has_sent b.sent x d ≡ true
by_sent b d x (Err f) e = cc
by_sent b d x (Ok head) e = asked_sent b d x (made_last b.made head.origin (pair_at 0 (drop 15 d))) e

module _ (net : Net) (k : Known net) (n : ℕ) (s : SetState) (here : slice_get net.sets n ≡ Some s) (nums : Numbers s) where
  abbrev After : SetDone → Net
  After done = record { sets = slice_set net.sets n done.set; book = with_events net.book (events_at n s.own done.told) }

  abbrev P : SetDone → Type 0
  P done = Known (After done)

  -- ---- calls ----
  was_own : (t : SetState) → t.own ≡ s.own → (i : ℕ) (u : SetState) (b : Bool) → nat_eq i n ≡ b → slice_get (slice_set net.sets n t) i ≡ Some u → (w : SetState) × (slice_get net.sets i ≡ Some w) × (w.own ≡ u.own)
  was_own t own i u true q e =
      let same : i ≡ n = grind (arith, nat_tests) in
      let two : Some t ≡ Some u = sym (set_same net.sets n s t here) ∙ subst (λ w. slice_get (slice_set net.sets n t) w ≡ Some u) same e in
      let is : t ≡ u = cc in
      (s, ap (λ w. slice_get net.sets w) same ∙ here, sym own ∙ ap (λ (w : SetState). w.own) is)
  was_own t own i u false q e = let far : i ≢ n = grind (arith, nat_tests) in (u, sym (set_other net.sets n i t far) ∙ e, refl)

  calls_now : (t : SetState) → t.own ≡ s.own → CallsDiffer (slice_set net.sets n t)
  calls_now t own i j u v e f same =
      let p = was_own t own i u (nat_eq i n) refl e in
      let q = was_own t own j v (nat_eq j n) refl f in
      k.calls i j p.0 q.0 p.1 q.1 (p.2 ∙ same ∙ sym q.2)

  abbrev AreCalls : SetState → Type 0
  AreCalls t = IsCallsign t.own.letters t.own.ssid × IsCallsign t.user.letters t.user.ssid

  sets_now : (t : SetState) → AreCalls t → (i : ℕ) (u : SetState) → slice_get (slice_set net.sets n t) i ≡ Some u → AreCalls u
  sets_now t c i u e = stepped.each_set net n s here AreCalls t c k.sets i u (nat_eq i n) refl e

  -- ---- an end that was made ----
  module _ (h : Holder) (e : State) (over : Bool) (c : Book) (there : end_of h.id s.ends ≡ Some h) (pair : e.pair ≡ h.end.pair) where
    abbrev x : Name
    x = record { node = n; id = h.id }

    abbrev to : Holder
    to = record { id = h.id; at = h.at; asked = h.asked; end = e; gone = over }

    abbrev t : SetState
    t = record s { ends = with_end to s.ends }

    abbrev new : Net
    new = record { sets = slice_set net.sets n t; book = c }

    is_now : (z : Name) (j : Holder) → end_at net z ≡ Some j → (x ≡ z) ⊎ (x ≡ z → ⊥) → (i : Holder) × (end_at new z ≡ Some i) × Lasts j i
    is_now z j q (inl same) =
        let is : h ≡ j = same_holder h j (end_at net z) (subst (λ w. end_at net w ≡ Some h) same (stepped.end_then net n s here h e over c there)) q in
        let lasts : Lasts h to = record { pair = pair; asked = refl; at = refl } in
        (to, subst (λ w. end_at new w ≡ Some to) same (stepped.end_now net n s here h e over c there), subst (λ (i : Holder). Lasts i to) is lasts)
    is_now z j q (inr far) = (j, stepped.end_beside net n s here h e over c there z far ∙ q, lasts_itself j)

    forth : Forth net new
    forth = record { is = λ z j q. is_now z j q (same_or x z); owns = λ i u q. stepped.own_stays net n s here t refl i u (nat_eq i n) refl q }

    end_case : EndOk to → (z : Name) (j : Holder) → end_at new z ≡ Some j → (x ≡ z) ⊎ (x ≡ z → ⊥) → EndOk j
    end_case ok z j q (inl same) = subst EndOk (same_holder to j (end_at new z) (subst (λ w. end_at new w ≡ Some to) same (stepped.end_now net n s here h e over c there)) q) ok
    end_case ok z j q (inr far) = k.ends z j (sym (stepped.end_beside net n s here h e over c there z far) ∙ q)

    changed : (notes : List EndNotice) → EndOk to → c.made ≡ with_notices x notes net.book.made → AllByRecursion (SentOk new) c.sent → Known new
    changed notes ok made_is sent = record {
      calls = calls_now t refl;
      sets = λ i u q. sets_now t (k.sets n s here) i u q;
      ends = λ z j q. end_case ok z j q (same_or x z);
      sent = sent;
      made = subst (AllByRecursion (MadeOk new)) (sym made_is) (all_noticed (MadeOk new) (made_keeps new) x notes net.book.made (each_map (MadeOk net) (MadeOk new) (made_then net new forth) net.book.made k.made));
    }

  -- what a step of an end leaves in the book
  heeded_noted : (h : Holder) (b : Bool) (d : List ℕ) (g : Effect)
      → (let c : Book = with_events net.book (events_at n s.own ((if b then Heeded h.id d ∷ [] else []) ++ told_by s h g)) in
      let x : Name = record { node = n; id = h.id } in
      (c.made ≡ with_notices x g.notes net.book.made) × ((i : ℕ) × (c.sent ≡ put_sents x i (datagram_to s h.at) g.outs net.book.sent)))
  heeded_noted h true d g =
      let b : Book = with_event net.book (record { node = n; own = s.own; told = Heeded h.id d }) in
      let r = told_noted s n s.own h g b in
      (r.made, (b.places, r.sent))
  heeded_noted h false d g = let r = told_noted s n s.own h g net.book in (r.made, (net.book.places, r.sent))

  own_now : (t : SetState) → t.own ≡ s.own → IsCallOf (slice_set net.sets n t) n s.own
  own_now t own = (t, set_same net.sets n s t here, own)

  moves_so : (h : Holder) (heeded : Bool) (d : List ℕ) (g : Effect) → end_of h.id s.ends ≡ Some h → h.gone ≡ false → SameEnd h.end g.end → Ends h.end g → Says h heeded d g → Lives h.end g → Asks h.end g.outs
      → P (goes_to s h (if heeded then Heeded h.id d ∷ [] else []) g)
  moves_so h heeded d g there held same ends says lives asks =
      let over : Bool = is_over g.end in
      let c : Book = with_events net.book (events_at n s.own ((if heeded then Heeded h.id d ∷ [] else []) ++ told_by s h g)) in
      let x : Name = record { node = n; id = h.id } in
      let to : Holder = record { id = h.id; at = h.at; asked = h.asked; end = g.end; gone = over } in
      let new : Net = record { sets = slice_set net.sets n (record s { ends = with_end to s.ends }); book = c } in
      let ok : EndOk h = k.ends x h (stepped.end_then net n s here h g.end over c there) in
      let ok_now : EndOk to = record {
        at = ok.at;
        speaks = subst RoleSpeaks (sym same.role) ok.speaks;
        asked = elim ok.asked [ inl e ↦ inl e | inr e ↦ inr (same.role ∙ e) ];
      } in
      let r = heeded_noted h heeded d g in
      let f : Forth net new = forth h g.end over c there same.pair in
      let sent : AllByRecursion (SentOk new) (put_sents x r.1.0 (datagram_to s h.at) g.outs net.book.sent) =
      outs_sent new x h to s (stepped.end_now net n s here h g.end over c there) (record { pair = same.pair; asked = refl; at = refl }) ok (own_now (record s { ends = with_end to s.ends }) refl) (k.sets n s here).0
      g.outs r.1.0 net.book.sent asks (each_map (SentOk net) (SentOk new) (sent_then net new f) net.book.sent k.sent) in
      changed h g.end over c there same.pair g.notes ok_now r.0 (subst (AllByRecursion (SentOk new)) (sym r.1.1) sent)

  leaves_so : (h : Holder) → end_of h.id s.ends ≡ Some h → h.gone ≡ false → has_ended h.end.phase ≡ true
      → P (record { set = record s { ends = with_end (record h { gone = true }) s.ends }; told = Gone h.id (facts_of h.end) ∷ [] })
  leaves_so h there held ended =
      let c : Book = with_events net.book (events_at n s.own (Gone h.id (facts_of h.end) ∷ [])) in
      let to : Holder = record { id = h.id; at = h.at; asked = h.asked; end = h.end; gone = true } in
      let new : Net = record { sets = slice_set net.sets n (record s { ends = with_end to s.ends }); book = c } in
      let ok : EndOk h = k.ends (record { node = n; id = h.id }) h (stepped.end_then net n s here h h.end true c there) in
      let ok_now : EndOk to = record { at = ok.at; speaks = ok.speaks; asked = ok.asked } in
      changed h h.end true c there refl [] ok_now refl (each_map (SentOk net) (SentOk new) (sent_then net new (forth h h.end true c there refl)) net.book.sent k.sent)

  -- ---- no end ----
  beside : (c : Book) → c.made ≡ net.book.made → AllByRecursion (SentOk net) c.sent → Known (record { sets = slice_set net.sets n s; book = c })
  beside c made_is sent =
      let mid : Net = record { sets = net.sets; book = c } in
      let f : Forth net mid = record { is = λ z j q. (j, q, lasts_itself j); owns = λ i u q. (u, q, refl) } in
      let all : Known mid = record {
        calls = k.calls;
        sets = k.sets;
        ends = k.ends;
        sent = each_map (SentOk net) (SentOk mid) (sent_then net mid f) c.sent sent;
        made = subst (AllByRecursion (MadeOk mid)) (sym made_is) (each_map (MadeOk net) (MadeOk mid) (made_then net mid f) net.book.made k.made);
      } in
      subst (λ ss. Known (record { sets = ss; book = c })) (sym (set_self net.sets n s here)) all

  refused_so : (at : Callsign) (pair : Pair) → IsCallsign at.letters at.ssid → P (record { set = s; told = Sent 0 None (datagram_to s at (Refuse pair)) ∷ [] })
  refused_so at pair call =
      let now : SentOk net (record { who = record { node = n; id = 0 }; place = net.book.places; number = None; datagram = datagram_to s at (Refuse pair) }) = record {
        own = s.own;
        node = (s, here, refl);
        call = (k.sets n s here).0;
        at = at;
        to = call;
        ttl = s.ttl;
        out = Refuse pair;
        is = refl;
        by = tt;
      } in
      beside (with_event net.book (record { node = n; own = s.own; told = Sent 0 None (datagram_to s at (Refuse pair)) })) refl (now, k.sent)

  -- ---- a new end ----
  module _ (a : Act) (is_act : IsAct a) (at : Callsign) (asked : Option Pair) (request : Option (List ℕ)) (g : Effect) (fresh : IsNew s asked request g) (asks : Asks g.end g.outs) where
    abbrev h2 : Holder
    h2 = holder_of s at asked g

    abbrev y : Name
    y = record { node = n; id = s.number }

    abbrev t2 : SetState
    t2 = (makes_end s at asked request g).set

    abbrev first : Book
    first = with_event net.book (record { node = n; own = s.own; told = Made s.number (new_pair s) at request })

    abbrev last : Book
    last = with_events first (events_at n s.own (told_by s h2 g))

    abbrev new2 : Net
    new2 = record { sets = slice_set net.sets n t2; book = last }

    none_yet : end_of s.number s.ends ≡ None
    none_yet = none_of s.number s.ends nums.below

    end_here : end_at new2 y ≡ Some h2
    end_here = stepped.end_here net n s here t2 h2 last refl refl none_yet

    end_other : (z : Name) → (y ≡ z → ⊥) → end_at new2 z ≡ end_at net z
    end_other = stepped.end_other net n s here t2 h2 last refl refl none_yet

    old_end : (z : Name) (j : Holder) → end_at net z ≡ Some j → end_at new2 z ≡ Some j
    old_end = stepped.old_end net n s here t2 h2 last refl refl none_yet

    forth2 : Forth net new2
    forth2 = record { is = λ z j q. (j, old_end z j q, lasts_itself j); owns = λ i u q. stepped.own_stays net n s here t2 refl i u (nat_eq i n) refl q }

    asked_ok : (user at : Callsign) → AskedFor s a user at → IsCallsign user.letters user.ssid × IsCallsign at.letters at.ssid
    asked_ok user at (now, inl b) = (subst (λ (c : Callsign). IsCallsign c.letters c.ssid) (sym b.1) (k.sets n s here).1, subst IsAct b.0 is_act)
    asked_ok user at (now, inr b) = subst IsAct b is_act

    -- it was asked for with a callsign, or by one
    end_by : (p : Option Pair) (d : Option (List ℕ)) → asked ≡ p → MadeBy s a at g.end.role p d → IsCallsign at.letters at.ssid × RoleSpeaks g.end.role × ((asked ≡ None) ⊎ (g.end.role ≡ Responder))
    end_by None None e b =
        let calls = asked_ok b.0 at b.1 in
        (calls.1, subst RoleSpeaks (sym b.2) (calls.0, (k.sets n s here).0), inl e)
    end_by (Some p) (Some d) e b =
        let o : Opener s a at p d = b.0 in
        (subst (λ (c : Callsign). IsCallsign c.letters c.ssid) o.origin (origin_read d o.comer.head o.comer.read), subst RoleSpeaks (sym b.1) tt, inr b.1)
    end_by None (Some d) e b = absurd b
    end_by (Some p) None e b = absurd b

    module _ (by : MadeBy s a at g.end.role asked request) where
      end_ok : EndOk h2
      end_ok = let r = end_by asked request refl by in record { at = r.0; speaks = r.1; asked = r.2 }

      end_two : (z : Name) (j : Holder) → end_at new2 z ≡ Some j → (y ≡ z) ⊎ (y ≡ z → ⊥) → EndOk j
      end_two z j q (inl same) = subst EndOk (same_holder h2 j (end_at new2 z) (subst (λ w. end_at new2 w ≡ Some h2) same end_here) q) end_ok
      end_two z j q (inr far) = k.ends z j (sym (end_other z far) ∙ q)

      abbrev note : MadeNote
      note = record { who = y; own = s.own; pair = new_pair s; partner = requester net.book request; told = [] }

      -- who has asked for it
      opened_by_asker : (p : Pair) (d : List ℕ) (x : Name) → asked ≡ Some p → Opener s a at p d → requester net.book (Some d) ≡ Some x → Opened new2 note x
      opened_by_asker p d x e o q =
          let sender : Sender net x d = sender_of net x d net.book.sent k.sent (by_sent net.book d x (head_at d) q) in
          let c = o.comer in
          let asker : Asker net x d c.head p = asker_of net x d c.head p o.window o.user o.node sender c.read o.request in
          record {
            asker = asker.end;
            there = old_end x asker.end asker.there;
            end = h2;
            here = end_here;
            pair = e ∙ ap (λ r. Some r) (sym asker.pair_is);
            from = subst (λ k. IsCallOf new2.sets x.node k) o.origin (own_then net new2 forth2 x.node c.head.origin asker.own);
            to = (t2, set_same net.sets n s t2 here, sym (same_call-true c.head.dest s.own c.mine) ∙ sym asker.to);
          }

      opened_case : (p : Option Pair) (d : Option (List ℕ)) (x : Name) → asked ≡ p → MadeBy s a at g.end.role p d → requester net.book d ≡ Some x → Opened new2 note x
      opened_case None None x e b q = cc
      opened_case (Some p) (Some d) x e b q = opened_by_asker p d x e b.0 q
      opened_case None (Some d) x e b q = absurd b
      opened_case (Some p) None x e b q = absurd b

      alone_case : (p : Option Pair) (d : Option (List ℕ)) → MadeBy s a at g.end.role p d → p ≡ None → requester net.book d ≡ None
      alone_case None None b e = refl
      alone_case (Some p) (Some d) b e = cc
      alone_case None (Some d) b e = absurd b
      alone_case (Some p) None b e = cc

      note_ok : MadeOk new2 note
      note_ok = record {
        note = record { end = h2; there = end_here; pair = fresh.pair; set = t2; here = set_same net.sets n s t2 here; own = refl };
        alone = λ e. alone_case asked request by e;
        opened = λ x q. opened_case asked request x refl by q;
      }

      new_known : Known new2
      new_known =
          let r = told_noted s n s.own h2 g first in
          let sent : AllByRecursion (SentOk new2) (put_sents y first.places (datagram_to s at) g.outs net.book.sent) =
          outs_sent new2 y h2 h2 s end_here (lasts_itself h2) end_ok (own_now t2 refl) (k.sets n s here).0 g.outs first.places net.book.sent asks (each_map (SentOk net) (SentOk new2) (sent_then net new2 forth2) net.book.sent k.sent) in
          let made_all : AllByRecursion (MadeOk new2) first.made = (note_ok, each_map (MadeOk net) (MadeOk new2) (made_then net new2 forth2) net.book.made k.made) in
          record {
            calls = calls_now t2 refl;
            sets = λ i u q. sets_now t2 (k.sets n s here) i u q;
            ends = λ z j q. end_two z j q (same_or y z);
            sent = subst (AllByRecursion (SentOk new2)) (sym r.sent) sent;
            made = subst (AllByRecursion (MadeOk new2)) (sym r.made) (all_noticed (MadeOk new2) (made_keeps new2) y g.notes first.made made_all);
          }

  -- ---- the node starts again ----
  gone_ok : (h : Holder) (b : Bool) → EndOk h → EndOk (gone_of h b)
  gone_ok h b ok = record { at = ok.at; speaks = ok.speaks; asked = ok.asked }

  again_so : (pair : Pair) (more : ℕ) → P (after_restart s pair more)
  again_so pair more =
      let t : SetState = (after_restart s pair more).set in
      let c : Book = with_events net.book (events_at n s.own (Restarted pair ∷ losses s.ends)) in
      let b : Book = record { places = suc net.book.places; made = net.book.made; sent = net.book.sent; heard = net.book.heard } in
      let new : Net = After (after_restart s pair more) in
      let made_is : c.made ≡ net.book.made = ap (λ (a : Book). a.made) (noted_losses n s.own s.ends b).2 in
      let sent_is : c.sent ≡ net.book.sent = ap (λ (a : Book). a.sent) (noted_losses n s.own s.ends b).2 in
      let f : Forth net new = record {
        is = λ z j q. (let i = stepped.is_lost_now net n s here pair more c z j (nat_eq z.node n) refl q in (gone_of j i.0, i.1, record { pair = refl; asked = refl; at = refl }));
        owns = λ i u q. stepped.own_stays net n s here t refl i u (nat_eq i n) refl q;
      } in
      record {
        calls = calls_now t refl;
        sets = λ i u q. sets_now t (k.sets n s here) i u q;
        ends = λ z j q. (let r = stepped.was_lost net n s here pair more c z j (nat_eq z.node n) refl q in subst EndOk r.3 (gone_ok r.0 r.2 (k.ends z r.0 r.1)));
        sent = subst (AllByRecursion (SentOk new)) (sym sent_is) (each_map (SentOk net) (SentOk new) (sent_then net new f) net.book.sent k.sent);
        made = subst (AllByRecursion (MadeOk new)) (sym made_is) (each_map (MadeOk net) (MadeOk new) (made_then net new f) net.book.made k.made);
      }

  up_known : (a : Act) → IsAct a → IsUp a → P (set_step s a)
  up_known a is_act up =
      step_every s (one s nums) a P (record {
        rests = λ idle. beside net.book refl k.sent;
        refuses = λ at pair call none. refused_so at pair call;
        moves = λ h heeded d g there held same ends says lives asks by. moves_so h heeded d g there held same ends says lives asks;
        leaves = λ h there held ended none. leaves_so h there held ended;
        makes = λ at asked request g fresh by asks. new_known a is_act at asked request g fresh asks by;
      }) up

  pub step_known : (a : Act) → IsAct a → P (set_step s a)
  step_known (Connect dest now) is_act = up_known (Connect dest now) is_act tt
  step_known (ConnectFor user dest now) is_act = up_known (ConnectFor user dest now) is_act tt
  step_known (Comes d now) is_act = up_known (Comes d now) is_act tt
  step_known (Calls id call now) is_act = up_known (Calls id call now) is_act tt
  step_known (Discard id) is_act = up_known (Discard id) is_act tt
  step_known (Restart pair more) is_act = again_so pair more

pub no_end : (sets : List SetState) (x : Name) (h : Holder) (P : Type 0) → AreStarts sets → end_at (begins sets) x ≡ Some h → P
no_end sets x h P a e = let none : end_at (begins sets) x ≡ None = none_case sets x (slice_get sets x.node) a refl in let bad : None ≡ Some h = sym none ∙ e in cc

pub start_known : (sets : List SetState) → AreStarts sets → CallsDiffer sets → Known (begins sets)
start_known sets a calls = record {
  calls = calls;
  sets = λ n s e. let i : IsStart s = starts_at sets n s a e in (i.own, i.user);
  ends = λ x h e. no_end sets x h (EndOk h) a e;
  sent = tt;
  made = tt;
}
