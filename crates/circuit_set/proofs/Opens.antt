-- A run of sets: its steps, one after another, and what holds at each moment.
use Rattle.std.specs.Prelude.{◌≡◌, ℕ, suc, ◌≤◌, min, Bool, true, false, not, ◌&&◌, ◌||◌, nat_eq, if◌then◌else◌, List, [], ◌∷◌, ◌++◌, drop, slice_get, slice_set, Option, Some, None, Result, Ok, Err, refl}
use Rattle.std.proofs.Common.{sym, ◌∙◌, ap, subst, inl, inr, arith}
use Rattle.std.proofs.lemmas.Bool.Decides.{nat_tests}
use Rattle.std.proofs.lemmas.Bool.{and_parts}
use Rattle.std.proofs.Math.Bool.{or-true}
use Rattle.radio_base.specs.declared.modulus.TheConstants.{COUNT_MAX}
use Rattle.ax_address.specs.Callsign.{Callsign, IsCallsign, same_call}
use Rattle.l3_datagram.specs.declared.datagram.DatagramHead.{DatagramHead}
use Rattle.l3_datagram.specs.declared.datagram.DatagramRefusal.{DatagramRefusal}
use Rattle.l3_datagram.specs.Datagrams.{head_at}
use Rattle.circuit_l4.specs.declared.pair.Pair.{Pair}
use Rattle.circuit_l4.specs.declared.transport.Transport.{Transport}
use Rattle.circuit_l4.specs.declared.transport.Transport.TheVariants.{Request, Accept, Refuse, Disconnect, Disconnected, Info, InfoAck}
use Rattle.circuit_l4.specs.declared.transport.TransportRefusal.{TransportRefusal}
use Rattle.circuit_l4.specs.declared.notice.EndNotice.TheVariants.{Opened, Closed, ClosedByPartner}
use Rattle.circuit_l4.specs.declared.role.Role.TheVariants.{Requester, Responder}
use Rattle.circuit_l4.specs.Transports.{pair_at, transport_at}
use Rattle.circuit_l4.specs.State.{Effect, begin}
use Rattle.circuit_l4.specs.Laws.{Accepts, Asks as NewAsks}
use Rattle.circuit_l4.specs.Table.{Arrive, common_window, step}
use Rattle.circuit_l4.specs.Opening.{requesting, responding}
use Rattle.circuit_table.specs.Sets.{heeds, Act, Call, Calls, Comes, Connect, ConnectFor, Discard, Restart, after_restart, Holder, SetDone, SetState, Heeded, Sent, accept_again, arrives_at, asked_with, after_call, after_connecting_for, datagram_to, after_discarding, end_of, first_open, goes_to, after_datagram, has_ended, input_of, is_full, is_open, is_over, makes_end, named_by, new_pair, opened_by, read_as, after_transport, same_pair, set_step, told_by, does_nothing}
use Rattle.circuit_table.specs.Events.{Event, Name, is_copy, same_name}
use Rattle.circuit_set.specs.NotedRuns.{Net, allowance_at, net_run, net_step}
use Rattle.circuit_table.specs.Pairs.{pair_after}
use Rattle.circuit_set.specs.Books.{Book, MadeNote, SentNote, Timely, asked_by, has_sent, if_asked, is_unknown, made_last, with_event, with_events, partner, partner_in, requester}
use Rattle.circuit_table.specs.Runs.{AreSteps, IsAct, Step, events_at, events_of, sets_at, told_at}
use Rattle.circuit_set.proofs.Bridge.{name_itself, same_names}
use Rattle.circuit_set.proofs.Copies.{copy_reads}
use Rattle.circuit_set.proofs.Lookups.{has_note, open_found}
use Rattle.circuit_set.proofs.Pasts.{Entry, InPast, Noted, Past}
use Rattle.circuit_set.proofs.Asks.{AskOf}
use Rattle.circuit_set.proofs.Noting.{same_partners, told_noted}
use Rattle.circuit_set.proofs.Rows.{one_note}
use Rattle.circuit_set.proofs.Sends.{no_notes}
use Rattle.circuit_table.proofs.Origins.{origin_read}
use Rattle.circuit_set.proofs.Invariant.{EndInv, Kept, SetInv}
use Rattle.circuit_set.proofs.Moved.{moved}
use Rattle.circuit_set.proofs.Made as making
use Rattle.circuit_set.proofs.Made.{AskedBy, IsMade}
use Rattle.circuit_set.proofs.Refused as refusing
use Rattle.circuit_set.proofs.Restarts as restarting
use Rattle.circuit_set.proofs.Restarts.{noted_losses}
use Rattle.circuit_set.proofs.Acts as acts

-- ---- new ends ----
requester_made : (net : Net) (s : SetState) (pair : Pair) (user dest : Callsign) (now : ℕ) → SetInv s → IsCallsign user.letters user.ssid → IsCallsign dest.letters dest.ssid
    → IsMade net s dest None None (requesting pair user s.own s.config now)
requester_made net s pair user dest now inv asker call =
    let some : 1 ≤ s.config.window = inv.some in
    record {
      new = λ w other fits. record {
        unwritten_yet = refl;
        room = s.config.window;
        unheard_yet = refl;
        none_heard = refl;
        unclosed = λ c. cc;
        quiet = no_notes;
        ok = record { up = λ h. cc; answers = λ h. cc; idle = λ h. refl; fits = fits.own; good = tt };
        facts = λ y. (tt, tt);
      };
      window = s.config.window;
      fits = record { some = some; own = omega arith; is = λ r. cc };
      lives = record { first = requesting pair user s.own s.config now; new = NewAsks pair user s.own s.config now; inputs = []; end = refl; notes_are = refl };
      silent = (λ n e. cc, tt);
      spelled = (record { head = record { origin = s.own; dest = dest; ttl = s.ttl }; is = refl; origin = inv.own; dest = call; transport = (asker, inv.own) }, tt);
      asks = ((refl, refl, refl, refl), tt);
      some = some;
      most = inv.most;
      at_call = call;
      role = (asker, inv.own);
      answers = λ p e. cc;
      asked = λ x e. cc;
      by_request = λ e. cc;
      opens = λ r. cc;
    }

responder_made : (net : Net) (s : SetState) (own pair : Pair) (origin : Callsign) (window now : ℕ) (from : Option Name) → SetInv s → IsCallsign origin.letters origin.ssid
    → ((x : Name) → from ≡ Some x → AskedBy net x (responding own pair window s.config now).end) → IsMade net s origin (Some pair) from (responding own pair window s.config now)
responder_made net s own pair origin window now from inv call asked =
    let some : 1 ≤ s.config.window = inv.some in
    let v : ℕ = common_window s.config.window window in
    record {
      new = λ w other fits. record {
        unwritten_yet = refl;
        room = s.config.window;
        unheard_yet = refl;
        none_heard = refl;
        unclosed = λ c. cc;
        quiet = (one_note (Opened v) Closed (λ e. cc), one_note (Opened v) ClosedByPartner (λ e. cc));
        ok = record { up = λ h. fits.is refl; answers = λ h. fits.is refl; idle = λ h. cc; fits = fits.own; good = tt };
        facts = λ y. (fits.is refl, tt);
      };
      window = v;
      fits = record { some = omega arith; own = omega arith; is = λ r. refl };
      lives = record { first = responding own pair window s.config now; new = Accepts own pair window s.config now; inputs = []; end = refl; notes_are = refl };
      silent = (λ n e. cc, tt);
      spelled = (record { head = record { origin = s.own; dest = origin; ttl = s.ttl }; is = refl; origin = inv.own; dest = call; transport = tt }, tt);
      asks = ((refl, refl), tt);
      some = some;
      most = inv.most;
      at_call = call;
      role = tt;
      answers = λ p e. refl;
      asked = asked;
      by_request = λ e. refl;
      opens = λ r. refl;
    }

-- ---- the end that has asked ----
record Said (ps : List Past) (x : Name) (d : List ℕ) : Type 0 where
  past : Past
  inside : InPast past ps
  by : past.who ≡ x
  note : SentNote
  entry : Entry past note
  copy : is_copy d note.datagram ≡ true

later_said : (p : Past) (ps : List Past) (x : Name) (d : List ℕ) → Said ps x d → Said (p ∷ ps) x d
later_said p ps x d f = record { past = f.past; inside = inr f.inside; by = f.by; note = f.note; entry = f.entry; copy = f.copy }

said_case : (p : Past) (ps : List Past) (s : SentNote) (ss : List SentNote) (x : Name) (d : List ℕ) (b : Bool) → (same_name s.who x && is_copy d s.datagram) ≡ b → Entry p s → (b || has_sent ss x d) ≡ true
    → (has_sent ss x d ≡ true → Said ps x d) → Said (p ∷ ps) x d
said_case p ps s ss x d true t e h later =
    let two = and_parts (same_name s.who x) (is_copy d s.datagram) t in
    record { past = p; inside = inl refl; by = e.who ∙ same_names s.who x two.0; note = s; entry = e; copy = two.1 }
said_case p ps s ss x d false t e h later = later_said p ps x d (later h)

said : (ps : List Past) (ss : List SentNote) (x : Name) (d : List ℕ) → Noted ps ss → has_sent ss x d ≡ true → Said ps x d
said [] [] x d n h = cc
said [] (s ∷ ss) x d n h = absurd n
said (p ∷ ps) [] x d n h = absurd n
said (p ∷ ps) (s ∷ ss) x d n h = said_case p ps s ss x d (same_name s.who x && is_copy d s.datagram) refl n.0 h (said ps ss x d n.1)

last_case : (m : MadeNote) (ms : List MadeNote) (own : Callsign) (pair : Pair) (x : Name) (b : Bool) → (if b then Some m.who else made_last ms own pair) ≡ Some x → (made_last ms own pair ≡ Some x → has_note ms x ≡ true)
    → (same_name m.who x || has_note ms x) ≡ true
last_case m ms own pair x true e later = let same : m.who ≡ x = cc in ap (λ b. b || has_note ms x) (ap (λ w. same_name w x) same ∙ name_itself x)
last_case m ms own pair x false e later = ap (λ b. same_name m.who x || b) (later e) ∙ or-true (same_name m.who x)

last_noted : (ms : List MadeNote) (own : Callsign) (pair : Pair) (x : Name) → made_last ms own pair ≡ Some x → has_note ms x ≡ true
last_noted [] own pair x e = cc
last_noted (m ∷ ms) own pair x e = last_case m ms own pair x (same_call m.own own && same_pair m.pair pair) e (last_noted ms own pair x)

unknown_is : (o : Option Name) → is_unknown o ≡ true → o ≡ None
unknown_is None h = refl
unknown_is (Some x) h = cc

record Asker (b : Book) (d : List ℕ) (x : Name) : Type 0 where
  sent : has_sent b.sent x d ≡ true
  alone : partner b x ≡ None
  note : has_note b.made x ≡ true

asker_case : (b : Book) (d : List ℕ) (x z : Name) (t : Bool) → (has_sent b.sent z d && is_unknown (partner b z)) ≡ t → has_note b.made z ≡ true → (if t then Some z else None) ≡ Some x → Asker b d x
asker_case b d x z true t note e =
    let same : z ≡ x = cc in
    let two = and_parts (has_sent b.sent z d) (is_unknown (partner b z)) t in
    subst (λ w. Asker b d w) same (record { sent = two.0; alone = unknown_is (partner b z) two.1; note = note })
asker_case b d x z false t note e = cc

asker_of : (b : Book) (d : List ℕ) (x : Name) (own : Callsign) (pair : Pair) (o : Option Name) → made_last b.made own pair ≡ o → if_asked b d o ≡ Some x → Asker b d x
asker_of b d x own pair None e h = cc
asker_of b d x own pair (Some z) e h = asker_case b d x z (has_sent b.sent z d && is_unknown (partner b z)) refl (last_noted b.made own pair z e) h

asker_by : (b : Book) (d : List ℕ) (x : Name) (r : Result DatagramHead DatagramRefusal) → asked_by b d r ≡ Some x → Asker b d x
asker_by b d x (Err e) h = cc
asker_by b d x (Ok head) h = asker_of b d x head.origin (pair_at 0 (drop 15 d)) (made_last b.made head.origin (pair_at 0 (drop 15 d))) refl h

asked_for : (net : Net) (k : Kept net) (s : SetState) (own pair to : Pair) (window now : ℕ) (user node : Callsign) (d : List ℕ) → SetInv s → transport_at (drop 15 d) ≡ Ok (Request to window user node)
    → (x : Name) → requester net.book (Some d) ≡ Some x → AskedBy net x (responding own pair window s.config now).end
asked_for net k s own pair to window now user node d inv read x e =
    let a : Asker net.book d x = asker_by net.book d x (head_at d) e in
    let f : Said k.past x d = said k.past net.book.sent x d k.noted a.sent in
    let j = k.made x a.note in
    let o : EndInv net k.past x j.0 = k.ends x j.0 j.1 in
    let r = copy_reads d f.note.datagram f.past.flight.out f.copy f.entry.spelled in
    let two : Ok f.past.flight.out ≡ Ok (Request to window user node) = sym r.transport ∙ read in
    let out : f.past.flight.out ≡ Request to window user node = cc in
    let ask : AskOf j.0.end (Request to window user node) f.past.flight.number = subst (λ t. AskOf j.0.end t f.past.flight.number) out (o.asks f.past f.inside f.by) in
    let wide : window ≡ j.0.end.config.window = ask.1 in
    let some : 1 ≤ j.0.end.config.window = o.some in
    let own_some : 1 ≤ s.config.window = inv.some in
    let own_most : s.config.window ≤ 127 = inv.most in
    let w : ℕ = common_window s.config.window window in
    let role : j.0.end.role ≡ Requester user node = ask.0 in
    record {
      end = j.0;
      there = j.1;
      alone = a.alone;
      window = w;
      fits = omega arith;
      of_x = record { some = omega arith; own = omega arith; is = λ q. let bad : Requester user node ≡ Responder = sym role ∙ q in cc };
      of_y = record { some = omega arith; own = omega arith; is = λ q. refl };
    }

-- ---- the step of a set ----
end_id_case : (id : ℕ) (x h : Holder) (hs : List Holder) (b : Bool) → nat_eq x.id id ≡ b → (if b then Some x else end_of id hs) ≡ Some h → (end_of id hs ≡ Some h → h.id ≡ id) → h.id ≡ id
end_id_case id x h hs true t e later = let same : x ≡ h = cc in let n : x.id ≡ id = grind (arith, nat_tests) in ap (λ (k : Holder). k.id) (sym same) ∙ n
end_id_case id x h hs false t e later = later e

end_id : (id : ℕ) (h : Holder) (hs : List Holder) → end_of id hs ≡ Some h → h.id ≡ id
end_id id h [] e = cc
end_id id h (x ∷ hs) e = end_id_case id x h hs (nat_eq x.id id) refl e (end_id id h hs)

either_done : (P : SetDone → Type 0) (b : Bool) (x y : SetDone) → P x → P y → P (if b then x else y)
either_done P true x y p q = p
either_done P false x y p q = q

some_asked : (o : Option Pair) (p : Pair) → asked_with o p ≡ true → (q : Pair) × (o ≡ Some q)
some_asked None p e = cc
some_asked (Some q) p e = (q, refl)

-- who has a partner keeps it
abbrev Stays : Book → Book → Type 0
Stays b c = (x y : Name) → partner b x ≡ Some y → partner c x ≡ Some y

module _ (net : Net) (k : Kept net) (n : ℕ) (s : SetState) (here : slice_get net.sets n ≡ Some s) where
  -- what a step comes to is kept, where what it heeds is timely
  abbrev K : SetDone → Type 0
  K done =
      Timely allowance_at net.book (events_at n s.own done.told)
      → Kept (record { sets = slice_set net.sets n done.set; book = with_events net.book (events_at n s.own done.told) }) × Stays net.book (with_events net.book (events_at n s.own done.told))

  told_stays : (b : Book) (h : Holder) (g : Effect) → Stays b (with_events b (events_at n s.own (told_by s h g)))
  told_stays b h g x y e = ap (λ ms. partner_in ms x) (told_noted s n s.own h g b).made ∙ same_partners (record { node = n; id = h.id }) x g.notes b.made ∙ e

  same_net : (ss : List SetState) → ss ≡ net.sets → Kept (record { sets = ss; book = net.book })
  same_net ss e = subst (λ xs. Kept (record { sets = xs; book = net.book })) (sym e) k

  untold_so : K (does_nothing s)
  untold_so time = (same_net (slice_set net.sets n s) (acts.set_self net.sets n s here), λ x y e. e)

  inv : SetInv s
  inv = k.sets n s here

  called_case : (id : ℕ) (call : Call) (now : ℕ) (o : Option Holder) → end_of id s.ends ≡ o → K (after_call s o call now)
  called_case id call now None e = untold_so
  called_case id call now (Some h) e =
      let there : end_of h.id s.ends ≡ Some h = ap (λ i. end_of i s.ends) (end_id id h s.ends e) ∙ e in
      either_done K h.gone (does_nothing s) (goes_to s h [] (step h.end (input_of call) now)) untold_so
      (λ time. (acts.goes net k n s h here there (step h.end (input_of call) now) (acts.called_move net k n s h here there call now), told_stays net.book h (step h.end (input_of call) now)))

  discard_case : (id : ℕ) (o : Option Holder) → end_of id s.ends ≡ o → K (after_discarding s o)
  discard_case id None e = untold_so
  discard_case id (Some h) e =
      let there : end_of h.id s.ends ≡ Some h = ap (λ i. end_of i s.ends) (end_id id h s.ends e) ∙ e in
      let b : Book = record { places = suc net.book.places; made = net.book.made; sent = net.book.sent; heard = net.book.heard } in
      either_done K (not h.gone && has_ended h.end.phase) _ (does_nothing s)
      (λ time. (moved net k n s h (begin h.end) net.book b true here there (acts.discard_move net k n s h here there) (record { sent = refl; made = refl; heard = refl; places = omega arith }), λ x y e. e)) untold_so

  new_end : (at : Callsign) (asked : Option Pair) (request : Option (List ℕ)) (g : Effect) → IsMade net s at asked (requester net.book request) g → K (makes_end s at asked request g)
  new_end at asked request g m time =
      let y : Name = record { node = n; id = s.number } in
      let b : Book = record { places = suc net.book.places; made = record { who = y; own = s.own; pair = new_pair s; partner = requester net.book request; told = [] } ∷ net.book.made; sent = net.book.sent; heard = net.book.heard } in
      let h : Holder = record { id = s.number; at = at; asked = asked; end = g.end; gone = is_over g.end } in (
        making.made net k n s at asked (new_pair s) (pair_after (new_pair s)) (requester net.book request) g (with_events b (events_at n s.own (told_by s h g))) (is_over g.end) here m (told_noted s n s.own h g b),
        making.partner_stays net k n s at asked (new_pair s) (pair_after (new_pair s)) (requester net.book request) g (with_events b (events_at n s.own (told_by s h g))) (is_over g.end) here m (told_noted s n s.own h g b),
      )

  refused_so : (origin : Callsign) (pair : Pair) → IsCallsign origin.letters origin.ssid
      → K (record { set = s; told = Sent 0 None (datagram_to s origin (Refuse pair)) ∷ [] })
  refused_so origin pair call time = (
    subst (λ xs. Kept (record { sets = xs; book = with_event net.book (record { node = n; own = s.own; told = Sent 0 None (datagram_to s origin (Refuse pair)) }) })) (sym (acts.set_self net.sets n s here))
        (refusing.refused net k n s (Refuse pair) (datagram_to s origin (Refuse pair)) here
        (record { head = record { origin = s.own; dest = origin; ttl = s.ttl }; is = refl; origin = inv.own; dest = call; transport = tt })),
    λ x y e. e,
  )

  requested_case : (origin : Callsign) (d : List ℕ) (pair : Pair) (window now : ℕ) (user node : Callsign) (o : Option Holder) → first_open (opened_by origin pair) s.ends ≡ o → IsCallsign origin.letters origin.ssid
      → transport_at (drop 15 d) ≡ Ok (Request pair window user node)
      → K (elim o as (λ x. SetDone) [
        | Some h ↦ goes_to s h [] (accept_again h.end)
        | None ↦ (if is_full s then record { set = s; told = Sent 0 None (datagram_to s origin (Refuse pair)) ∷ [] }
            else makes_end s origin (Some pair) (Some d) (responding (new_pair s) pair window s.config (min now COUNT_MAX)))
      ])
  requested_case origin d pair window now user node (Some h) e call read =
      let f = open_found (opened_by origin pair) h s.ends e in
      let there : end_of h.id s.ends ≡ Some h = inv.one h f.0 in
      let asked : asked_with h.asked pair ≡ true = (and_parts (asked_with h.asked pair) (same_call h.at origin) (and_parts (is_open h) (opened_by origin pair h) f.1).1).0 in
      let q = some_asked h.asked pair asked in
      let role : h.end.role ≡ Responder = (acts.inv net k n s h here there).answers q.0 q.1 in
      λ time. (acts.goes net k n s h here there (accept_again h.end) (acts.again_move net k n s h here there role), told_stays net.book h (accept_again h.end))
  requested_case origin d pair window now user node None e call read =
      either_done K (is_full s) _ (makes_end s origin (Some pair) (Some d) (responding (new_pair s) pair window s.config (min now COUNT_MAX))) (refused_so origin pair call)
      (new_end origin (Some pair) (Some d) (responding (new_pair s) pair window s.config (min now COUNT_MAX))
      (responder_made net s (new_pair s) pair origin window (min now COUNT_MAX) (requester net.book (Some d)) inv call
      (asked_for net k s (new_pair s) pair pair window (min now COUNT_MAX) user node d inv read)))

  heeds_case : (h : Holder) (d : List ℕ) (t : Transport) (now : ℕ) (b : Bool) → end_of h.id s.ends ≡ Some h → transport_at (drop 15 d) ≡ Ok t → heeds h.end.phase t ≡ b
      → K (goes_to s h (if b then Heeded h.id d ∷ [] else []) (step h.end (Arrive t) now))
  heeds_case h d t now true there read e time = (acts.heeds_it net k n s h here there d t now read e time.0, told_stays (with_event net.book (record { node = n; own = s.own; told = Heeded h.id d })) h (step h.end (Arrive t) now))
  heeds_case h d t now false there read e time = (acts.goes net k n s h here there (step h.end (Arrive t) now) (acts.unheeded_move net k n s h here there t now e), told_stays net.book h (step h.end (Arrive t) now))

  arrives_case : (origin : Callsign) (d : List ℕ) (to : Pair) (t : Transport) (now : ℕ) (o : Option Holder) → first_open (named_by origin to) s.ends ≡ o → transport_at (drop 15 d) ≡ Ok t
      → K (elim o as (λ x. SetDone) [
        | Some h ↦ goes_to s h (if heeds h.end.phase t then Heeded h.id d ∷ [] else []) (step h.end (Arrive t) now)
        | None ↦ does_nothing s
      ])
  arrives_case origin d to t now None e read = untold_so
  arrives_case origin d to t now (Some h) e read =
      let f = open_found (named_by origin to) h s.ends e in heeds_case h d t now (heeds h.end.phase t) (inv.one h f.0) read refl

  arrives_so : (origin : Callsign) (d : List ℕ) (to : Pair) (t : Transport) (now : ℕ) → transport_at (drop 15 d) ≡ Ok t → K (arrives_at s origin d to t now)
  arrives_so origin d to t now read = arrives_case origin d to t now (first_open (named_by origin to) s.ends) refl read

  received_so : (origin : Callsign) (d : List ℕ) (t : Transport) (now : ℕ) → IsCallsign origin.letters origin.ssid → transport_at (drop 15 d) ≡ Ok t → K (after_transport s origin d t now)
  received_so origin d (Request pair window user node) now call read = requested_case origin d pair window now user node (first_open (opened_by origin pair) s.ends) refl call read
  received_so origin d (Accept to own window) now call read = arrives_so origin d to (Accept to own window) now read
  received_so origin d (Refuse to) now call read = arrives_so origin d to (Refuse to) now read
  received_so origin d (Disconnect to) now call read = arrives_so origin d to (Disconnect to) now read
  received_so origin d (Disconnected to) now call read = arrives_so origin d to (Disconnected to) now read
  received_so origin d (Info to tx rx flags text) now call read = arrives_so origin d to (Info to tx rx flags text) now read
  received_so origin d (InfoAck to rx flags) now call read = arrives_so origin d to (InfoAck to rx flags) now read

  read_case : (origin : Callsign) (d : List ℕ) (r : Result Transport TransportRefusal) (now : ℕ) → IsCallsign origin.letters origin.ssid → transport_at (drop 15 d) ≡ r → K (read_as s origin d r now)
  read_case origin d (Err e) now call read = untold_so
  read_case origin d (Ok t) now call read = received_so origin d t now call read

  handed_case : (d : List ℕ) (r : Result DatagramHead DatagramRefusal) (now : ℕ) → head_at d ≡ r → K (after_datagram s d r now)
  handed_case d (Err e) now h = untold_so
  handed_case d (Ok head) now h =
      either_done K (same_call head.origin s.own || not (same_call head.dest s.own)) (does_nothing s) (read_as s head.origin d (transport_at (drop 15 d)) now) untold_so
      (read_case head.origin d (transport_at (drop 15 d)) now (origin_read d head h) refl)

  connected_so : (user dest : Callsign) (now : ℕ) → IsCallsign user.letters user.ssid → IsCallsign dest.letters dest.ssid → K (after_connecting_for s user dest now)
  connected_so user dest now asker call =
      either_done K (same_call dest s.own || is_full s) (does_nothing s) (makes_end s dest None None (requesting (new_pair s) user s.own s.config (min now COUNT_MAX))) untold_so
      (new_end dest None None (requesting (new_pair s) user s.own s.config (min now COUNT_MAX)) (requester_made net s (new_pair s) user dest (min now COUNT_MAX) inv asker call))

  restarted_so : (pair : Pair) (more : ℕ) → K (after_restart s pair more)
  restarted_so pair more time =
      let b : Book = record { places = suc net.book.places; made = net.book.made; sent = net.book.sent; heard = net.book.heard } in
      let r = noted_losses n s.own s.ends b in
      let low : suc net.book.places ≤ r.0 = r.1 in (
        subst (λ c. Kept (record { sets = slice_set net.sets n (after_restart s pair more).set; book = c })) (sym r.2) (restarting.restart_kept net k n s pair more r.0 here (omega arith)),
        λ x y e. ap (λ c. partner c x) r.2 ∙ e,
      )

  pub act_so : (act : Act) → IsAct act → K (set_step s act)
  act_so (Connect dest now) call = connected_so s.user dest now inv.user call
  act_so (ConnectFor user dest now) call = connected_so user dest now call.0 call.1
  act_so (Comes d now) call = handed_case d (head_at d) now refl
  act_so (Calls id call now) is = called_case id call now (end_of id s.ends) refl
  act_so (Discard id) call = discard_case id (end_of id s.ends) refl
  act_so (Restart pair more) call = restarted_so pair more

-- ---- a run ----
step_case : (net : Net) (st : Step) (o : Option SetState) → Kept net → IsAct st.act → slice_get net.sets st.node ≡ o → Timely allowance_at net.book (told_at net.sets st.node o st.act)
    → Kept (record { sets = sets_at net.sets st.node o st.act; book = with_events net.book (told_at net.sets st.node o st.act) }) × Stays net.book (with_events net.book (told_at net.sets st.node o st.act))
step_case net st None k act e time = (k, λ x y e. e)
step_case net st (Some s) k act e time = act_so net k st.node s e st.act act time

pub step_kept : (net : Net) (st : Step) → Kept net → IsAct st.act → Timely allowance_at net.book (told_at net.sets st.node (slice_get net.sets st.node) st.act) → Kept (net_step net st) × Stays net.book (net_step net st).book
step_kept net st k act time = step_case net st (slice_get net.sets st.node) k act refl time

pub timely_parts : (allow : Book → Name → ℕ) (b : Book) (xs ys : List Event) → Timely allow b (xs ++ ys) → Timely allow b xs × Timely allow (with_events b xs) ys
timely_parts allow b [] ys t = (tt, t)
timely_parts allow b (x ∷ xs) ys t = let r = timely_parts allow (with_event b x) xs ys t.1 in ((t.0, r.0), r.1)

pub run_kept : (net : Net) (steps later : List Step) → Kept net → AreSteps (steps ++ later) → Timely allowance_at net.book (events_of net.sets (steps ++ later)) → Kept (net_run net steps)
run_kept net [] later k are time = k
run_kept net (st ∷ sts) later k are time =
    let told : List Event = told_at net.sets st.node (slice_get net.sets st.node) st.act in
    let parts = timely_parts allowance_at net.book told (events_of (sets_at net.sets st.node (slice_get net.sets st.node) st.act) (sts ++ later)) time in
    run_kept (net_step net st) sts later (step_kept net st k are.0 parts.0).0 are.1 parts.1

pub run_stays : (net : Net) (steps : List Step) → Kept net → AreSteps steps → Timely allowance_at net.book (events_of net.sets steps) → (x y : Name) → partner net.book x ≡ Some y → partner (net_run net steps).book x ≡ Some y
run_stays net [] k are time x y e = e
run_stays net (st ∷ sts) k are time x y e =
    let told : List Event = told_at net.sets st.node (slice_get net.sets st.node) st.act in
    let parts = timely_parts allowance_at net.book told (events_of (sets_at net.sets st.node (slice_get net.sets st.node) st.act) sts) time in
    let next = step_kept net st k are.0 parts.0 in
    run_stays (net_step net st) sts next.0 are.1 parts.1 x y (next.1 x y e)

-- partners of a beginning of a run are so at its end
pub later_stays : (net : Net) (steps later : List Step) → Kept net → AreSteps (steps ++ later) → Timely allowance_at net.book (events_of net.sets (steps ++ later))
    → (x y : Name) → partner (net_run net steps).book x ≡ Some y → partner (net_run net (steps ++ later)).book x ≡ Some y
later_stays net [] later k are time x y e = run_stays net later k are time x y e
later_stays net (st ∷ sts) later k are time x y e =
    let told : List Event = told_at net.sets st.node (slice_get net.sets st.node) st.act in
    let parts = timely_parts allowance_at net.book told (events_of (sets_at net.sets st.node (slice_get net.sets st.node) st.act) (sts ++ later)) time in
    later_stays (net_step net st) sts later (step_kept net st k are.0 parts.0).0 are.1 parts.1 x y e
